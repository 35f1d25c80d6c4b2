-- The record of a turn lies in order, and there is room for it.
use Prim.Native.Nat.{ℕ}
use native.Mathlib.Omega.{arith}
use mathlib.Core.Path.{refl, ap}
use lib.ListN.{length}
use Rattle.rules.specs.Text.{Text}
use Rattle.writer.specs.RecordText.{numbered_text}
use Rattle.writer.proofs.RecordLoops.{lies_here, record_here, records_are}
use Rattle.writer.proofs.TextsLaws.{nothing_put, next_room, next_put, starts_first, starts_behind}
use Rattle.writer.proofs.WrittenLaws.{puts_as}
use Rattle.writer.proofs.put_records.Goals as goal

pub loop-i-init : goal.loop-i-init
loop-i-init c = (starts_first 2 _ _, nothing_put _ _ _ (omega (arith, c.requires.numbers_in_bounds)))

pub put_record-end-requires-clause-start_le_points : goal.put_record-end-requires-clause-start_le_points
put_record-end-requires-clause-start_le_points c =
    let l = lies_here c.requires.records_lie c.loop-i.i c.loop-i-test.true c.loop-i.invariant.0 in
    (l.order, l.rise, omega (arith, l.close, l.inside))

pub put_record-end-requires-clause-number_in_bounds : goal.put_record-end-requires-clause-number_in_bounds
put_record-end-requires-clause-number_in_bounds c =
    let a = c.args in
    let each : ℕ → Text = numbered_text a.s.now a.first a.points.now a.pointsends.now a.ends.now a.numbers.now in
    let here = record_here a.s.now a.first a.points.now a.pointsends.now a.ends.now a.numbers.now c.loop-i.i c.loop-i.invariant.0 in
    let whole = records_are a.s.now a.first a.points.now a.pointsends.now a.ends.now a.numbers.now (length a.numbers.now) refl in
    let room = next_room each c.loop-i.invariant.1 (length a.numbers.now) c.loop-i-test.true (omega (arith, ap length whole, c.requires.numbers_in_bounds)) in
    omega (arith, ap length here, room)

pub loop-i-preserved : goal.loop-i-preserved
loop-i-preserved c =
    let a = c.args in
    let here = record_here a.s.now a.first a.points.now a.pointsends.now a.ends.now a.numbers.now c.loop-i.i c.loop-i.invariant.0 in
    (starts_behind 2 _ _ _ c.behind_end-start.ensures, next_put (numbered_text a.s.now a.first a.points.now a.pointsends.now a.ends.now a.numbers.now) c.loop-i.invariant.1 (puts_as c.put_record-end.ensures here))

pub returns : goal.returns
returns c = puts_as c.loop-i.invariant.1 (records_are _ _ _ _ _ _ c.loop-i.i (omega arith))
