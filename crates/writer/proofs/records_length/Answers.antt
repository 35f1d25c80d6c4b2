-- The record of a turn lies in order, and what is measured stays small.
use Prim.Native.Nat.{ℕ}
use native.Mathlib.Omega.{arith}
use mathlib.Core.Path.{◌≡◌, ap, ◌∙◌}
use lib.ListN.{length}
use Rattle.rules.specs.Text.{Text}
use Rattle.writer.specs.RecordText.{numbered_text}
use Rattle.writer.proofs.RecordLoops.{log_small, begins_inside, lies_here, record_here, records_are}
use Rattle.writer.proofs.TextsLaws.{nothing_measured, next_measured, starts_first, starts_behind}
use Rattle.writer.proofs.records_length.Goals as goal

pub loop-i-init : goal.loop-i-init
loop-i-init c = (starts_first 2 _ _, nothing_measured _, omega arith)

pub record_length-sum-requires : goal.record_length-sum-requires
record_length-sum-requires c =
    let l = lies_here c.requires.0 c.loop-i.i c.loop-i-test.true c.loop-i.invariant.0 in
    (l.order, l.rise, omega (arith, l.close, l.inside))

pub overflow_add-sum : goal.overflow_add-sum
overflow_add-sum c =
    let l = lies_here c.requires.0 c.loop-i.i c.loop-i-test.true c.loop-i.invariant.0 in
    omega (arith, c.loop-i.invariant.2, c.record_length-sum.ensures.1, l.order, l.rise, l.close, l.inside, c.requires.1, log_small)

pub loop-i-preserved : goal.loop-i-preserved
loop-i-preserved c =
    let a = c.args in
    let k = c.loop-i.invariant in
    let l = lies_here c.requires.0 c.loop-i.i c.loop-i-test.true k.0 in
    let here = record_here a.s.now a.first a.points.now a.pointsends.now a.ends.now a.numbers.now c.loop-i.i k.0 in
    let each : ℕ → Text = numbered_text a.s.now a.first a.points.now a.pointsends.now a.ends.now a.numbers.now in (
      starts_behind 2 _ _ _ c.behind_end-start.ensures,
      next_measured each c.loop-i.i k.1 (c.record_length-sum.ensures.0 ∙ ap length here),
      omega (arith, k.2, c.record_length-sum.ensures.1, l.order, l.rise, l.close, c.behind_end-start.ensures),
    )

pub returns : goal.returns
returns c =
    let k = c.loop-i.invariant in
    let a = c.args in
    let all : c.loop-i.i ≡ length a.numbers.now = omega arith in
    let whole = records_are a.s.now a.first a.points.now a.pointsends.now a.ends.now a.numbers.now c.loop-i.i all in
    (k.1 ∙ ap length whole, omega (arith, k.2, k.0, begins_inside c.requires.0 c.loop-i.i (omega (arith, all))))
