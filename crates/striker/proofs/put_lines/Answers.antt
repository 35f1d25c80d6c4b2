-- The line of a turn lies in order, and there is room for what is left of it.
use native.Mathlib.Omega.{arith}
use mathlib.Core.Path.{refl, ap}
use Prim.Native.Nat.{ℕ}
use lib.ListN.{length}
use Rattle.rules.specs.Striking.{marked}
use Rattle.rules.specs.Text.{Text}
use Rattle.writer.proofs.TextsLaws.{nothing_put, next_room, next_put, starts_first, starts_behind}
use Rattle.writer.proofs.WrittenLaws.{puts_as}
use Rattle.striker.specs.KeptText.{numbered_line}
use Rattle.striker.proofs.LineLoops.{lies_here, line_here, lines_are_lem}
use Rattle.striker.proofs.put_lines.Goals as goal

-- src/lib.rt:76:5
pub loop-i-init : goal.loop-i-init
loop-i-init c = (starts_first 2 _ _, nothing_put _ _ _ (omega (arith, c.requires.struck_in_bounds)))

-- src/lib.rt:78:14
pub put_line-to-requires : goal.put_line-to-requires
put_line-to-requires c =
    let a = c.args in
    let struck = marked a.struck.now in
    let each : ℕ → Text = numbered_line a.log.now a.first a.ends.now struck in
    let i = c.loop-i.i in
    let l = lies_here c.requires.lines_lie.0 i c.loop-i-test.true c.loop-i.invariant.0 in
    let here = line_here a.log.now a.first a.ends.now struck i c.loop-i.invariant.0 c.behind_end-next.ensures c.is_struck.ensures in
    let whole = lines_are_lem a.log.now a.first a.ends.now struck (length a.ends.now) refl in
    let room = next_room each c.loop-i.invariant.1 (length a.ends.now) c.loop-i-test.true (omega (arith, ap length whole, c.requires.struck_in_bounds)) in
    (omega (arith, l.order, c.behind_end-next.ensures), omega (arith, l.inside, c.behind_end-next.ensures), omega (arith, ap length here, room))

-- src/lib.rt:76:5
pub loop-i-preserved : goal.loop-i-preserved
loop-i-preserved c =
    let a = c.args in
    let struck = marked a.struck.now in
    let here = line_here a.log.now a.first a.ends.now struck c.loop-i.i c.loop-i.invariant.0 c.behind_end-next.ensures c.is_struck.ensures in
    (starts_behind 2 _ _ _ c.behind_end-next.ensures, next_put (numbered_line a.log.now a.first a.ends.now struck) c.loop-i.invariant.1 (puts_as c.put_line-to.ensures here))

-- src/lib.rt:67:1
pub returns : goal.returns
returns c = puts_as c.loop-i.invariant.1 (lines_are_lem _ _ _ _ c.loop-i.i (omega arith))
