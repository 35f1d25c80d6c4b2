-- The line of a turn is that of its mark and its number.
use native.Mathlib.Omega.{arith}
use Rattle.writer.specs.Shown.{mode_marks, mode_line_at}
use Rattle.writer.proofs.ShownLaws.{all_modes}
use Rattle.writer.proofs.TextsLaws.{nothing_put, next_put}
use Rattle.writer.proofs.put_modes.Goals as goal

pub loop-i-init : goal.loop-i-init
loop-i-init c = (omega arith, nothing_put _ _ _ (omega (arith, c.requires)))

pub loop-i-preserved : goal.loop-i-preserved
unfolding mode_line_at mode_marks
loop-i-preserved c =
    let k = c.loop-i.invariant in
    (omega (arith, c.put_mode-end.ensures.end, k.0), next_put (mode_line_at c.args.modes.now) k.1 c.put_mode-end.ensures.text)

pub returns : goal.returns
returns c = all_modes c.args.modes.now (omega arith) c.loop-i.invariant.1
