-- Each turn passes over one line.
use Rattle.std.proofs.Common.{◌∙◌}
use Rattle.places.proofs.LineStarts.{line_first, line_on_lem}
use Rattle.places.proofs.line_start.Goals as goal

pub loop-init : goal.loop-init
loop-init c = line_first _

pub loop-preserved : goal.loop-preserved
loop-preserved c = c.next_line-at.ensures ∙ line_on_lem _ 0 c.loop.counter c.loop.invariant
