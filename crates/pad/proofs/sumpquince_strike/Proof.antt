-- What the striker answers is handed out in C's struct, and the slice is as the striker leaves it.
-- Assumes nothing.
use mathlib.Core.Path.{ap, ◌∙◌}
use borrow.Author.Rules.{rules}
use Rattle.pad.specs.Face.{wrote_face}
use Rattle.pad.proofs.FaceLaws.{written_shown}
use Rattle.pad.proofs.sumpquince_strike.Statement.{statement}
use Rattle.pad.proofs.sumpquince_strike.Tie as tie

strike_requires : tie.Need-strike-requires
strike_requires c κs = search rules

written_face_requires : tie.Need-written_face-requires
written_face_requires c κs = search rules

same_length : tie.Need-shape_of-out
same_length c = search rules

returns : tie.Need-returns
returns c =
    let w = c.strike.ensures in
    (c.written_face.ensures ∙ ap wrote_face w.0 ∙ written_shown _, w.1)

pub sumpquince_strike_spec : {M : Type 1} → statement M
sumpquince_strike_spec =
    tie.close (tie.spec strike_requires written_face_requires same_length returns)
