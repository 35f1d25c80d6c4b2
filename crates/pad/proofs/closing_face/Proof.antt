-- The totals of a closing behind its refusal, as C's struct.
use mathlib.Core.Path.{ap, ◌∙◌}
use borrow.Author.Rules.{rules}
use Rattle.pad.specs.declared.SumpquinceRefusal.{SumpquinceRefusal}
use Rattle.pad.specs.Face.{totals_face, closing_face}
use Rattle.pad.proofs.closing_face.Statement.{statement}
use Rattle.pad.proofs.closing_face.Tie as tie

from_requires : tie.Need-from-requires
from_requires c κs = search rules

totals_face_requires : tie.Need-totals_face-requires
totals_face_requires c κs = search rules

returns : tie.Need-returns
unfolding closing_face
returns c =
    let totals = c.args.c.totals in
    c.totals_face.ensures ∙ ap (λ (r : SumpquinceRefusal). totals_face r totals) c.from.ensures

pub closing_face_spec : {M : Type 1} → statement M
closing_face_spec = tie.close (tie.spec from_requires totals_face_requires returns)
