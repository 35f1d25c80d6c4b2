-- The totals of the session are handed out in C's struct.
use mathlib.Core.Path.{◌∙◌}
use borrow.Author.Rules.{rules}
use Rattle.pad.specs.Face.{totals_face, session_face}
use Rattle.pad.proofs.sumpquince_session_totals.Statement.{statement}
use Rattle.pad.proofs.sumpquince_session_totals.Tie as tie

no_refusal_requires : tie.Need-no_refusal-requires
no_refusal_requires c κs = search rules

totals_requires : tie.Need-totals-requires
totals_requires c κs = search rules

totals_face_requires : tie.Need-totals_face-requires
totals_face_requires c κs = search rules

returns : tie.Need-returns
unfolding session_face
returns c = c.totals_face.ensures ∙ (λ i. totals_face (c.no_refusal.ensures i) (c.totals.ensures i))

pub sumpquince_session_totals_spec : {M : Type 1} → statement M
sumpquince_session_totals_spec =
    tie.close (tie.spec no_refusal_requires totals_requires totals_face_requires returns)
