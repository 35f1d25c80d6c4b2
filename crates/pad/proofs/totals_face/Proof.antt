-- The totals behind a refusal, as C's struct.
use Rattle.pad.specs.Face.{totals_face}
use borrow.Author.Rules.{rules}
use Rattle.pad.proofs.totals_face.Statement.{statement}
use Rattle.pad.proofs.totals_face.Tie as tie

mode_numbers_requires : tie.Need-mode_numbers-numbers-requires
mode_numbers_requires c κs = search rules

returns : tie.Need-returns
unfolding totals_face
returns c = rw c.mode_numbers-numbers.ensures

pub totals_face_spec : {M : Type 1} → statement M
totals_face_spec = tie.close (tie.spec mode_numbers_requires returns)
