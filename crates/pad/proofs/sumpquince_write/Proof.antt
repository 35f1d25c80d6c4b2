-- What the writer answers is handed out in C's struct, and the slice is as the writer leaves it.
-- Assumes nothing.
use mathlib.Core.Path.{ap, ◌∙◌}
use borrow.Author.Rules.{rules}
use Rattle.writer.specs.LogText.{wrote_of}
use Rattle.pad.specs.Face.{wrote_face}
use Rattle.pad.proofs.FaceLaws.{written_shown}
use Rattle.pad.proofs.sumpquince_write.Statement.{statement}
use Rattle.pad.proofs.sumpquince_write.Tie as tie

write_requires : tie.Need-write-requires
write_requires c κs = search rules

written_face_requires : tie.Need-written_face-requires
written_face_requires c κs = search rules

same_length : tie.Need-shape_of-out
same_length c = search rules

returns : tie.Need-returns
unfolding wrote_of
returns c =
    let w = c.write.ensures in
    (c.written_face.ensures ∙ ap wrote_face w.0 ∙ written_shown _, w.1)

pub sumpquince_write_spec : {M : Type 1} → statement M
sumpquince_write_spec =
    tie.close (tie.spec write_requires written_face_requires same_length returns)
