-- The code's word for what was written is put in C's struct.
-- Assumes nothing.
use borrow.Author.Rules.{rules}
use Rattle.pad.proofs.FaceLaws.{length_shown, unwritten_shown}
use Rattle.pad.proofs.written_face.Statement.{statement}
use Rattle.pad.proofs.written_face.Tie as tie

enum_known_w : tie.Need-enum_known-w
enum_known_w c = search rules

no_refusal_requires : tie.Need-no_refusal-requires
no_refusal_requires c κs = search rules

enum_known_w_2 : tie.Need-enum_known-w-in-Err-1
enum_known_w_2 c = search rules

from_requires : tie.Need-from-requires
from_requires c κs = search rules

returns : tie.Need-returns-in-Ok
returns c = length_shown c.no_refusal.ensures c.in-Ok.is

returns_2 : tie.Need-returns-in-Err
returns_2 c = unwritten_shown c.from.ensures c.in-Err.is

pub written_face_spec : {M : Type 1} → statement M
written_face_spec =
    tie.close
    (tie.spec
    enum_known_w
    no_refusal_requires
    enum_known_w_2
    from_requires
    returns
    returns_2)
