-- What the reader answers is handed out in C's struct.
use Rattle.pad.proofs.FaceLaws.{records_shown, unread_shown}
use mathlib.Core.Path.{sym, ◌∙◌}
use borrow.Author.Rules.{rules}
use Rattle.pad.proofs.sumpquince_read.Statement.{statement}
use Rattle.pad.proofs.sumpquince_read.Tie as tie

read_requires : tie.Need-read-requires
read_requires c κs = search rules

enum_known_read : tie.Need-enum_known-read
enum_known_read c = search rules

no_refusal_requires : tie.Need-no_refusal-requires
no_refusal_requires c κs = search rules

enum_known_r : tie.Need-enum_known-r
enum_known_r c = search rules

from_requires : tie.Need-from-requires
from_requires c κs = search rules

returns : tie.Need-returns-in-Ok
returns c = records_shown _ c.no_refusal.ensures (sym c.in-Ok.is ∙ c.read.ensures)

returns_2 : tie.Need-returns-in-Err
returns_2 c = unread_shown _ c.from.ensures (sym c.in-Err.is ∙ c.read.ensures)

pub sumpquince_read_spec : {M : Type 1} → statement M
sumpquince_read_spec =
    tie.close
    (tie.spec
    read_requires
    enum_known_read
    no_refusal_requires
    enum_known_r
    from_requires
    returns
    returns_2)
