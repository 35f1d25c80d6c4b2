-- A place is stored where the list has room for it.
use borrow.Author.Rules.{rules}
use native.Mathlib.Omega.{arith}
use mathlib.Core.Path.{sym}
use lib.Seq.{set_out}
use Rattle.reader.proofs.HeadLaws.{log_small}
use Rattle.reader.proofs.note.Statement.{statement}
use Rattle.reader.proofs.note.Tie as tie

cast_list : tie.Need-overflow_cast-list
cast_list c = omega (arith, c.requires, log_small)

mul_list : tie.Need-offset_bounds-list-i
mul_list c = search rules

slice_write_list : tie.Need-bounds-list-i
slice_write_list c = search rules

same_length : tie.Need-shape_of-list
same_length c = search rules

returns : tie.Need-returns-then-i-list
returns c = search rules

returns_2 : tie.Need-returns-else-i-list
returns_2 c = sym (set_out _ _ _ c.if-i-list.false)

pub note_spec : {M : Type 1} → statement M
note_spec = tie.close (tie.spec cast_list mul_list slice_write_list same_length returns returns_2)
