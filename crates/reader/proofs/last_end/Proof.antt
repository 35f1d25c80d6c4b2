-- The last field ends behind its letter, or where it begins.
use borrow.Author.Rules.{rules}
use Rattle.reader.proofs.PlaceLaws.{last_beyond, last_none, last_marked}
use Rattle.reader.proofs.last_end.Statement.{statement}
use Rattle.reader.proofs.last_end.Tie as tie

returns : tie.Need-returns-then-s-at
returns c = last_beyond _ _ c.if-s-at.true

shared_slice_read_if2 : tie.Need-bounds-s-at
shared_slice_read_if2 c = search rules

returns_2 : tie.Need-returns-then-s-at-ne68
returns_2 c = last_none _ _ c.if-s-at.false c.if-s-at-ne68.true

add_result : tie.Need-overflow_add-result
add_result c = search rules

returns_3 : tie.Need-returns
returns_3 c = last_marked _ _ c.if-s-at.false c.if-s-at-ne68.false

pub last_end_spec : {M : Type 1} → statement M
last_end_spec = tie.close (tie.spec returns shared_slice_read_if2 returns_2 add_result returns_3)
