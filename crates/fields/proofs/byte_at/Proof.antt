-- The byte at a place, and a semicolon beyond the line.
use borrow.Author.Rules.{rules}
use Rattle.fields.proofs.ShapeLaws.{beyond, any_default}
use Rattle.fields.proofs.byte_at.Statement.{statement}
use Rattle.fields.proofs.byte_at.Tie as tie

returns : tie.Need-returns-then-s-at
returns c = beyond c.before.args.s.now c.before.args.at c.if-s-at.true

shared_slice_read_result : tie.Need-bounds-s-at
shared_slice_read_result c = search rules

returns_2 : tie.Need-returns
returns_2 c = any_default c.before.before.args.s.now c.before.before.args.at 0 59 c.before.if-s-at.false

pub byte_at_spec : {M : Type 1} → statement M
byte_at_spec = tie.close (tie.spec returns shared_slice_read_result returns_2)
