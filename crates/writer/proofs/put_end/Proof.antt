-- `writer::put_end` meets its contract: two bytes, one behind the other.
-- Assumes nothing.
use native.Mathlib.Omega.{arith}
use mathlib.Core.List.{[], ◌∷◌}
use borrow.Author.Rules.{rules}
use Rattle.rules.specs.Log.{crlf}
use Rattle.writer.proofs.WrittenLaws.{puts_room, puts_then}
use Rattle.writer.proofs.put_end.Statement.{statement}
use Rattle.writer.proofs.put_end.Tie as tie

put_byte_requires : tie.Need-put_byte-feed-requires
unfolding crlf
put_byte_requires c κs = omega arith

put_byte_requires_2 : tie.Need-put_byte-requires
unfolding crlf
put_byte_requires_2 c κs = omega (arith, puts_room c.put_byte-feed.ensures (10 ∷ []) (omega arith))

same_length : tie.Need-shape_of-out
same_length c = search rules

returns : tie.Need-returns
unfolding crlf
returns c = puts_then c.put_byte-feed.ensures c.put_byte.ensures

pub put_end_spec : {M : Type 1} → statement M
put_end_spec = tie.close (tie.spec put_byte_requires put_byte_requires_2 same_length returns)
