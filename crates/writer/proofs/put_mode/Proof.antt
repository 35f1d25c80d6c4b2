-- `writer::put_mode` meets its contract: the mark stands in the word, and behind it the number.
-- Assumes nothing.
use native.Mathlib.Omega.{arith}
use borrow.Author.Rules.{rules}
use Rattle.writer.specs.Shown.{mode_line}
use Rattle.writer.proofs.put_mode.Statement.{statement}
use Rattle.writer.proofs.put_mode.Tie as tie

array_write_word : tie.Need-bounds-word-5
array_write_word c = search rules

slice_aggregate_put_word : tie.Need-slice_bounds-put_word-end
slice_aggregate_put_word c = search rules

put_word_requires : tie.Need-put_word-requires
put_word_requires c κs = search rules

same_length : tie.Need-shape_of-out
same_length c = search rules

returns : tie.Need-returns
unfolding mode_line
returns c = let p = c.put_word.ensures in (p.0, omega (arith, p.1))

pub put_mode_spec : {M : Type 1} → statement M
put_mode_spec = tie.close (tie.spec array_write_word slice_aggregate_put_word put_word_requires same_length returns)
