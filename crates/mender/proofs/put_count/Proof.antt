-- The count line that is made is laid over the slice.
-- Assumes nothing.
use borrow.Author.Rules.{rules}
use mathlib.Core.Path.{sym}
use lib.ListN.{replicate}
use lib.Seq.{length-take-le}
use Rattle.writer.proofs.TextLaid.{laid_text, word_fits, word_is}
use Rattle.mender.proofs.put_count.Statement.{statement}
use Rattle.mender.proofs.put_count.Tie as tie

count_line_requires : tie.Need-count_line-end-requires
count_line_requires c κs = search rules

array_share_prefix_word : tie.Need-slice_bounds-word-end
array_share_prefix_word c = word_fits _ (replicate 33 0) c.count_line-end.ensures.0 c.count_line-end.ensures.1

slice_aggregate_put_text : tie.Need-slice_bounds-put_text-end
slice_aggregate_put_text c = sym (length-take-le _ _ (array_share_prefix_word c.before))

put_text_requires : tie.Need-put_text-requires
put_text_requires c κs = search rules

same_length : tie.Need-shape_of-out
same_length c = search rules

returns : tie.Need-returns
returns c =
    let t = c.before.before in
    let w = t in
    laid_text (word_is _ (replicate 33 0) w.count_line-end.ensures.0 w.count_line-end.ensures.1) w.requires t.put_text.ensures

pub put_count_spec : {M : Type 1} → statement M
put_count_spec =
    tie.close
    (tie.spec
    count_line_requires
    array_share_prefix_word
    slice_aggregate_put_text
    put_text_requires
    same_length
    returns)
