-- The count line that is made is compared with the line.
-- Assumes nothing.
use borrow.Author.Rules.{rules}
use mathlib.Core.Path.{sym, ap, ◌∙◌}
use lib.ListN.{replicate}
use lib.Seq.{length-take-le}
use Rattle.rules.specs.Text.{Text, same}
use Rattle.writer.proofs.TextLaid.{word_fits, word_is}
use Rattle.mender.proofs.is_count.Statement.{statement}
use Rattle.mender.proofs.is_count.Tie as tie

count_line_requires : tie.Need-count_line-end-requires
count_line_requires c κs = search rules

array_share_prefix_word : tie.Need-slice_bounds-word-end
array_share_prefix_word c = word_fits _ (replicate 33 0) c.count_line-end.ensures.0 c.count_line-end.ensures.1

slice_aggregate_same_text : tie.Need-slice_bounds-same_text-end
slice_aggregate_same_text c = sym (length-take-le _ _ (array_share_prefix_word c.before))

same_text_requires : tie.Need-same_text-requires
same_text_requires c κs = search rules

returns : tie.Need-returns
returns c =
    let b = c in
    let w = c in
    c.same_text.ensures ∙ ap (λ (t : Text). same t b.args.line.now) (word_is _ (replicate 33 0) w.count_line-end.ensures.0 w.count_line-end.ensures.1)

pub is_count_spec : {M : Type 1} → statement M
is_count_spec =
    tie.close
    (tie.spec
    count_line_requires
    array_share_prefix_word
    slice_aggregate_same_text
    same_text_requires
    returns)
