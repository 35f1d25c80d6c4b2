-- The count line that is made is taken by the reader's step.
-- Assumes nothing.
use borrow.Author.Rules.{rules}
use mathlib.Core.Path.{sym}
use lib.ListN.{replicate}
use lib.Seq.{length-take-le}
use Rattle.rules.specs.Rules.{base}
use Rattle.writer.proofs.TextLaid.{word_fits, word_is}
use Rattle.mender.proofs.NextLaws.{count_ruled, next_of_step}
use Rattle.mender.proofs.count_next.Statement.{statement}
use Rattle.mender.proofs.count_next.Tie as tie

count_line_requires : tie.Need-count_line-end-requires
count_line_requires c κs = search rules

array_share_prefix_word : tie.Need-slice_bounds-word-end
array_share_prefix_word c = word_fits _ (replicate 33 0) c.count_line-end.ensures.0 c.count_line-end.ensures.1

slice_aggregate_step : tie.Need-slice_bounds-step-end
slice_aggregate_step c = sym (length-take-le _ _ (array_share_prefix_word c.before))

step_requires : tie.Need-step-requires
step_requires c κs = search rules

returns : tie.Need-returns
returns c =
    let w = c.before.before in
    let b = w in
    next_of_step base _ _ (count_ruled b.args.n b.requires) (word_is _ (replicate 33 0) w.count_line-end.ensures.0 w.count_line-end.ensures.1) c.step.ensures

pub count_next_spec : {M : Type 1} → statement M
count_next_spec =
    tie.close
    (tie.spec
    count_line_requires
    array_share_prefix_word
    slice_aggregate_step
    step_requires
    returns)
