-- A remark goes on, and the count line is read behind its front.
use borrow.Author.Rules.{rules}
use mathlib.Core.Path.{sym, ◌∙◌}
use Rattle.rules.specs.Log.{count_start}
use Rattle.rules.specs.Rules.{base}
use Rattle.reader.proofs.DueLaws.{count_long, count_line, a_remark}
use Rattle.reader.proofs.remark_step.Statement.{statement}
use Rattle.reader.proofs.remark_step.Tie as tie

begins_with_requires : tie.Need-begins_with-requires
begins_with_requires c κs = search rules

sub_count_step : tie.Need-slice_bounds-count_step-count
unfolding count_start
sub_count_step c = count_long base _ (sym c.begins_with.ensures ∙ c.if-begins_with.true)

part_count_step_start : tie.Need-slice_bounds-count_step-start
unfolding count_start
part_count_step_start c = count_long base _ (sym c.begins_with.ensures ∙ c.if-begins_with.true)

part_count_step_end : tie.Need-slice_bounds-count_step-end
part_count_step_end c = search rules

count_step_requires : tie.Need-count_step-requires
count_step_requires c κs = search rules

returns : tie.Need-returns-then-begins_with
unfolding count_start
returns c =
    count_line base _ (sym c.begins_with.ensures ∙ c.if-begins_with.true) c.count_step.ensures

returns_2 : tie.Need-returns
unfolding count_start
returns_2 c = a_remark base _ (sym c.begins_with.ensures ∙ c.if-begins_with.false)

pub remark_step_spec : {M : Type 1} → statement M
remark_step_spec =
    tie.close
    (tie.spec
    begins_with_requires
    sub_count_step
    part_count_step_start
    part_count_step_end
    count_step_requires
    returns
    returns_2)
