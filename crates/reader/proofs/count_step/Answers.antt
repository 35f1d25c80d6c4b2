-- The count line behind its front, by its digits and what stands behind them.
use mathlib.Core.Path.{sym, ◌∙◌}
use Rattle.rules.specs.Rules.{base}
use Rattle.reader.proofs.StepLaws.{count_front, count_known, count_no_number, count_unclosed, front_length}
use Rattle.reader.proofs.count_step.Goals as goal

pub slice_bounds-same_text-count : goal.slice_bounds-same_text-count
slice_bounds-same_text-count c = count_front base _ _ c.run-n.ensures

pub slice_bounds-same_text-start : goal.slice_bounds-same_text-start
slice_bounds-same_text-start c = count_front base _ _ c.run-n.ensures

pub returns-then-not-same_text : goal.returns-then-not-same_text
returns-then-not-same_text c =
    c.refused.ensures ∙ count_unclosed base _ _ c.run-n.ensures (sym c.same_text.ensures ∙ c.if-not-same_text.true)

pub slice_bounds-record_count-end : goal.slice_bounds-record_count-end
slice_bounds-record_count-end c = front_length base _ _ c.run-n.ensures

pub returns-in_default : goal.returns-in_default
unfolding base
returns-in_default c =
    c.refused-in_default.ensures ∙ count_no_number base _ _ c.run-n.ensures (sym c.record_count.ensures ∙ c.in_default.is)

pub returns : goal.returns
unfolding base
returns c =
    count_known base _ _ c.run-n.ensures (sym c.record_count.ensures ∙ c.in-Some.is)
    (sym c.same_text.ensures ∙ c.if-not-same_text.false)
    c.records_due.ensures
