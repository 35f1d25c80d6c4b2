-- The points of an ERROR record are 0, and those of any other a number.
use mathlib.Core.Path.{sym, ◌∙◌}
use Rattle.rules.specs.Rules.{base}
use Rattle.reader.proofs.FirstLaws.{points_bad, points_left, points_none, points_plain}
use Rattle.reader.proofs.scored.Goals as goal

pub returns-in_default : goal.returns-in_default
unfolding base
returns-in_default c = points_bad base _ _ _ (sym c.points.ensures ∙ c.in_default.is)

pub returns-then-not-error : goal.returns-then-not-error
unfolding base
returns-then-not-error c = points_plain base _ _ _ (sym c.points.ensures ∙ c.in-Some.is) (rw c.if-not-error.true)

pub returns-then-worth-eq0 : goal.returns-then-worth-eq0
unfolding base
returns-then-worth-eq0 c = points_none base _ _ _ (sym c.points.ensures ∙ c.in-Some.is) c.if-worth-eq0.true

pub returns : goal.returns
unfolding base
returns c = points_left base _ _ _ (sym c.points.ensures ∙ c.in-Some.is) (rw c.if-not-error.false) c.if-worth-eq0.false
