-- The argument leads to the next keyword, or behind the last to the remarks.
use mathlib.Core.Path.{sym, ◌∙◌}
use Rattle.reader.proofs.DueLaws.{argument_breaks, keyword_follows, remarks_follow}
use Rattle.reader.proofs.argument_step.Goals as goal

pub returns-then-not-argument : goal.returns-then-not-argument
returns-then-not-argument c = c.refused.ensures ∙ argument_breaks _ (sym c.argument.ensures ∙ c.if-not-argument.true)

pub returns-then-k-lt35 : goal.returns-then-k-lt35
returns-then-k-lt35 c = keyword_follows _ (sym c.argument.ensures ∙ c.if-not-argument.false) c.if-k-lt35.true

pub returns : goal.returns
returns c = remarks_follow _ (sym c.argument.ensures ∙ c.if-not-argument.false) c.if-k-lt35.false
