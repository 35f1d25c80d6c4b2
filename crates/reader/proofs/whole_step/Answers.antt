-- A line is the words that are due, or it is refused.
use mathlib.Core.Path.{sym, ◌∙◌}
use Rattle.reader.proofs.DueLaws.{whole_same, whole_other}
use Rattle.reader.proofs.whole_step.Goals as goal

pub returns-then-same_text : goal.returns-then-same_text
returns-then-same_text c = whole_same _ _ _ (sym c.same_text.ensures ∙ c.if-same_text.true)

pub returns : goal.returns
returns c = c.refused.ensures ∙ whole_other _ _ _ (sym c.same_text.ensures ∙ c.if-same_text.false)
