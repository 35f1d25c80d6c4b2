-- A claimed bonus is a number that ends with the text.
use mathlib.Core.Path.{sym, ◌∙◌}
use Rattle.rules.specs.Arguments.{meets}
use Rattle.header.proofs.RuleLaws.{no_number, whole_number}
use Rattle.header.proofs.is_claimed_bonus.Goals as goal

pub returns-in_default : goal.returns-in_default
unfolding meets
returns-in_default c = no_number _ _ (sym c.claimed_bonus.ensures ∙ c.in_default.is)

pub returns : goal.returns
unfolding meets
returns c = whole_number _ _ (sym c.claimed_bonus.ensures ∙ c.in-Some.is)
