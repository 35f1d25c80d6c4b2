-- A locator that ends with the text.
use mathlib.Core.Path.{sym, ◌∙◌}
use Rattle.rules.specs.Arguments.{meets}
use Rattle.rules.specs.Fields.{locator}
use Rattle.header.proofs.RuleLaws.{locator_apart, text_whole}
use Rattle.header.proofs.is_locator.Goals as goal

pub returns : goal.returns
unfolding meets
returns c = c.eq.ensures ∙ text_whole locator locator_apart c.args.t.now c.locator.result (sym c.locator.ensures)
