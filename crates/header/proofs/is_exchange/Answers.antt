-- An exchange that ends with the text.
use mathlib.Core.Path.{sym, ◌∙◌}
use Rattle.rules.specs.Arguments.{meets}
use Rattle.rules.specs.Fields.{exchange}
use Rattle.rules.specs.Rules.{base}
use Rattle.header.proofs.RuleLaws.{exchange_apart, text_whole}
use Rattle.header.proofs.is_exchange.Goals as goal

pub returns : goal.returns
unfolding meets
returns c = c.eq.ensures ∙ text_whole (exchange base) (exchange_apart base) c.args.t.now c.exchange.result (sym c.exchange.ensures)
