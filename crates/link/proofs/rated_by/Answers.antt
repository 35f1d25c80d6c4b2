-- Three keywords bring a bonus and a multiplier, and no other line does.
-- Assumes nothing.
use Rattle.std.proofs.Common.{rules, sym, ap, ◌∙◌}
use Rattle.rules.specs.Rules.{base}
use Rattle.judge.specs.Narrow.{low}
use Rattle.link.proofs.TestLaws.{declares_not, declares_countries}
use Rattle.link.proofs.TakenLaws.{rated_squares, rated_exchanges, rated_countries, rated_not}
use Rattle.link.proofs.rated_by.Goals as goal

pub returns-then-not-declares : goal.returns-then-not-declares
returns-then-not-declares c =
    let none = declares_not c.args.s.stage (sym c.declares.ensures ∙ c.if-not-declares.true) in
    rated_not base c.args.s _ none.0 none.1 none.2

pub returns-in-29 : goal.returns-in-29
returns-in-29 c =
    rated_squares base c.args.s _ (c.low-bonus.ensures ∙ ap low c.rates_of-rates.ensures.bonus) (c.low-multiplier.ensures ∙ ap low c.rates_of-rates.ensures.multiplier) c.in-29.is

pub returns-in-31 : goal.returns-in-31
returns-in-31 c =
    rated_exchanges base c.args.s _ (c.low-bonus.ensures ∙ ap low c.rates_of-rates.ensures.bonus) (c.low-multiplier.ensures ∙ ap low c.rates_of-rates.ensures.multiplier) c.in-31.is

pub returns-in_default : goal.returns-in_default
returns-in_default c =
    rated_countries base c.args.s _ (c.low-bonus.ensures ∙ ap low c.rates_of-rates.ensures.bonus) (c.low-multiplier.ensures ∙ ap low c.rates_of-rates.ensures.multiplier) (declares_countries c.args.s.stage (sym c.declares.ensures ∙ c.if-not-declares.false) (search rules) (search rules))
