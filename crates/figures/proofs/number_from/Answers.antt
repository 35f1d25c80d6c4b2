-- A number is told where its value is within the bounds.
use native.Mathlib.Omega.{arith}
use mathlib.Core.Path.{sym, ◌∙◌}
use Rattle.figures.proofs.BoundLaws.{from_none, from_low, from_high, from_good}
use Rattle.figures.proofs.number_from.Goals.{then-value-least-via-then-value-least, then-value-least-via-else-value-least+then-most-value}
use Rattle.figures.proofs.number_from.Goals as goal

pub returns-in_default : goal.returns-in_default
returns-in_default c = from_none 18 _ _ c.requires _ _ (sym c.number.ensures ∙ c.in_default.is)

pub returns-then-value-least : goal.returns-then-value-least
returns-then-value-least c =
    elim c.then-value-least.branch [
      | then-value-least-via-then-value-least w ↦
          from_low 18 _ _ c.requires _ _ (sym c.number.ensures ∙ c.in-Some.is) w.if-value-least.true
      | then-value-least-via-else-value-least+then-most-value w ↦
          from_high 18 _ _ c.requires _ _ (sym c.number.ensures ∙ c.in-Some.is) w.if-most-value.true
    ]

pub returns : goal.returns
returns c = from_good 18 _ _ c.requires _ _ (sym c.number.ensures ∙ c.in-Some.is) c.if-value-least.false (omega arith)
