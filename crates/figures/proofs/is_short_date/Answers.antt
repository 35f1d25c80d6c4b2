-- Six characters are a date as the definition says: all of them are digits, and the day that they write exists.
use native.Mathlib.Omega.{arith}
use mathlib.Core.List.{[], ◌∷◌}
use mathlib.Core.Path.{sym, ◌∙◌}
use Rattle.rules.specs.Text.{all}
use Rattle.rules.proofs.NumberLaws.{value_below}
use Rattle.figures.proofs.DateLaws.{six_kind, six_day}
use Rattle.figures.proofs.ExactLaws.{goes_on_lem, stops}
use Rattle.figures.proofs.is_short_date.Goals.{then-not-are_digits-via-then-not-are_digits, then-not-are_digits-via-else-not-are_digits+then-not-are_digits-2, then-not-are_digits-via-else-not-are_digits+else-not-are_digits-2+then-not-are_digits-3}
use Rattle.figures.proofs.is_short_date.Goals as goal

pub returns-then-not-are_digits : goal.returns-then-not-are_digits
returns-then-not-are_digits c =
    elim c.then-not-are_digits.branch [
      | then-not-are_digits-via-then-not-are_digits w ↦
          six_kind _ _ _ _ _ _ (stops _ _ _ c.are_digits.ensures (rw w.if-not-are_digits.true))
      | then-not-are_digits-via-else-not-are_digits+then-not-are_digits-2 w ↦
          six_kind _ _ _ _ _ _
          (goes_on_lem _ _ _ c.are_digits.ensures (rw w.if-not-are_digits.false)
          ∙ stops _ _ _ w.are_digits-else-not-are_digits.ensures (rw w.if-not-are_digits-2.true))
      | then-not-are_digits-via-else-not-are_digits+else-not-are_digits-2+then-not-are_digits-3 w ↦
          six_kind _ _ _ _ _ _
          (goes_on_lem _ _ _ c.are_digits.ensures (rw w.if-not-are_digits.false)
          ∙ goes_on_lem _ _ _ w.are_digits-else-not-are_digits.ensures (rw w.if-not-are_digits-2.false)
          ∙ stops _ _ _ w.are_digits-else-not-are_digits-2.ensures (rw w.if-not-are_digits-3.true))
    ]

pub full_year-year-requires : goal.full_year-year-requires
full_year-year-requires c =
    omega (arith, c.two_digits.ensures, value_below (c.args.a ∷ c.args.b ∷ []) (sym c.are_digits.ensures ∙ c.if-not-are_digits.false))

pub returns : goal.returns
unfolding all
returns c =
    c.day_exists.ensures
    ∙ rw (c.full_year-year.ensures, c.two_digits.ensures, c.two_digits-2.ensures, c.two_digits-3.ensures)
    (six_day _ _ _ _ _ _
    (goes_on_lem c.args.a c.args.b (c.args.c ∷ c.args.d ∷ c.args.e ∷ c.args.f ∷ []) c.are_digits.ensures (rw c.if-not-are_digits.false)
    ∙ goes_on_lem c.args.c c.args.d (c.args.e ∷ c.args.f ∷ []) c.are_digits-else-not-are_digits.ensures (rw c.if-not-are_digits-2.false)
    ∙ goes_on_lem c.args.e c.args.f [] c.are_digits-else-not-are_digits-2.ensures (rw c.if-not-are_digits-3.false)))
