-- Four characters make a time as the definition says: all of them are digits, and hours and minutes keep their bounds.
use mathlib.Core.Bool.{true}
use mathlib.Core.List.{[], ◌∷◌}
use mathlib.Core.Path.{◌≡◌, sym, ◌∙◌}
use lib.ListN.{drop}
use borrow.Author.Rules.{rules}
use borrow.Author.Tests.{not-false}
use Rattle.rules.specs.Text.{Text, digit, all}
use Rattle.figures.proofs.ExactLaws.{goes_on_lem, stops}
use Rattle.figures.proofs.TimeLaws.{made_kind, made_hours, made_minutes, made_time}
use Rattle.figures.proofs.TimeOfDay.from_digits.Statement.{statement}
use Rattle.figures.proofs.TimeOfDay.from_digits.Tie as tie

-- The four characters; and as many of them as were passed are digits.
abbrev four : tie.Start → Text
four c = c.args.a ∷ c.args.b ∷ c.args.c ∷ c.args.d ∷ []

upto1 : (c : tie.Else-not-are_digits) → all digit (four c.before.before) ≡ all digit (drop 2 (four c.before.before))
upto1 c = goes_on_lem _ _ _ c.are_digits.ensures c.if-not-are_digits.false-raw

upto2 : (c : tie.Else-not-are_digits-2) → all digit (four c.before.before.before.before) ≡ all digit []
upto2 c = upto1 c.before.before ∙ goes_on_lem _ _ _ c.are_digits-2.ensures c.if-not-are_digits-2.false-raw

digits : (c : tie.Else-not-are_digits-2) → all digit (four c.before.before.before.before) ≡ true
unfolding all
digits c = upto2 c

are_digits_requires : tie.Need-are_digits-requires
are_digits_requires c κs = tt

returns : tie.Need-returns-then-not-are_digits
returns c = made_kind _ _ _ _ (stops _ _ _ c.are_digits.ensures c.if-not-are_digits.true-raw)

are_digits_requires_2 : tie.Need-are_digits-requires-2
are_digits_requires_2 c κs = tt

returns_2 : tie.Need-returns-then-not-are_digits-2
returns_2 c = made_kind _ _ _ _ (upto1 c.before.before ∙ stops _ _ _ c.are_digits-2.ensures c.if-not-are_digits-2.true-raw)

two_digits_requires : tie.Need-two_digits-hours-requires
two_digits_requires c κs =
    let d = c.before.before in
    sym d.are_digits.ensures ∙ not-false _ d.if-not-are_digits.false-raw

returns_3 : tie.Need-returns-then-hours
returns_3 c = made_hours _ _ _ _ (digits c.before.before) c.two_digits-hours.ensures (search rules)

two_digits_requires_2 : tie.Need-two_digits-minutes-requires
two_digits_requires_2 c κs =
    let d = c.before.before in
    sym d.are_digits-2.ensures ∙ not-false _ d.if-not-are_digits-2.false-raw

returns_4 : tie.Need-returns-then-minutes
returns_4 c =
    made_minutes _ _ _ _ (digits c.before.before.before.before) c.two_digits-hours.ensures (search rules)
    c.two_digits-minutes.ensures (search rules)

mul_t9 : tie.Need-overflow_mul-result
mul_t9 c = search rules

add_t10 : tie.Need-overflow_add-result
add_t10 c = search rules

returns_5 : tie.Need-returns
returns_5 c =
    made_time _ _ _ _ (digits c.before.before.before.before) c.two_digits-hours.ensures (search rules)
    c.two_digits-minutes.ensures (search rules)

pub from_digits_spec : {M : Type 1} → statement M
from_digits_spec =
    tie.close
    (tie.spec
    are_digits_requires
    returns
    are_digits_requires_2
    returns_2
    two_digits_requires
    returns_3
    two_digits_requires_2
    returns_4
    mul_t9
    add_t10
    returns_5)
