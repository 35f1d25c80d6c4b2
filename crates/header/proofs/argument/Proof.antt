-- Each arm of the code tests the rule that the table has at its places, and the places that no arm names have none.
use Prim.Native.Nat.{ℕ, zero-le}
use mathlib.Core.List.{List, [], ◌∷◌}
use mathlib.Core.Path.{refl}
use Rattle.rules.specs.Arguments.{entries, meets, anything, two_dates, a_call, empty_or_call, empty_or_calls, a_locator, an_exchange, a_band, count_and_multiplier, count_bonus_multiplier, claimed_points, claimed_bonus, claimed_total, best_contact}
use Rattle.rules.specs.Rules.{base}
use Rattle.header.specs.Header.{first_argument, argument_of}
use Rattle.header.proofs.ArgumentLaws.{one_of, answered, beyond_table}
use Rattle.header.proofs.argument.Statement.{statement}
use Rattle.header.proofs.argument.Tie as tie

-- The arms of the `match` with single numbers, the last first.
abbrev arms : List (List ℕ)
arms =
    (35 ∷ [])
    ∷ (34 ∷ [])
    ∷ (29 ∷ 31 ∷ 33 ∷ [])
    ∷ (28 ∷ 30 ∷ 32 ∷ [])
    ∷ (27 ∷ [])
    ∷ (26 ∷ [])
    ∷ (9 ∷ 11 ∷ [])
    ∷ (8 ∷ [])
    ∷ (4 ∷ [])
    ∷ (3 ∷ [])
    ∷ (2 ∷ [])
    ∷ (1 ∷ [])
    ∷ []

returns : tie.Need-returns-then-k-ge36
returns c = beyond_table base _ _ c.if-k-ge36.true

is_two_dates_requires : tie.Need-is_two_dates-requires
is_two_dates_requires c κs = tt

is_call_requires : tie.Need-is_call-requires
is_call_requires c κs = tt

is_locator_requires : tie.Need-is_locator-requires
is_locator_requires c κs = tt

is_exchange_requires : tie.Need-is_exchange-requires
is_exchange_requires c κs = tt

band_requires : tie.Need-band-requires
band_requires c κs = tt

is_empty_or_call_requires : tie.Need-is_empty_or_call-requires
is_empty_or_call_requires c κs = tt

is_count_and_multiplier_requires : tie.Need-is_count_and_multiplier-requires
is_count_and_multiplier_requires c κs = tt

is_claimed_points_requires : tie.Need-is_claimed_points-requires
is_claimed_points_requires c κs = tt

is_count_bonus_multiplier_requires : tie.Need-is_count_bonus_multiplier-requires
is_count_bonus_multiplier_requires c κs = tt

is_claimed_bonus_requires : tie.Need-is_claimed_bonus-requires
is_claimed_bonus_requires c κs = tt

is_claimed_total_requires : tie.Need-is_claimed_total-requires
is_claimed_total_requires c κs = tt

is_best_contact_requires : tie.Need-is_best_contact-requires
is_best_contact_requires c κs = tt

is_empty_or_calls_requires : tie.Need-is_empty_or_calls-requires
is_empty_or_calls_requires c κs = tt

returns_2 : tie.Need-returns-in-1
unfolding argument_of first_argument entries
returns_2 c = answered base two_dates _ 1 [] _ refl c.in-1.is c.is_two_dates.ensures

returns_3 : tie.Need-returns-in-2
unfolding argument_of first_argument entries
returns_3 c = answered base a_call _ 2 [] _ refl c.in-2.is c.is_call.ensures

returns_4 : tie.Need-returns-in-3
unfolding argument_of first_argument entries
returns_4 c = answered base a_locator _ 3 [] _ refl c.in-3.is c.is_locator.ensures

returns_5 : tie.Need-returns-in-4
unfolding argument_of first_argument entries
returns_5 c = answered base an_exchange _ 4 [] _ refl c.in-4.is c.is_exchange.ensures

returns_6 : tie.Need-returns-in-8
unfolding argument_of first_argument entries
returns_6 c = answered base a_band _ 8 [] _ refl c.in-8.is c.band.ensures

returns_7 : tie.Need-returns-in-9
unfolding argument_of first_argument entries
returns_7 c = answered base empty_or_call _ 9 (11 ∷ []) _ refl c.in-9.is c.is_empty_or_call.ensures

returns_8 : tie.Need-returns-in-26
unfolding argument_of first_argument entries
returns_8 c = answered base count_and_multiplier _ 26 [] _ refl c.in-26.is c.is_count_and_multiplier.ensures

returns_9 : tie.Need-returns-in-27
unfolding argument_of first_argument entries
returns_9 c = answered base claimed_points _ 27 [] _ refl c.in-27.is c.is_claimed_points.ensures

returns_10 : tie.Need-returns-in-28
unfolding argument_of first_argument entries
returns_10 c = answered base count_bonus_multiplier _ 28 (30 ∷ 32 ∷ []) _ refl c.in-28.is c.is_count_bonus_multiplier.ensures

returns_11 : tie.Need-returns-in-29
unfolding argument_of first_argument entries
returns_11 c = answered base claimed_bonus _ 29 (31 ∷ 33 ∷ []) _ refl c.in-29.is c.is_claimed_bonus.ensures

returns_12 : tie.Need-returns-in-34
unfolding argument_of first_argument entries
returns_12 c = answered base claimed_total _ 34 [] _ refl c.in-34.is c.is_claimed_total.ensures

returns_13 : tie.Need-returns-in-35
unfolding argument_of first_argument entries
returns_13 c = answered base best_contact _ 35 [] _ refl c.in-35.is c.is_best_contact.ensures

returns_14 : tie.Need-returns-in-19
unfolding argument_of first_argument entries
returns_14 c =
    answered base empty_or_calls _ 19 (20 ∷ []) _ refl
    (one_of [] 19 (20 ∷ []) 19 2 _ refl c.in-19.if-k-lt19-own.false c.in-19.if-k-lt21-own.true tt)
    c.is_empty_or_calls.ensures

-- The places that are left, below the calls of the operators and above them.
returns_15 : tie.Need-returns-in_default
unfolding argument_of first_argument entries meets
returns_15 c =
    let others : List ℕ = 5 ∷ 6 ∷ 7 ∷ 10 ∷ 12 ∷ 13 ∷ 14 ∷ 15 ∷ 16 ∷ 17 ∷ 18 ∷ [] in
    answered base anything _ 0 others _ refl (one_of arms 0 others 0 19 _ refl zero-le c.in_default.if-k-lt19-own.true c.in_default.in_default-own.rest) refl

returns_16 : tie.Need-returns-in_default-2
unfolding argument_of first_argument entries meets
returns_16 c =
    let others : List ℕ = 22 ∷ 23 ∷ 24 ∷ 25 ∷ [] in
    answered base anything _ 21 others _ refl
    (one_of arms 21 others 21 15 _ refl c.in_default.if-k-lt21-own.false c.if-k-ge36.false c.in_default.in_default-own.rest) refl

pub argument_spec : {M : Type 1} → statement M
argument_spec =
    tie.close
    (tie.spec
    returns
    is_two_dates_requires
    is_call_requires
    is_locator_requires
    is_exchange_requires
    band_requires
    is_empty_or_call_requires
    is_count_and_multiplier_requires
    is_claimed_points_requires
    is_count_bonus_multiplier_requires
    is_claimed_bonus_requires
    is_claimed_total_requires
    is_best_contact_requires
    is_empty_or_calls_requires
    returns_2
    returns_3
    returns_4
    returns_5
    returns_6
    returns_7
    returns_8
    returns_9
    returns_10
    returns_11
    returns_12
    returns_13
    returns_14
    returns_15
    returns_16)
