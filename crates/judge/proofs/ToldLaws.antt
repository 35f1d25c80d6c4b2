-- What is noted of a record is true of it, and its parts lie within the log.
-- Assumes nothing.
use Prim.Native.Nat.{ℕ, ◌+◌, ◌-◌, ◌*◌, ◌≤◌, ◌<◌}
use native.Mathlib.Omega.{arith}
use mathlib.Core.Path.{◌≡◌, refl, sym, ap, ◌∙◌}
use mathlib.Core.Bool.{Bool, true, false, not, ◌&&◌, ◌||◌}
use mathlib.Core.List.{[], ◌∷◌}
use lib.Dec.{T, leb, eqb}
use lib.ListN.{length, get_or}
use borrow.Author.Tests.{eqb-true, eqb-false, ne_eqb, leb-true}
use Rattle.rules.specs.Text.{Text, bytes, digit, semicolon, empty, all, same, begins, number, number_of, value, value_after}
use Rattle.rules.specs.Rules.{Rules, base}
use Rattle.rules.specs.Fields.{Qso, call, call_character, exchange, exchange_character, locator, empty_or, new_mark, is_error, points_rule, field_rules}
use Rattle.rules.specs.Judging.{claims_points, claims_country, claims_duplicate, may_repeat}
use Rattle.rules.proofs.Tests.{so, holds, never, and_l, and_r}
use Rattle.rules.proofs.Passing.{same→equal}
use Rattle.rules.proofs.NumberLaws.{number_below}
use Rattle.rules.proofs.ValidLogs.{rule_at, points_ruled}
use Rattle.fields.specs.Field.{text_at, ends_at, end_of}
use Rattle.fields.proofs.FieldLaws.{ends_at_semicolon}
use Rattle.fields.proofs.PartLaws.{end_by_span}
use Rattle.reader.specs.declared.Contact.{Contact}
use Rattle.reader.specs.Contact.{field_start, value_by, last_end, contact_at, behind, between, claimed_at, mode_at}
use Rattle.reader.proofs.PlaceLaws.{start_more, start_next, starts_rise, held_within, text_by_end}
use Rattle.judge.specs.declared.Noted.{Noted}
use Rattle.judge.specs.Bounds.{most_worth}
use Rattle.judge.specs.Count.{mode_place, mode_of}
use Rattle.judge.specs.Step.{call_noted, exchange_noted, locator_noted, country_noted, claims_noted, may_repeat_noted, mode_noted, worth_noted, Told}
use Rattle.judge.proofs.PartLaws.{part_size, part_at}

-- # Numbers

value_rises : (n : ℕ) (t : Text) → n ≤ value_after n t
unfolding value_after
value_rises n [] = omega arith
value_rises n (c ∷ t) = omega (arith, value_rises (10 * n + (c - 48)) t)

-- A number is 0 exactly where it begins with one.
pub zero_first : (t : Text) → number t ≡ true → not (eqb (get_or t 0 0) 48) ≡ not (eqb (value t) 0)
unfolding number begins all value value_after
zero_first [] h = never h
zero_first (c ∷ t) h = by (eqb c 48) refl
  where
    digits : all digit (c ∷ t) ≡ true
    digits = and_l (all digit (c ∷ t)) (same (c ∷ t) (bytes "0") || not (begins (bytes "0") (c ∷ t))) h

    ways : (same (c ∷ t) (bytes "0") || not (begins (bytes "0") (c ∷ t))) ≡ true
    ways = and_r (all digit (c ∷ t)) (same (c ∷ t) (bytes "0") || not (begins (bytes "0") (c ∷ t))) h

    starts : c ≡ 48 → begins (bytes "0") (c ∷ t) ≡ true
    starts e = rw e

    nothing : T (same (c ∷ t) (bytes "0")) → value (c ∷ t) ≡ 0
    nothing s = ap value (same→equal (c ∷ t) (bytes "0") s)

    something : 48 ≤ c → (c ≡ 48 → ⊥) → value (c ∷ t) ≡ 0 → ⊥
    something l n z = omega (arith, value_rises (10 * 0 + (c - 48)) t)

    least : 48 ≤ c
    least = leb-true 48 c (and_l (leb 48 c) (leb c 57) (and_l (digit c) (all digit t) digits))

    zero_only : c ≡ 48 → T (same (c ∷ t) (bytes "0"))
    zero_only e = pick (same (c ∷ t) (bytes "0")) (begins (bytes "0") (c ∷ t)) (starts e) ways
      where
        pick : (a b : Bool) → b ≡ true → (a || not b) ≡ true → T a
        pick true b f g = tt
        pick false b f g = never (sym (ap not f) ∙ g)

    by : (b : Bool) → eqb c 48 ≡ b → not b ≡ not (eqb (value (c ∷ t)) 0)
    by true e = let z = nothing (zero_only (eqb-true c 48 e)) in rw z
    by false e = rw (ne_eqb (value (c ∷ t)) 0 (something least (eqb-false c 48 e)))

-- # Fields behind one another

module _ (s : Text) (x : ℕ) (h : field_start s x 3 ≤ length s) where
  pub two_inside : (end_of s x < length s) × (end_of s (end_of s x + 1) < length s)
  unfolding field_start
  two_inside = let a = end_by_span s (end_of s (end_of s x + 1) + 1) in let b = end_by_span s (end_of s x + 1) in (omega arith, omega arith)

  pub third_inside : {a : ℕ} → a ≡ field_start s x 2 → end_of s a < length s
  unfolding field_start
  third_inside e = omega (arith, ap (end_of s) e)

pub two_on : (s : Text) (x : ℕ) → end_of s (end_of s x + 1) + 1 ≡ field_start s x 2
unfolding field_start
two_on s x = refl

pub three_on : (s : Text) (x : ℕ) → end_of s (field_start s x 2) + 1 ≡ field_start s x 3
unfolding field_start
three_on s x = refl

-- By the rules of document 01 an exchange has a length that a key can tell.
pub exchange_short_lem : base.longest_exchange ≤ 15
unfolding base
exchange_short_lem = omega arith

-- # What is noted of a record

module _ {R : Rules} {s : Text} {p : Noted} {q : Qso} (t : Told R s p q) where
  abbrev field : ℕ → ℕ
  field k = field_start s t.at k

  abbrev c : Contact
  c = contact_at R s t.at

  last_inside : field 14 + 2 ≤ length s
  unfolding contact_at last_end
  last_inside = omega (arith, held_within s R t.rest (behind c) t.held.1)

  field_inside : (k j : ℕ) → k + j ≡ 13 → end_of s (field k) + 3 ≤ length s
  field_inside k j e =
      let n : k + 1 + j ≡ 14 = omega arith in
      omega (arith, last_inside, start_next s t.at k, starts_rise s (field (k + 1)) j, start_more s t.at (k + 1) j, ap field n)

  -- The call.
  call_place : p.call ≡ field 2
  unfolding contact_at
  call_place = t.call

  pub call_is_lem : call_noted s p ≡ q.call
  unfolding contact_at
  call_is_lem = (λ i. between s (t.call i) (end_of s (t.call i))) ∙ t.held.0.call_is

  pub call_inside_lem : end_of s p.call < length s
  call_inside_lem = omega (arith, field_inside 2 11 refl, ap (end_of s) call_place)

  call_ruled : call q.call ≡ true
  unfolding field_rules
  call_ruled = so (call q.call) (rule_at (field_rules R q) 2 (holds t.rules))

  call_long : (3 ≤ length q.call) × (length q.call ≤ 14)
  unfolding call
  call_long =
      let long = leb 3 (length q.call) in
      let short = leb (length q.call) 14 in
      let both = and_l (long && short) (all call_character q.call) call_ruled in
      (leb-true 3 (length q.call) (and_l long short both), leb-true (length q.call) 14 (and_r long short both))

  call_length : length q.call ≡ end_of s p.call - p.call
  call_length =
      sym (ap length call_is_lem) ∙ part_size s p.call (end_of s p.call) (omega (arith, end_by_span s p.call)) (omega (arith, call_inside_lem))

  pub call_size : (p.call < end_of s p.call) × (end_of s p.call ≤ p.call + 15)
  call_size = (omega (arith, call_length, call_long), omega (arith, call_length, call_long))

  -- The mode.
  abbrev mode_start : ℕ
  mode_start = end_of s p.call + 1

  mode_place_lem : mode_start ≡ field 3
  unfolding field_start
  mode_place_lem = ap (λ (n : ℕ). end_of s n + 1) call_place

  pub mode_inside : end_of s p.call + 1 < length s
  mode_inside = omega (arith, field_inside 3 10 refl, end_by_span s (field 3), mode_place_lem)

  mode_end : end_of s mode_start ≤ length s
  mode_end = omega (arith, field_inside 3 10 refl, ap (end_of s) mode_place_lem)

  mode_text : mode_at s (end_of s p.call) ≡ q.mode
  unfolding contact_at
  mode_text = ap (λ (n : ℕ). mode_at s (end_of s n)) t.call ∙ t.held.0.mode_is

  -- It begins with its code, or, where it is blank, with the semicolon behind it.
  mode_first : get_or s mode_start 0 ≡ get_or q.mode 0 semicolon
  unfolding ends_at
  mode_first = by q.mode mode_text
    where
      from : mode_start ≤ end_of s mode_start
      from = omega (arith, end_by_span s mode_start)

      by : (u : Text) → mode_at s (end_of s p.call) ≡ u → get_or s mode_start 0 ≡ get_or u 0 semicolon
      by [] e = eqb-true (get_or s mode_start 0) 59 (ends_at_semicolon s mode_start mode_inside ∙ ap empty (text_by_end s mode_start refl ∙ e))
      by (d ∷ u) e =
          let n : length (mode_at s (end_of s p.call)) ≡ length (d ∷ u) = ap length e in
          let long = part_size s mode_start (end_of s mode_start) from mode_end in
          let there : mode_start + 0 ≡ mode_start = omega arith in
          sym (ap (λ (n : ℕ). get_or s n 0) there)
          ∙ sym (part_at s mode_start (end_of s mode_start) from mode_end 0 (omega arith))
          ∙ ap (λ (v : Text). get_or v 0 0) e

  pub mode_is_lem : mode_noted s p ≡ mode_of q
  unfolding mode_of
  mode_is_lem = ap mode_place mode_first

  -- The exchange.
  exchange_place : p.exchange ≡ field 8
  unfolding contact_at
  exchange_place = t.exchange

  pub exchange_is_lem : exchange_noted s p ≡ q.exchange
  unfolding contact_at
  exchange_is_lem = (λ i. between s (t.exchange i) (end_of s (t.exchange i))) ∙ t.held.0.exchange_is

  pub exchange_inside_lem : end_of s p.exchange < length s
  exchange_inside_lem = omega (arith, field_inside 8 5 refl, ap (end_of s) exchange_place)

  pub exchange_from : p.exchange ≤ end_of s p.exchange
  exchange_from = omega (arith, end_by_span s p.exchange)

  exchange_ruled : exchange R q.exchange ≡ true
  unfolding field_rules
  exchange_ruled = so (exchange R q.exchange) (rule_at (field_rules R q) 8 (holds t.rules))

  exchange_long : length q.exchange ≤ R.longest_exchange
  unfolding exchange
  exchange_long =
      leb-true (length q.exchange) R.longest_exchange (and_l (leb (length q.exchange) R.longest_exchange) (all exchange_character q.exchange) exchange_ruled)

  pub exchange_size : end_of s p.exchange ≤ p.exchange + R.longest_exchange
  exchange_size =
      let n : length q.exchange ≡ end_of s p.exchange - p.exchange = sym (ap length exchange_is_lem) ∙ part_size s p.exchange (end_of s p.exchange) exchange_from (omega (arith, exchange_inside_lem)) in
      omega (arith, exchange_long)

  -- The locator.
  locator_place : end_of s p.exchange + 1 ≡ field 9
  unfolding field_start
  locator_place = ap (λ (n : ℕ). end_of s n + 1) exchange_place

  points_place : p.points ≡ field 10
  unfolding contact_at
  points_place = t.points

  locator_end : p.points - 1 ≡ end_of s (field 9)
  unfolding field_start
  locator_end = omega (arith, points_place)

  pub locator_is_lem : locator_noted s p ≡ q.locator
  unfolding contact_at
  locator_is_lem = (λ i. between s (locator_place i) (locator_end i)) ∙ t.held.0.locator_is

  pub locator_inside_lem : (end_of s p.exchange + 1 ≤ p.points - 1) × (p.points - 1 ≤ length s) × (1 ≤ p.points)
  locator_inside_lem =
      let n = field_inside 9 4 refl in
      let e = end_by_span s (field 9) in
      let place = points_place in
      let next = start_next s t.at 9 in
      (omega (arith, locator_place, locator_end), omega (arith, locator_end), omega arith)

  pub locator_ruled : empty_or locator q.locator ≡ true
  unfolding field_rules
  locator_ruled = so (empty_or locator q.locator) (rule_at (field_rules R q) 9 (holds t.rules))

  -- The points.
  pub points_inside : p.points < length s
  points_inside = omega (arith, field_inside 10 3 refl, end_by_span s (field 10), points_place)

  points_number : number_of R.points_digits q.points ≡ true
  unfolding points_rule
  points_number =
      and_l (number_of R.points_digits q.points) (not (is_error q) || same q.points (bytes "0")) (so (points_rule R q) (points_ruled R q (holds t.rules)))

  is_number : number q.points ≡ true
  unfolding number_of
  is_number = and_l (number q.points) (leb (length q.points) R.points_digits) points_number

  not_empty : (u : Text) → number u ≡ true → 0 < length u
  unfolding number
  not_empty [] h = never h
  not_empty (d ∷ u) h = omega arith

  points_are_lem : between s p.points (end_of s p.points) ≡ q.points
  unfolding contact_at
  points_are_lem = (λ i. between s (t.points i) (end_of s (t.points i))) ∙ t.held.0.points_are

  points_first : get_or s p.points 0 ≡ get_or q.points 0 0
  points_first =
      let a = p.points in
      let e = end_of s p.points in
      let inside : e ≤ length s = omega (arith, field_inside 10 3 refl, ap (end_of s) points_place) in
      let from : a ≤ e = omega (arith, end_by_span s a) in
      let long : length q.points ≡ e - a = sym (ap length points_are_lem) ∙ part_size s a e from inside in
      let there : a + 0 ≡ a = omega arith in
      sym (ap (λ (n : ℕ). get_or s n 0) there)
      ∙ sym (part_at s a e from inside 0 (omega (arith, not_empty q.points is_number)))
      ∙ ap (λ (u : Text). get_or u 0 0) points_are_lem

  pub claims_is : claims_noted s p ≡ claims_points q
  unfolding claims_points
  claims_is = ap (λ (n : ℕ). not (eqb n 48)) points_first ∙ zero_first q.points is_number

  pub worth_is_lem : worth_noted R s p ≡ value q.points
  unfolding contact_at
  worth_is_lem = ap (λ (n : ℕ). value_by (number_of R.points_digits) (text_at s n)) points_place ∙ t.held.0.worth_is

  pub worth_most : value q.points ≤ most_worth R
  worth_most = omega (arith, number_below R.points_digits q.points points_number)

  -- The country.
  behind_points : p.pointsend + 1 ≡ field 11
  unfolding contact_at field_start
  behind_points = ap (λ (n : ℕ). n + 1) t.pointsend

  pub country_is_lem : country_noted s p ≡ claims_country q
  unfolding contact_at
  country_is_lem =
      ap (λ (n : ℕ). same (text_at s (field_start s n 2)) new_mark) behind_points
      ∙ ap (λ (n : ℕ). same (text_at s n) new_mark) (start_more s t.at 11 2)
      ∙ t.held.0.country_is

  pub country_inside : field_start s (p.pointsend + 1) 3 ≤ length s
  country_inside =
      omega (arith, ap (λ (n : ℕ). field_start s n 3) behind_points, start_more s t.at 11 3, last_inside)

  -- The claimed D.
  duplicate_is_lem : claimed_at s p.pointsend ≡ claims_duplicate q
  unfolding contact_at
  duplicate_is_lem = ap (claimed_at s) t.pointsend ∙ t.held.0.duplicate_is

  pub may_repeat_is : may_repeat_noted s p ≡ may_repeat q
  unfolding may_repeat
  may_repeat_is = λ i. claims_is i || duplicate_is_lem i
