-- Laws of the places of lines, none of which is told to lie behind the log's end, and of the parts of a line's argument.
-- Assumes nothing.
use Prim.Native.Nat.{ℕ, zero, suc, ◌+◌, ◌-◌, ◌≤◌, min}
use native.Mathlib.Omega.{arith}
use native.Mathlib.Nat.{add-zero, add-suc}
use native.Mathlib.Numerals.{add-one}
use native.Mathlib.Decide.{dec_le}
use mathlib.Core.Path.{◌≡◌, refl, ap, ◌∙◌}
use lib.ListN.{length, take, drop, drop_of_length-le}
use lib.Seq.{drop-drop}
use Rattle.rules.specs.Text.{Text, allowed, span}
use Rattle.rules.specs.Rules.{Rules}
use Rattle.rules.specs.Arguments.{part, bonus, multiplier}
use Rattle.fields.specs.Field.{in_field, text_at, end_of}
use Rattle.fields.proofs.PartLaws.{end_by_span, reach_first, reach_next, text_of}
use Rattle.reader.specs.Contact.{value_by}
use Rattle.places.specs.declared.Declared.{Declared}
use Rattle.places.specs.Places.{line_text_at, line_on, line_start, argument_on, declared_at}

rates : {ab am bb bm cb cm ab' am' bb' bm' cb' cm' : ℕ} → ab ≡ ab' → am ≡ am' → bb ≡ bb' → bm ≡ bm' → cb ≡ cb' → cm ≡ cm'
    → ◌≡◌ {A = Declared}
    (record { squarebonus = ab; squaremultiplier = am; exchangebonus = bb; exchangemultiplier = bm; countrybonus = cb; countrymultiplier = cm })
    (record { squarebonus = ab'; squaremultiplier = am'; exchangebonus = bb'; exchangemultiplier = bm'; countrybonus = cb'; countrymultiplier = cm' })
rates p q r t u v = rw (p, q, r, t, u, v)

module _ (s : Text) where
  -- A place, or the end where it lies behind the end.
  abbrev inside : ℕ → ℕ
  inside at = min at (length s)

  pub line_first : 0 ≡ inside (line_start s 0)
  unfolding line_on
  line_first = omega arith

  pub line_next_lem : (from : ℕ) → inside (from + span allowed (drop from s) + 2) ≡ inside (line_on s from 1)
  unfolding line_on
  line_next_lem from = refl

  pub line_on_lem : (from k : ℕ) {at : ℕ} → at ≡ inside (line_on s from k) → inside (at + span allowed (drop at s) + 2) ≡ inside (line_on s from (k + 1))
  unfolding line_on
  line_on_lem from k {at} e = rw (add-one k) (by (dec_le (line_on s from k) (length s)))
    where
      by : Dec (line_on s from k ≤ length s) → inside (at + span allowed (drop at s) + 2) ≡ inside (line_on s from k + span allowed (drop (line_on s from k) s) + 2)
      by (yes h) = let g : at ≡ line_on s from k = omega arith in rw g
      by (no h) = omega arith

  pub line_more : (from i k : ℕ) → line_on s (line_on s from i) k ≡ line_on s from (i + k)
  unfolding line_on
  line_more from i zero = rw (add-zero i)
  line_more from i (suc k) = rw (add-suc i k, line_more from i k)

  pub text_inside : (at : ℕ) → line_text_at s (inside at) ≡ line_text_at s at
  unfolding line_text_at span
  text_inside at = by (dec_le at (length s))
    where
      by : Dec (at ≤ length s) → take (span allowed (drop (inside at) s)) (drop (inside at) s) ≡ take (span allowed (drop at s)) (drop at s)
      by (yes h) = let g : inside at ≡ at = omega arith in rw g
      by (no h) =
          let g : length s ≤ inside at = omega arith in
          let k : length s ≤ at = omega arith in
          rw (drop_of_length-le s g, drop_of_length-le s k)

  pub line_by_end : (at : ℕ) {e : ℕ} → e ≡ at + span allowed (drop at s) → take (e - at) (drop at s) ≡ line_text_at s at
  unfolding line_text_at
  line_by_end at {e} p =
      let n : e - at ≡ span allowed (drop at s) = omega arith in
      ap (λ (k : ℕ). take k (drop at s)) n

  pub argument_told : (from i : ℕ) {at : ℕ} → at ≡ inside (line_on s from i) → drop 6 (line_text_at s at) ≡ argument_on s from i
  unfolding argument_on
  argument_told from i e = ap (λ (n : ℕ). drop 6 (line_text_at s n)) e ∙ ap (drop 6) (text_inside (line_on s from i))

  module _ (R : Rules) (from i : ℕ) {at : ℕ} (e : at ≡ inside (line_on s from i)) where
    bonus_told : value_by (bonus R) (part 1 (drop 6 (line_text_at s at))) ≡ value_by (bonus R) (part 1 (argument_on s from i))
    bonus_told = ap (λ (t : Text). value_by (bonus R) (part 1 t)) (argument_told from i e)

    multiplier_told : value_by (multiplier R) (part 2 (drop 6 (line_text_at s at))) ≡ value_by (multiplier R) (part 2 (argument_on s from i))
    multiplier_told = ap (λ (t : Text). value_by (multiplier R) (part 2 t)) (argument_told from i e)

  -- What is declared, put together from the three lines.
  pub declared_told : (R : Rules) (claims : ℕ) {a b c : ℕ} {ab am bb bm cb cm : ℕ}
      → a ≡ inside (line_on s claims 2)
      → b ≡ inside (line_on s claims 4)
      → c ≡ inside (line_on s claims 6)
      → (ab ≡ value_by (bonus R) (part 1 (drop 6 (line_text_at s a)))) × (am ≡ value_by (multiplier R) (part 2 (drop 6 (line_text_at s a))))
      → (bb ≡ value_by (bonus R) (part 1 (drop 6 (line_text_at s b)))) × (bm ≡ value_by (multiplier R) (part 2 (drop 6 (line_text_at s b))))
      → (cb ≡ value_by (bonus R) (part 1 (drop 6 (line_text_at s c)))) × (cm ≡ value_by (multiplier R) (part 2 (drop 6 (line_text_at s c))))
      → ◌≡◌ {A = Declared}
      (record {
        squarebonus = ab;
        squaremultiplier = am;
        exchangebonus = bb;
        exchangemultiplier = bm;
        countrybonus = cb;
        countrymultiplier = cm;
      })
      (declared_at R s claims)
  unfolding declared_at
  declared_told R claims a b c p q r =
      rates
      (p.0 ∙ bonus_told R claims 2 a)
      (p.1 ∙ multiplier_told R claims 2 a)
      (q.0 ∙ bonus_told R claims 4 b)
      (q.1 ∙ multiplier_told R claims 4 b)
      (r.0 ∙ bonus_told R claims 6 c)
      (r.1 ∙ multiplier_told R claims 6 c)

-- The parts of the text that is left of a line behind so many characters, by their places in the line.
module _ (l : Text) (n : ℕ) where
  shifted : (a : ℕ) → text_at (drop n l) a ≡ text_at l (n + a)
  unfolding text_at
  shifted a = rw (drop-drop a n l)

  module _ {e : ℕ} (p : e ≡ n + span in_field (drop n l)) where
    first_ends : end_of (drop n l) 0 + n ≡ e
    first_ends = omega (arith, end_by_span (drop n l) 0)

    pub second_part : part 1 (drop n l) ≡ text_at l (e + 1)
    unfolding part
    second_part =
        let k : n + (end_of (drop n l) 0 + 1) ≡ e + 1 = omega (arith, first_ends) in
        text_of (drop n l) 1 (end_of (drop n l) 0 + 1) (reach_next (drop n l) 0 0 (reach_first (drop n l)))
        ∙ shifted (end_of (drop n l) 0 + 1)
        ∙ ap (text_at l) k

    pub third_part : {f : ℕ} → f ≡ e + 1 + span in_field (drop (e + 1) l) → part 2 (drop n l) ≡ text_at l (f + 1)
    unfolding part
    third_part {f} q =
        let a = end_of (drop n l) 0 + 1 in
        let k : n + a ≡ e + 1 = omega (arith, first_ends) in
        let d : drop a (drop n l) ≡ drop (e + 1) l = drop-drop a n l ∙ ap (λ (m : ℕ). drop m l) k in
        let m : n + (end_of (drop n l) a + 1) ≡ f + 1 = omega (arith, end_by_span (drop n l) a, ap (span in_field) d) in
        text_of (drop n l) 2 (end_of (drop n l) a + 1) (reach_next (drop n l) 1 a (reach_next (drop n l) 0 0 (reach_first (drop n l))))
        ∙ shifted (end_of (drop n l) a + 1)
        ∙ ap (text_at l) m
