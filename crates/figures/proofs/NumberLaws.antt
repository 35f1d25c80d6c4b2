-- Laws of digits and of the numbers that they write.
-- Assumes nothing.
use Rattle.std.specs.Prelude.{Some, None}
use Prim.Native.Nat.{ℕ, zero, suc, ◌+◌, ◌*◌, ◌-◌, ◌^◌, ◌≤◌, ◌<◌}
use native.Mathlib.Nat.{pow-succ', one-le-pow, add-zero, add-mul, mul_assoc, mul_comm}
use native.Mathlib.Omega.{arith}
use mathlib.Core.Bool.{Bool, true, false, cond, not, ◌&&◌, and-false, true≢false}
use mathlib.Core.List.{[], ◌∷◌}
use mathlib.Core.Path.{◌≡◌, refl, sym, ap, ◌∙◌}
use lib.Dec.{leb, eqb, lit<, leb-zero, leb-suc-zero, leb-suc-suc}
use lib.ListN.{length, take, drop, get_or, drop_of_length-le}
use lib.Seq.{drop-drop, get_or-drop}
use borrow.Author.Tests.{leb-true, eqb-true, ne_eqb, not-true}
use Rattle.rules.specs.Text.{Text, digit, span, all, same, begins, empty, value, value_after, number, number_of}
use Rattle.rules.proofs.Tests.{and_l, and_r}
use Rattle.fields.specs.Field.{in_field, text_at, ends_at, end_of}
use Rattle.fields.proofs.FieldLaws.{next as at_place}
use Rattle.fields.proofs.PartLaws.{span_length}
use Rattle.fields.proofs.RunLaws.{text_within}
use Rattle.figures.specs.Figure.{leading_digits, digits_from, digits_at, number_at}

pub digit_least : (b : ℕ) → digit b ≡ true → 48 ≤ b
digit_least b e = leb-true 48 b (and_l (leb 48 b) (leb b 57) e)

pub digit_most : (b : ℕ) → digit b ≡ true → b ≤ 57
digit_most b e = leb-true b 57 (and_r (leb 48 b) (leb b 57) e)

abbrev read : ℕ → ℕ → ℕ × ℕ
read v e = (v, e)

-- A reading of digits, by one digit more, and where it stops.
module _ (v : ℕ) (s : Text) (i : ℕ) where
  more_step : (left : ℕ) → i < length s → digit (get_or s i 0) ≡ true
      → digits_from (suc left) v s i ≡ digits_from left (10 * v + (get_or s i 0 - 48)) s (i + 1)
  unfolding digits_from leading_digits value_after
  more_step left h e = rw (at_place s i h, e) (ap (read _) (omega arith))

  pub digits_more : (left : ℕ) → 1 ≤ left → i < length s → digit (get_or s i 0) ≡ true
      → digits_from left v s i ≡ digits_from (left - 1) (10 * v + (get_or s i 0 - 48)) s (i + 1)
  digits_more zero l h e = absurd (omega arith)
  digits_more (suc left) l h e =
      more_step left h e
      ∙ ap (λ (n : ℕ). digits_from n (10 * v + (get_or s i 0 - 48)) s (i + 1)) (omega arith)

  pub digits_enough : (left : ℕ) → left ≡ 0 → read v i ≡ digits_from left v s i
  unfolding digits_from leading_digits value_after
  digits_enough left e = rw e (ap (read v) (omega arith))

  pub digits_stop : (left : ℕ) → i < length s → digit (get_or s i 0) ≡ false → read v i ≡ digits_from left v s i
  unfolding digits_from leading_digits value_after
  digits_stop zero h e = ap (read v) (omega arith)
  digits_stop (suc left) h e = rw (at_place s i h, e) (ap (read v) (omega arith))

  pub digits_end : (left : ℕ) → length s ≤ i → read v i ≡ digits_from left v s i
  unfolding digits_from leading_digits value_after
  digits_end zero h = ap (read v) (omega arith)
  digits_end (suc left) h = rw (drop_of_length-le s h) (ap (read v) (omega arith))

pub below_none : (n : ℕ) → 0 < 10 ^ (n - n)
below_none n = one-le-pow (n - n) 10 (lit< tt)

-- One digit more makes ten times as much possible.
pub below_more : (most left v d : ℕ) → 1 ≤ left → left ≤ most → v < 10 ^ (most - left) → d ≤ 9
    → 10 * v + d < 10 ^ (most - (left - 1))
below_more most left v d l m h k =
    let e : most - (left - 1) ≡ suc (most - left) = omega arith in
    rw (e, pow-succ') (omega arith)

-- The text up to the next semicolon.
abbrev pub field : Text → Text
field s = take (span in_field s) s

-- Digits, counted no further than so many: the field ends behind them exactly when all of it is digits, and no more than so many; and then
-- they are the field.
abbrev pub Whole : ℕ → Text → Type 0
Whole most s =
    (empty (field (drop (leading_digits most s) s)) ≡ (all digit (field s) && leb (length (field s)) most))
    × ((all digit (field s) && leb (length (field s)) most) ≡ true → leading_digits most s ≡ span in_field s)

whole_none : (c : ℕ) (s : Text) (d : Bool) → eqb c 59 ≡ d → Whole 0 (c ∷ s)
unfolding span all leading_digits
whole_none c s true g = rw (g) (refl, λ k. refl)
whole_none c s false g =
    rw (g, leb-suc-zero, and-false) (refl, λ k. absurd (true≢false (sym k)))

whole_step : (most c : ℕ) (s : Text) (b d : Bool) → digit c ≡ b → eqb c 59 ≡ d → Whole most s → Whole (suc most) (c ∷ s)
unfolding span all leading_digits
whole_step most c s true true e g h =
    let z : true ≡ false = sym e ∙ ap digit (eqb-true c 59 g) in absurd (true≢false z)
whole_step most c s true false e g h = rw (g, e, leb-suc-suc) (h.0, λ k. ap suc (h.1 k))
whole_step most c s false true e g h = rw (g, e, g, leb-zero) (refl, λ k. refl)
whole_step most c s false false e g h = rw (g, e, g) (refl, λ k. absurd (true≢false (sym k)))

pub whole : (most : ℕ) (s : Text) → Whole most s
unfolding span all leading_digits
whole zero [] = (refl, λ k. refl)
whole zero (c ∷ s) = whole_none c s (eqb c 59) refl
whole (suc most) [] = rw (leb-zero) (refl, λ k. refl)
whole (suc most) (c ∷ s) = whole_step most c s (digit c) (eqb c 59) refl refl (whole most s)

pub end_is_length : (s : Text) (at : ℕ) → end_of s at ≡ at + length (text_at s at)
unfolding end_of
end_is_length s at = refl

-- A field that is not empty begins with the character at its place.
field_first : (s : Text) → 0 < length (field s) → field s ≡ get_or s 0 0 ∷ drop 1 (field s)
unfolding span
field_first [] h = absurd (omega arith)
field_first (c ∷ s) h = by (in_field c) h
  where
    by : (b : Bool) → 0 < length (take (cond b (suc (span in_field s)) 0) (c ∷ s))
        → take (cond b (suc (span in_field s)) 0) (c ∷ s) ≡ c ∷ drop 1 (take (cond b (suc (span in_field s)) 0) (c ∷ s))
    by true h = refl
    by false h = absurd (omega arith)

pub text_first : (s : Text) (at : ℕ) → 0 < length (text_at s at) → text_at s at ≡ get_or s at 0 ∷ drop 1 (text_at s at)
unfolding text_at
text_first s at h =
    field_first (drop at s) h
    ∙ ap (λ (c : ℕ). c ∷ drop 1 (field (drop at s))) (get_or-drop at s 0 0 ∙ ap (λ (i : ℕ). get_or s i 0) (add-zero at))

-- Digits were read, and the field ends behind them: they are the field.
pub record Read (most : ℕ) (s : Text) (at : ℕ) (r : ℕ × ℕ) : Type 0 where
  pub digits : all digit (text_at s at) ≡ true
  pub short : leb (length (text_at s at)) most ≡ true
  pub value : r.0 ≡ value (text_at s at)
  pub end : r.1 ≡ end_of s at

module _ (most : ℕ) (s : Text) (at : ℕ) (r : ℕ × ℕ) (e : r ≡ digits_at most s at) where
  ends_is : ends_at s r.1 ≡ (all digit (text_at s at) && leb (length (text_at s at)) most)
  unfolding digits_at digits_from ends_at text_at
  ends_is = rw (e, ← drop-drop (leading_digits most (drop at s)) at s) (whole most (drop at s)).0

  pub is_read_lem : ends_at s r.1 ≡ true → Read most s at r
  unfolding digits_at digits_from ends_at text_at end_of value
  is_read_lem h = record { digits = and_l (all digit (text_at s at)) (leb (length (text_at s at)) most) g; short = and_r (all digit (text_at s at)) (leb (length (text_at s at)) most) g; value = rw (e, count); end = rw (e, count, span_length) }
    where
      g : (all digit (text_at s at) && leb (length (text_at s at)) most) ≡ true
      g = sym ends_is ∙ h

      count : leading_digits most (drop at s) ≡ span in_field (drop at s)
      count = (whole most (drop at s)).1 g

  pub not_read : ends_at s r.1 ≡ false → (all digit (text_at s at) && leb (length (text_at s at)) most) ≡ false
  not_read h = sym ends_is ∙ h

-- What a reader answers of a number: from its rule, its value and its end.
module _ (rule : Text → Bool) (s : Text) (at : ℕ) where
  pub number_good : {v e : ℕ} → rule (text_at s at) ≡ true → v ≡ value (text_at s at) → e ≡ end_of s at
      → Some (v, e) ≡ number_at rule s at
  unfolding number_at
  number_good h p q = rw (h, p, q)

  pub number_bad : rule (text_at s at) ≡ false → None ≡ number_at rule s at
  unfolding number_at
  number_bad h = rw h

-- The rule of a number, by its first character.
rule_plain : (most c : ℕ) (t : Text) → all digit (c ∷ t) ≡ true → leb (length (c ∷ t)) most ≡ true → (c ≡ 48 → ⊥)
    → number_of most (c ∷ t) ≡ true
unfolding number_of number same begins
rule_plain most c t a l n =
    let other : 48 ≡ c → ⊥ = λ p. n (sym p) in
    rw (a, ne_eqb c 48 n, ne_eqb 48 c other, l)

rule_zeros : (most c : ℕ) (t : Text) → c ≡ 48 → 0 < length t → number_of most (c ∷ t) ≡ false
unfolding number_of number same begins
rule_zeros most c [] e h = absurd (omega arith)
rule_zeros most c (d ∷ t) e h = rw (e, and-false)

rule_zero : (most c : ℕ) (t : Text) → leb (length (c ∷ t)) most ≡ true → c ≡ 48 → length t ≡ 0 → number_of most (c ∷ t) ≡ true
unfolding number_of number same begins all
rule_zero most c [] l e h = rw (e, l)
rule_zero most c (d ∷ t) l e h = absurd (omega arith)

pub rule_long : (most : ℕ) (t : Text) → (all digit t && leb (length t) most) ≡ false → number_of most t ≡ false
unfolding number_of number
rule_long most t h = by (not (empty t)) (all digit t) _ (leb (length t) most) h
  where
    by : (a b c d : Bool) → (b && d) ≡ false → (a && b && c && d) ≡ false
    by true true true d h = h
    by true true false d h = refl
    by true false c d h = refl
    by false b c d h = refl

rule_none : (most : ℕ) (t : Text) → length t ≡ 0 → number_of most t ≡ false
unfolding number_of number
rule_none most [] h = refl
rule_none most (c ∷ t) h = absurd (omega arith)

-- The answers of the reader of numbers, one for each.
module _ (most : ℕ) (s : Text) (at : ℕ) (r : ℕ × ℕ) (e : r ≡ digits_at most s at) where
  pub reads_no_end : not (ends_at s r.1) ≡ true → None ≡ number_at (number_of most) s at
  reads_no_end h =
      number_bad (number_of most) s at (rule_long most (text_at s at) (not_read most s at r e (not-true _ h)))

  -- the field ends behind the digits
  module _ (h : ends_at s r.1 ≡ true) where
    pub end_here : r.1 ≡ at + length (text_at s at)
    end_here = (is_read_lem most s at r e h).end ∙ end_is_length s at

    pub reads_none : r.1 ≡ at → None ≡ number_at (number_of most) s at
    reads_none n =
        number_bad (number_of most) s at (rule_none most (text_at s at) (omega (arith, end_here)))

    module _ (n : r.1 ≡ at → ⊥) where
      longer : 0 < length (text_at s at)
      longer = omega (arith, end_here)

      first : text_at s at ≡ get_or s at 0 ∷ drop 1 (text_at s at)
      first = text_first s at longer

      all_first : all digit (get_or s at 0 ∷ drop 1 (text_at s at)) ≡ true
      all_first = sym (ap (all digit) first) ∙ (is_read_lem most s at r e h).digits

      short_first : leb (length (get_or s at 0 ∷ drop 1 (text_at s at))) most ≡ true
      short_first = sym (ap (λ (t : Text). leb (length t) most) first) ∙ (is_read_lem most s at r e h).short

      good : number_of most (get_or s at 0 ∷ drop 1 (text_at s at)) ≡ true
          → Some (r.0, r.1) ≡ number_at (number_of most) s at
      good g =
          number_good (number_of most) s at (ap (number_of most) first ∙ g) (is_read_lem most s at r e h).value
          (is_read_lem most s at r e h).end

      pub reads_plain : (get_or s at 0 ≡ 48 → ⊥) → Some (r.0, r.1) ≡ number_at (number_of most) s at
      reads_plain z = good (rule_plain most _ _ all_first short_first z)

      pub reads_zeros : get_or s at 0 ≡ 48 → (r.1 - at ≡ 1 → ⊥) → None ≡ number_at (number_of most) s at
      reads_zeros z m =
          number_bad (number_of most) s at
          (ap (number_of most) first
          ∙ rule_zeros most _ _ z (omega (arith, end_here, ap length first)))

      pub reads_zero : get_or s at 0 ≡ 48 → r.1 - at ≡ 1 → Some (r.0, r.1) ≡ number_at (number_of most) s at
      reads_zero z m = good (rule_zero most _ _ short_first z (omega (arith, end_here, ap length first)))

      pub starts_within : at < length s
      starts_within = omega (arith, text_within s at longer, longer)

turn : (n d p v : ℕ) → (10 * n + d) * p + v ≡ n * (10 * p) + ((0 + d) * p + v)
turn n d p v =
    omega (arith, add-mul (10 * n) d p, ap (λ (m : ℕ). m * p) (mul_comm 10 n) ∙ mul_assoc n 10 p, add-mul 0 d p)

-- The number that digits write, behind others.
pub value_after_lem : (n : ℕ) (t : Text) → value_after n t ≡ n * 10 ^ length t + value t
unfolding value_after value
value_after_lem n [] = omega arith
value_after_lem n (c ∷ t) =
    value_after_lem (10 * n + (c - 48)) t
    ∙ turn n (c - 48) (10 ^ length t) (value t)
    ∙ ap (λ (m : ℕ). n * m + ((0 + (c - 48)) * 10 ^ length t + value t)) (sym (pow-succ' 10 (length t)))
    ∙ sym (ap (λ (m : ℕ). n * 10 ^ suc (length t) + m) (value_after_lem (10 * 0 + (c - 48)) t))

-- A text's value, from the values of its parts.
after_split : (k n : ℕ) (t : Text) → value_after n t ≡ value_after (value_after n (take k t)) (drop k t)
unfolding value_after
after_split zero n t = refl
after_split (suc k) n [] = refl
after_split (suc k) n (c ∷ t) = after_split k (10 * n + (c - 48)) t

pub value_split : (k : ℕ) (t : Text) → value t ≡ value (take k t) * 10 ^ length (drop k t) + value (drop k t)
unfolding value
value_split k t = after_split k 0 t ∙ value_after_lem (value_after 0 (take k t)) (drop k t)
