-- Fields of a known length: such a field is the characters that stand at its place, where it ends behind them.
-- Assumes nothing.
use Prim.Native.Nat.{ℕ, zero, suc, ◌+◌, ◌≤◌, ◌<◌}
use native.Mathlib.Decide.{ℕ_discrete}
use native.Mathlib.Omega.{arith}
use mathlib.Core.Bool.{Bool, true, false, not, ◌&&◌, true≢false}
use mathlib.Core.List.{[], ◌∷◌}
use mathlib.Core.Path.{◌≡◌, refl, sym, ap, ◌∙◌}
use lib.Dec.{leb, eqb}
use lib.ListN.{length, take, drop, length-drop}
use lib.Seq.{drop-drop}
use borrow.Author.Tests.{not-true, not-false}
use Rattle.rules.specs.Text.{Text, digit, span, all, empty}
use Rattle.rules.proofs.Tests.{and_l, and_r, fails}
use Rattle.fields.specs.Field.{in_field, text_at, ends_at}
use Rattle.fields.proofs.FieldLaws.{characters, take_characters}
use Rattle.fields.proofs.PartLaws.{span_length}
use Rattle.fields.proofs.RunLaws.{text_of_length, text_within}
use Rattle.figures.specs.Figure.{leading_digits}
use Rattle.figures.proofs.NumberLaws.{field, whole}

-- A field ends behind its text.
field_ends : (s : Text) → empty (field (drop (span in_field s) s)) ≡ true
unfolding span
field_ends [] = refl
field_ends (c ∷ s) = by (eqb c 59) refl (field_ends s)
  where
    by : (b : Bool) → eqb c 59 ≡ b → empty (field (drop (span in_field s) s)) ≡ true
        → empty (field (drop (span in_field (c ∷ s)) (c ∷ s))) ≡ true
    by true e h = rw (e, e)
    by false e h = rw e h

-- So many digits in front are all counted.
all_counted : (n : ℕ) (s : Text) → n ≤ length s → all digit (take n s) ≡ true → leading_digits n s ≡ n
unfolding all leading_digits
all_counted zero s l h = refl
all_counted (suc n) [] l h = absurd (omega arith)
all_counted (suc n) (c ∷ s) l h =
    rw (and_l (digit c) (all digit (take n s)) h)
    (ap suc (all_counted n s (omega arith) (and_r (digit c) (all digit (take n s)) h)))

module _ (n : ℕ) (s : Text) (at : ℕ) where
  -- A field that is so long ends behind so many characters.
  pub exact_ends : length (text_at s at) ≡ n → ends_at s (at + n) ≡ true
  unfolding text_at ends_at
  exact_ends h =
      rw (← drop-drop n at s, ← h, span_length) (field_ends (drop at s))

  -- So many digits, behind which the field ends, are the field.
  pub digits_exact : all digit (take n (drop at s)) ≡ true → n ≤ length (drop at s) → ends_at s (at + n) ≡ true
      → text_at s at ≡ take n (drop at s)
  unfolding text_at ends_at
  digits_exact h l e = ap (λ (k : ℕ). take k (drop at s)) (sym ((whole n (drop at s)).1 g) ∙ all_counted n (drop at s) l h)
    where
      g : (all digit (field (drop at s)) && leb (length (field (drop at s))) n) ≡ true
      g = sym (whole n (drop at s)).0 ∙ rw (all_counted n (drop at s) l h, drop-drop) e

-- Characters that are looked at two by two: as long as both are digits, what is left decides whether all of them are.
module _ (a b : ℕ) (t : Text) {x : Bool} (l : x ≡ all digit (a ∷ b ∷ [])) where
  two_and_rest : all digit (a ∷ b ∷ t) ≡ (all digit (a ∷ b ∷ []) && all digit t)
  unfolding all
  two_and_rest = by (digit a) (digit b)
    where
      by : (y z : Bool) → (y && (z && all digit t)) ≡ (y && (z && true) && all digit t)
      by true true = refl
      by true false = refl
      by false z = refl

  pub goes_on_lem : not x ≡ false → all digit (a ∷ b ∷ t) ≡ all digit t
  goes_on_lem e = two_and_rest ∙ rw (sym l ∙ not-false x e)

  pub stops : not x ≡ true → all digit (a ∷ b ∷ t) ≡ false
  stops e = two_and_rest ∙ rw (sym l ∙ not-true x e)

-- A rule of so many digits, held against the characters from a place on that the field must be.
module _ (n : ℕ) (rule : Text → Bool) (long : (t : Text) → rule t ≡ true → length t ≡ n) (s : Text) (at : ℕ) where
  other_length : (length (text_at s at) ≡ n → ⊥) → rule (text_at s at) ≡ false
  other_length h = fails (rule (text_at s at)) (λ e. h (long (text_at s at) e))

  pub too_short_lem : 1 ≤ n → length s < at + n → rule (text_at s at) ≡ false
  too_short_lem l h = other_length (λ e. omega (arith, text_within s at (omega arith)))

  pub not_ended : ends_at s (at + n) ≡ false → rule (text_at s at) ≡ false
  not_ended h = other_length (λ e. true≢false (sym (exact_ends n s at e) ∙ h))

  module _ (h : at + n ≤ length s) where
    pub other_characters : rule (characters s at n) ≡ false → rule (text_at s at) ≡ false
    other_characters f = by (ℕ_discrete (length (text_at s at)) n)
      where
        by : Dec (length (text_at s at) ≡ n) → rule (text_at s at) ≡ false
        by (yes e) = ap rule (text_of_length s at n e ∙ take_characters s at n h) ∙ f
        by (no m) = other_length m

    pub exact_text : ((t : Text) → rule t ≡ true → all digit t ≡ true) → ends_at s (at + n) ≡ true → rule (characters s at n) ≡ true
        → text_at s at ≡ characters s at n
    exact_text digits e r =
        digits_exact n s at (ap (all digit) (take_characters s at n h) ∙ digits (characters s at n) r) (omega (arith, length-drop at s)) e
        ∙ take_characters s at n h
