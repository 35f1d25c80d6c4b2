-- Laws of the parts of a text: where each begins, what it is, and how many there are.
-- Assumes nothing.
use Prim.Native.Nat.{ℕ, zero, suc, ◌+◌, ◌≤◌, ◌<◌, max}
use native.Mathlib.Decide.{dec_lt}
use native.Mathlib.Nat.{add-zero, suc-add, add-suc}
use native.Mathlib.Omega.{arith}
use mathlib.Core.Bool.{Bool, true, false, cond, not, ◌&&◌, true≢false}
use mathlib.Core.List.{List, [], ◌∷◌}
use mathlib.Core.Path.{◌≡◌, refl, sym, ap, ◌∙◌}
use lib.Dec.{eqb}
use lib.ListN.{length, take, drop, get_or, drop_of_length-le, length-drop}
use lib.Seq.{length-take-le, drop-drop, get_or-drop}
use Rattle.rules.specs.Text.{Text, span, parts, before, all}
use Rattle.rules.proofs.TextLaws.{span_short}
use Rattle.fields.specs.Field.{in_field, text_at, end_of}
use Rattle.fields.proofs.FieldLaws.{next}

-- A text of one kind of characters is one run.
pub whole_span : (f : ℕ → Bool) (s : Text) → all f s ≡ true → span f s ≡ length s
unfolding span all
whole_span f [] e = refl
whole_span f (c ∷ s) e = by (f c) e (whole_span f s)
  where
    by : (b : Bool) → (b && all f s) ≡ true → (all f s ≡ true → span f s ≡ length s) → cond b (suc (span f s)) 0 ≡ suc (length s)
    by true k h = ap suc (h k)
    by false k h = absurd (true≢false (sym k))

-- What stands behind the semicolon at the front, if one does.
abbrev rest : Text → List Text
rest [] = []
rest (c ∷ s) = parts s

pub parts_split : (s : Text) → parts s ≡ take (span in_field s) s ∷ rest (drop (span in_field s) s)
unfolding parts before span
parts_split [] = refl
parts_split (c ∷ s) = by (eqb c 59) (parts_split s)
  where
    by : (b : Bool) →
        parts s ≡ take (span in_field s) s ∷ rest (drop (span in_field s) s) →
        cond b ([] ∷ parts s) (before c (parts s))
        ≡ take (cond (not b) (suc (span in_field s)) 0) (c ∷ s) ∷ rest (drop (cond (not b) (suc (span in_field s)) 0) (c ∷ s))
    by true h = refl
    by false h = ap (before c) h

-- A run of characters is as long as its text.
pub span_length : (f : ℕ → Bool) (s : Text) → length (take (span f s) s) ≡ span f s
span_length f s = length-take-le (span f s) s (span_short f s)

module _ (l : Text) where
  pub end_by_span : (a : ℕ) → end_of l a ≡ a + span in_field (drop a l)
  unfolding end_of text_at
  end_by_span a = ap (λ (n : ℕ). a + n) (span_length in_field (drop a l))

  -- A field ends within the line, or where it begins.
  pub end_within : (a : ℕ) → end_of l a ≤ max a (length l)
  end_within a =
      omega (arith, end_by_span a, span_short in_field (drop a l), length-drop a l)

  pub at_end_lem : (a : ℕ) → parts (drop a l) ≡ text_at l a ∷ rest (drop (end_of l a) l)
  unfolding text_at
  at_end_lem a =
      parts_split (drop a l)
      ∙ ap (λ (t : Text). take (span in_field (drop a l)) (drop a l) ∷ rest t)
      (drop-drop (span in_field (drop a l)) a l ∙ ap (λ (n : ℕ). drop n l) (sym (end_by_span a)))

  -- The field at a place is the last part of the line, or another follows behind its semicolon.
  pub parts_last : (a : ℕ) → length l ≤ end_of l a → parts (drop a l) ≡ text_at l a ∷ []
  parts_last a h = at_end_lem a ∙ ap (λ (t : Text). text_at l a ∷ rest t) (drop_of_length-le l h)

  pub parts_more : (a : ℕ) → end_of l a < length l → parts (drop a l) ≡ text_at l a ∷ parts (drop (end_of l a + 1) l)
  parts_more a h = at_end_lem a ∙ ap (λ (t : Text). text_at l a ∷ rest t) (next l (end_of l a) h)

  -- The part of number k begins at a, and so on from there.
  abbrev pub Reaches : ℕ → ℕ → Type 0
  Reaches k a = (j : ℕ) → get_or (drop k (parts l)) j [] ≡ get_or (parts (drop a l)) j []

  pub reach_first : Reaches 0 0
  reach_first j = refl

  none : (j : ℕ) → get_or {A = Text} [] j [] ≡ get_or (parts []) j []
  unfolding parts
  none zero = refl
  none (suc j) = refl

  shifted : (a j : ℕ) → get_or (parts (drop a l)) (suc j) [] ≡ get_or (parts (drop (end_of l a + 1) l)) j []
  shifted a j = by (dec_lt (end_of l a) (length l))
    where
      by : Dec (end_of l a < length l) → get_or (parts (drop a l)) (suc j) [] ≡ get_or (parts (drop (end_of l a + 1) l)) j []
      by (yes h) = rw (parts_more a h)
      by (no h) =
          rw (parts_last a (omega arith), drop_of_length-le l {i = end_of l a + 1} (omega arith)) (none j)

  pub reach_next : (k a : ℕ) → Reaches k a → Reaches (suc k) (end_of l a + 1)
  reach_next k a r j =
      get_or-drop (suc k) (parts l) j []
      ∙ ap (λ (n : ℕ). get_or (parts l) n []) (suc-add k j ∙ sym (add-suc k j))
      ∙ sym (get_or-drop k (parts l) (suc j) [])
      ∙ r (suc j)
      ∙ shifted a j

  pub text_of : (k a : ℕ) → Reaches k a → get_or (parts l) k [] ≡ text_at l a
  text_of k a r =
      ap (λ (n : ℕ). get_or (parts l) n []) (sym (add-zero k))
      ∙ sym (get_or-drop k (parts l) 0 [])
      ∙ r 0
      ∙ ap (λ (ts : List Text). get_or ts 0 []) (at_end_lem a)
