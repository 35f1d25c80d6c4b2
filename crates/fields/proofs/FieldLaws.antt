-- Laws of a field: a run of characters of one kind is the whole field exactly when the field ends behind it.
-- Assumes nothing.
use Prim.Native.Nat.{ℕ, zero, suc, ◌+◌, ◌≤◌, ◌<◌}
use native.Mathlib.Numerals.{add-one}
use native.Mathlib.Omega.{arith}
use mathlib.Core.Bool.{Bool, true, false, cond, not, ◌&&◌, true≢false}
use mathlib.Core.List.{[], ◌∷◌}
use mathlib.Core.Path.{◌≡◌, refl, sym, ap, ◌∙◌}
use lib.Dec.{eqb}
use lib.ListN.{length, take, drop, get_or, drop_of_length-le}
use lib.Seq.{drop-cons, drop-drop}
use borrow.Author.Tests.{eqb-true, not-true, not-false}
use Rattle.rules.specs.Text.{Text, span, all, empty}
use Rattle.fields.specs.Field.{in_field, text_at, ends_at, end_of}

pub next : (s : Text) (i : ℕ) → i < length s → drop i s ≡ get_or s i 0 ∷ drop (i + 1) s
next s i h = rw (add-one, drop-cons s i 0)

pub next_at : (s : Text) (i j : ℕ) → i < length s → i + 1 ≡ j → drop i s ≡ get_or s i 0 ∷ drop j s
next_at s i j h e = next s i h ∙ ap (λ (k : ℕ). get_or s i 0 ∷ drop k s) e

-- So many characters from a place on, one by one.
abbrev behind : Text → ℕ → ℕ → ℕ → Text
behind s at k zero = []
behind s at k (suc n) = get_or s (at + k) 0 ∷ behind s at (k + 1) n

abbrev pub characters : Text → ℕ → ℕ → Text
characters s at zero = []
characters s at (suc n) = get_or s at 0 ∷ behind s at 1 n

take_behind : (s : Text) (at k n : ℕ) → at + k + n ≤ length s → take n (drop (at + k) s) ≡ behind s at k n
take_behind s at k zero h = refl
take_behind s at k (suc n) h =
    rw (next_at s (at + k) (at + (k + 1)) (omega arith) (omega arith))
    (ap (λ (t : Text). get_or s (at + k) 0 ∷ t) (take_behind s at (k + 1) n (omega arith)))

pub take_characters : (s : Text) (at n : ℕ) → at + n ≤ length s → take n (drop at s) ≡ characters s at n
take_characters s at zero h = refl
take_characters s at (suc n) h =
    rw (next s at (omega arith)) (ap (λ (t : Text). get_or s at 0 ∷ t) (take_behind s at 1 n (omega arith)))

-- A loop over a run: the run from the first place on ends where the run from the present place on does.
pub record Within (f : ℕ → Bool) (s : Text) (at i : ℕ) : Type 0 where
  pub ending : at + span f (drop at s) ≡ i + span f (drop i s)

pub run_starts : (f : ℕ → Bool) (s : Text) (at : ℕ) → Within f s at at
run_starts f s at = record { ending = refl }

module _ {f : ℕ → Bool} {s : Text} {at i : ℕ} (r : Within f s at i) where
  pub run_ends : length s ≤ i → i ≡ at + span f (drop at s)
  unfolding span
  run_ends h = rw (r.ending, drop_of_length-le s h) (omega arith)

  module _ (h : i < length s) {b : Bool} (l : b ≡ f (get_or s i 0)) where
    pub run_more : not b ≡ false → Within f s at (i + 1)
    unfolding span
    run_more e = record { ending = r.ending ∙ rw (next s i h, sym l ∙ not-false b e) (omega arith) }

    pub run_stops : not b ≡ true → i ≡ at + span f (drop at s)
    unfolding span
    run_stops e = rw (r.ending, next s i h, sym l ∙ not-true b e) (omega arith)

-- A field ends at the end of the line, and at a semicolon.
pub ends_with_line : (s : Text) (i : ℕ) → length s ≤ i → true ≡ ends_at s i
unfolding ends_at text_at span
ends_with_line s i h = rw (drop_of_length-le s h)

pub ends_at_semicolon : (s : Text) (i : ℕ) → i < length s → eqb (get_or s i 0) 59 ≡ ends_at s i
unfolding ends_at text_at span
ends_at_semicolon s i h = rw (next s i h) (by (eqb (get_or s i 0) 59))
  where
    by : (b : Bool) → b ≡ empty (take (cond (not b) (suc (span in_field (drop (i + 1) s))) 0) (get_or s i 0 ∷ drop (i + 1) s))
    by true = refl
    by false = refl

-- A run of characters none of which is a semicolon: the field ends behind it exactly when all of the field is such a run, and then it is as
-- long.
module _ (f : ℕ → Bool) (apart : f 59 ≡ false) where
  abbrev Whole : Text → Type 0
  Whole s =
      (empty (take (span in_field (drop (span f s) s)) (drop (span f s) s)) ≡ all f (take (span in_field s) s))
      × (all f (take (span in_field s) s) ≡ true → length (take (span in_field s) s) ≡ span f s)

  whole_step : (c : ℕ) (s : Text) (b d : Bool) → f c ≡ b → eqb c 59 ≡ d → Whole s → Whole (c ∷ s)
  unfolding span all
  whole_step c s true true e g h =
      let z : true ≡ false = sym e ∙ ap f (eqb-true c 59 g) ∙ apart in absurd (true≢false z)
  whole_step c s true false e g h = rw (g, e) (h.0, λ k. ap suc (h.1 k))
  whole_step c s false true e g h = rw (e, g) (refl, λ k. refl)
  whole_step c s false false e g h = rw (g, e, g) (refl, λ k. absurd (true≢false (sym k)))

  whole : (s : Text) → Whole s
  unfolding span all
  whole [] = (refl, λ k. refl)
  whole (c ∷ s) = whole_step c s (f c) (eqb c 59) refl refl (whole s)

  pub run_is_field : (s : Text) (at : ℕ) → ends_at s (at + span f (drop at s)) ≡ all f (text_at s at)
  unfolding ends_at text_at
  run_is_field s at = rw (← drop-drop (span f (drop at s)) at s) (whole (drop at s)).0

  pub run_is_as_long : (s : Text) (at : ℕ) → all f (text_at s at) ≡ true → end_of s at ≡ at + span f (drop at s)
  unfolding text_at end_of
  run_is_as_long s at e = ap (λ (n : ℕ). at + n) ((whole (drop at s)).1 e)
