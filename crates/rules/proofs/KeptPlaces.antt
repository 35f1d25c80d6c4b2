-- What is left of a list once places are struck: which place each of what is left had before.
-- Assumes nothing.
use Prim.Native.Nat.{ℕ, zero, suc, ◌+◌, ◌<◌, zero-le, suc-le-suc}
use native.Mathlib.Nat.{le_of_suc-le-suc, not-suc-le-zero, zero-add}
use native.Mathlib.Omega.{arith}
use mathlib.Core.Path.{◌≡◌, refl, ◌∙◌}
use mathlib.Core.Bool.{Bool, true, false, cond, not}
use mathlib.Core.List.{List, [], ◌∷◌}
use lib.Dec.{T}
use lib.ListN.{length, get_or}
use Rattle.rules.specs.Striking.{Places, later, kept, place_after}
use Rattle.rules.proofs.Passing.{is_not}

one_more : (n : ℕ) → 1 + n ≡ suc n
one_more n = omega arith

-- One step of a list, whether or not its first is struck.
module _ {A : Type 0} (a : A) (l : List A) (n : ℕ) where
  at_step : (b : Bool) (d : A) → get_or (cond b l (a ∷ l)) (cond b 0 1 + n) d ≡ get_or l n d
  at_step true d = rw (zero-add n)
  at_step false d = rw (one_more n)

  fits_step : (b : Bool) → n < length l → cond b 0 1 + n < length (cond b l (a ∷ l))
  fits_step true h = omega arith
  fits_step false h = omega arith

module _ {A : Type 0} (d : A) where
  -- What is not struck is found at its new place.
  pub kept_at : (struck : Places) (l : List A) (j : ℕ) →
      j < length l →
      T (not (struck j)) →
      get_or (kept struck l) (place_after struck j) d ≡ get_or l j d
  unfolding kept place_after
  kept_at struck [] j h n = absurd (not-suc-le-zero h)
  kept_at struck (a ∷ l) zero h n = rw (is_not (struck 0) n)
  kept_at struck (a ∷ l) (suc j) h n =
      at_step a (kept (later struck) l) (place_after (later struck) j) (struck 0) d
      ∙ kept_at (later struck) l j (le_of_suc-le-suc h) n

  pub kept_fits : (struck : Places) (l : List A) (j : ℕ) →
      j < length l →
      T (not (struck j)) →
      place_after struck j < length (kept struck l)
  unfolding kept place_after
  kept_fits struck [] j h n = absurd (not-suc-le-zero h)
  kept_fits struck (a ∷ l) zero h n = rw (is_not (struck 0) n) (suc-le-suc zero-le)
  kept_fits struck (a ∷ l) (suc j) h n =
      fits_step a (kept (later struck) l) (place_after (later struck) j) (struck 0) (kept_fits (later struck) l j (le_of_suc-le-suc h) n)

-- The places that are left keep their order.
pub places_ordered : (struck : Places) (i j : ℕ) → i < j → T (not (struck i)) → place_after struck i < place_after struck j
unfolding place_after
places_ordered struck i zero h n = absurd (not-suc-le-zero h)
places_ordered struck zero (suc j) h n = rw (is_not (struck 0) n) (omega arith)
places_ordered struck (suc i) (suc j) h n =
    let k = places_ordered (later struck) i j (le_of_suc-le-suc h) n in
    omega arith

-- Each place that is left was some place that is not struck.
abbrev pub Origin : Places → ℕ → ℕ → Type 0
Origin struck j k = (i : ℕ) × (i < j) × T (not (struck i)) × (place_after struck i ≡ k)

-- The places behind the first.
module _ (struck : Places) (j : ℕ) (before : (k : ℕ) → k < place_after (later struck) j → Origin (later struck) j k) where
  behind : (b : Bool) → struck 0 ≡ b → (k m : ℕ) → k < place_after (later struck) j → cond b 0 1 + k ≡ m → Origin struck (suc j) m
  unfolding place_after
  behind b e k m h f =
      let w = before k h in
      (suc w.0, suc-le-suc w.1, w.2, rw (e, w.3) f)

  from_first : (b : Bool) → struck 0 ≡ b → (k : ℕ) → k < cond b 0 1 + place_after (later struck) j → Origin struck (suc j) k
  unfolding place_after
  from_first true e k h = behind true e k k (omega arith) (omega arith)
  from_first false e zero h = (zero, suc-le-suc zero-le, rw e tt, refl)
  from_first false e (suc k) h = behind false e k (suc k) (omega arith) (omega arith)

pub origin : (struck : Places) (j k : ℕ) → k < place_after struck j → Origin struck j k
unfolding place_after
origin struck zero k h = absurd (not-suc-le-zero h)
origin struck (suc j) k h = from_first struck j (origin (later struck) j) (struck 0) refl k h
