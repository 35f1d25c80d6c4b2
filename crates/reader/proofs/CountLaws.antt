-- The semicolons of a line are one less than its parts, and so tell whether a bad field is told.
-- Assumes nothing.
use Prim.Native.Nat.{ℕ, ◌+◌, ◌<◌}
use native.Mathlib.Omega.{arith}
use mathlib.Core.Path.{◌≡◌, refl, ap, ◌∙◌}
use mathlib.Core.Bool.{Bool, true, false, cond}
use mathlib.Core.List.{List, [], ◌∷◌}
use lib.Dec.{eqb}
use lib.ListN.{length}
use borrow.Author.Tests.{eq-eqb, ne_eqb}
use Rattle.std.specs.List.{count_by}
use Rattle.std.proofs.lemmas.List.Sums.{sum_by-cons}
use Rattle.rules.specs.Reading.{fault}
use Rattle.rules.specs.Text.{Text, before, parts}
use Rattle.reader.specs.Line.{semicolons_in}
use Rattle.reader.specs.Record.{broken_at}

before_as_many : (c : ℕ) (ts : List Text) → 0 < length ts → length (before c ts) ≡ length ts
unfolding before
before_as_many c [] h = absurd (omega arith)
before_as_many c (t ∷ ts) h = refl

pub semicolons_parts : (l : Text) → length (parts l) ≡ semicolons_in l + 1
unfolding parts semicolons_in
semicolons_parts [] = refl
semicolons_parts (c ∷ l) = by (eqb c 59) (semicolons_parts l)
  where
    by : (b : Bool) → length (parts l) ≡ semicolons_in l + 1 → length (cond b ([] ∷ parts l) (before c (parts l))) ≡ cond b 1 0 + semicolons_in l + 1
    by true h = omega arith
    by false h = omega (arith, before_as_many c (parts l) (omega arith))

-- So many characters of the text are semicolons.
pub semicolons_by : (l : Text) → count_by (λ c. eqb c 59) l ≡ semicolons_in l
unfolding semicolons_in
semicolons_by [] = refl
semicolons_by (c ∷ l) = sum_by-cons (λ d. cond (eqb d 59) 1 0) c l ∙ ap (λ (n : ℕ). cond (eqb c 59) 1 0 + n) (semicolons_by l)

-- What is told of a bad field.
module _ (l : Text) (field : ℕ) {n : ℕ} (e : n ≡ semicolons_in l) where
  pub right_count : n ≡ 14 → fault 5 field ≡ broken_at l field
  unfolding broken_at
  right_count h = rw (eq-eqb (length (parts l)) 15 (omega (arith, semicolons_parts l)))

  pub wrong_count : (n ≡ 14 → ⊥) → fault 5 0 ≡ broken_at l field
  unfolding broken_at
  wrong_count h = rw (ne_eqb (length (parts l)) 15 (λ k. h (omega (arith, semicolons_parts l))))
