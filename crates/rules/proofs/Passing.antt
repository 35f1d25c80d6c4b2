-- Laws of tests that pass, as types: what Tests says as equations, for statements that speak of types; and sameness of texts.
-- Assumes nothing.
use mathlib.Core.Path.{◌≡◌, refl}
use mathlib.Core.Logic.{◌⊎◌, inl, inr, ⊎_elim, ◌↔◌}
use mathlib.Core.Bool.{Bool, true, false, not, ◌&&◌, ◌||◌}
use lib.Dec.{T}
use borrow.Author.Tests.{not-true}
use Rattle.rules.specs.Text.{Text, same}
use Rattle.rules.proofs.Tests.{so, holds, either, and_l, and_r, and_i, or_cases, or_l, or_r, not_false}
use Rattle.rules.proofs.TextLaws.{same_eq, same_of_eq}

-- Both of two tests.
pub both : (a b : Bool) → T a → T b → T (a && b)
both a b s t = holds (and_i (so a s) (so b t))

pub first : (a b : Bool) → T (a && b) → T a
first a b t = holds (and_l a b (so (a && b) t))

pub second : (a b : Bool) → T (a && b) → T b
second a b t = holds (and_r a b (so (a && b) t))

-- One of two tests.
pub one_of : (a b : Bool) → T (a || b) → T a ⊎ T b
one_of a b t = ⊎_elim (λ e. inl (holds e)) (λ e. inr (holds e)) (or_cases a b (so (a || b) t))

pub left : (a b : Bool) → T a → T (a || b)
left a b t = holds (or_l b (so a t))

pub right : (a b : Bool) → T b → T (a || b)
right a b t = holds (or_r a (so b t))

-- A test that does not pass.
pub failed : (b : Bool) → T (not b) ↔ (T b → ⊥)
failed true = (λ t s. t, λ f. f tt)
failed false = (λ t s. s, λ f. tt)

pub decided : (b : Bool) → T b ⊎ T (not b)
decided b = ⊎_elim (λ e. inl (holds e)) (λ e. inr (holds (not_false e))) (either b)

pub is_not : (b : Bool) → T (not b) → b ≡ false
is_not b t = not-true b (so (not b) t)

-- Two tests that pass together are one.
pub equal_tests : (a b : Bool) → (T a → T b) → (T b → T a) → a ≡ b
equal_tests true true f g = refl
equal_tests true false f g = absurd (f tt)
equal_tests false true f g = absurd (g tt)
equal_tests false false f g = refl

-- Texts that are the same byte for byte are equal.
pub same→equal : (s t : Text) → T (same s t) → s ≡ t
same→equal s t h = same_eq s t (so (same s t) h)

pub equal→same : (s t : Text) → s ≡ t → T (same s t)
equal→same s t e = holds (same_of_eq s t e)
