-- What the number of a verdict says is the verdict's.
-- Assumes nothing.
use Prim.Native.Nat.{ℕ, ◌+◌, ◌*◌, ◌/◌, ◌%◌, ◌≤◌}
use native.Mathlib.Omega.{arith}
use mathlib.Core.Bool.{Bool, true, false, cond}
use mathlib.Core.Path.{◌≡◌, refl, ap, ◌∙◌}
use lib.Dec.{eqb}
use Rattle.rules.specs.Judging.{class_number, is, verdict_number}
use Rattle.rules.specs.declared.Class.{Class}
use Rattle.rules.specs.declared.Class.TheVariants.{Credited, Void, Duplicate, Error}
use Rattle.rules.specs.declared.Verdict.{Verdict}
use Rattle.writer.specs.RecordText.{says_duplicate, says_new}

-- A mark counts for its worth, once or not at all.
abbrev once : Bool → ℕ
once b = cond b 1 0

once_most : (b : Bool) → once b ≤ 1
once_most true = omega arith
once_most false = omega arith

once_told : (b : Bool) → eqb (once b) 1 ≡ b
once_told true = refl
once_told false = refl

worth_of : (b : Bool) (worth : ℕ) → cond b worth 0 ≡ worth * once b
worth_of true worth = omega arith
worth_of false worth = omega arith

class_most : (c : Class) → class_number c ≤ 3
unfolding class_number
class_most Credited = omega arith
class_most Void = omega arith
class_most Duplicate = omega arith
class_most Error = omega arith

class_told : (c : Class) → eqb (class_number c) 2 ≡ is Duplicate c
unfolding is class_number
class_told Credited = refl
class_told Void = refl
class_told Duplicate = refl
class_told Error = refl

module _ (v : Verdict) where
  number_sum : verdict_number v ≡ class_number v.class + 16 * once v.exchange + 32 * once v.square + 64 * once v.country
  unfolding verdict_number
  number_sum = omega (arith, worth_of v.exchange 16, worth_of v.square 32, worth_of v.country 64)

  pub duplicate_told : says_duplicate (verdict_number v) ≡ is Duplicate v.class
  duplicate_told =
      let e : verdict_number v % 16 ≡ class_number v.class = omega (arith, number_sum, class_most v.class) in
      ap (λ (n : ℕ). eqb n 2) e ∙ class_told v.class

  pub exchange_told : says_new 16 (verdict_number v) ≡ v.exchange
  exchange_told =
      let e : verdict_number v / 16 % 2 ≡ once v.exchange = omega (arith, number_sum, class_most v.class, once_most v.exchange) in
      ap (λ (n : ℕ). eqb n 1) e ∙ once_told v.exchange

  pub square_told : says_new 32 (verdict_number v) ≡ v.square
  square_told =
      let e : verdict_number v / 32 % 2 ≡ once v.square = omega (arith, number_sum, class_most v.class, once_most v.exchange, once_most v.square) in
      ap (λ (n : ℕ). eqb n 1) e ∙ once_told v.square

  pub country_told : says_new 64 (verdict_number v) ≡ v.country
  country_told =
      let e : verdict_number v / 64 % 2 ≡ once v.country = omega (arith, number_sum, class_most v.class, once_most v.exchange, once_most v.square, once_most v.country) in
      ap (λ (n : ℕ). eqb n 1) e ∙ once_told v.country
