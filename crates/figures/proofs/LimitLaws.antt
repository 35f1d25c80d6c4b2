-- The limits of the base rules: the code can read each of them, and a number that is read up to a limit is the definition's.
-- Assumes nothing.
use Rattle.std.specs.Prelude.{Option}
use Prim.Native.Nat.{ℕ, ◌^◌, ◌≤◌, ◌<◌}
use native.Mathlib.Omega.{arith}
use mathlib.Core.Path.{◌≡◌, ap, ◌∙◌}
use Rattle.rules.specs.Rules.{Rules, base}
use Rattle.rules.specs.Text.{Text, number_of, number_from}
use Rattle.figures.specs.Figure.{number_at}

-- No number that the rules allow has more digits than a u64 holds.
pub record Readable (R : Rules) : Type 0 where
  pub points : R.points_digits ≤ 19
  pub distance : R.distance_digits ≤ 19
  pub claimed_points : R.claimed_points_digits ≤ 19
  pub claimed_bonus : R.claimed_bonus_digits ≤ 19
  pub claimed_total : R.claimed_total_digits ≤ 19
  pub records : R.most_records < 10 ^ 19
  pub count : R.most_count < 10 ^ 19
  pub bonus : R.most_bonus < 10 ^ 19
  pub multiplier : R.most_multiplier < 10 ^ 19

pub readable : Readable base
unfolding base
readable = omega arith

-- What was read up to a number was read up to the limit that this number is.
module _ {r : Option (ℕ × ℕ)} (s : Text) (at : ℕ) {n limit : ℕ} where
  pub digits_read : n ≡ limit → r ≡ number_at (number_of n) s at → r ≡ number_at (number_of limit) s at
  digits_read e p = p ∙ ap (λ (k : ℕ). number_at (number_of k) s at) e

  pub bound_read : (least : ℕ) → n ≡ limit → r ≡ number_at (number_from least n) s at → r ≡ number_at (number_from least limit) s at
  bound_read least e p = p ∙ ap (λ (k : ℕ). number_at (number_from least k) s at) e
