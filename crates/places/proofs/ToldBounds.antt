-- What is told is bounded for every text, so that sums of it can be shown to fit without asking whether the log was accepted.
-- Assumes nothing.
use Prim.Native.Nat.{ℕ, ◌≤◌}
use native.Mathlib.Omega.{arith}
use mathlib.Core.Path.{◌≡◌, refl}
use mathlib.Core.Bool.{Bool, true, false, cond}
use Rattle.rules.specs.Text.{Text, value}
use Rattle.rules.specs.Rules.{Rules}
use Rattle.rules.specs.Arguments.{bonus, multiplier, part}
use Rattle.rules.proofs.NumberLaws.{number_from_lem}
use Rattle.reader.specs.Contact.{value_by}
use Rattle.places.specs.declared.Declared.{Declared}
use Rattle.places.specs.Places.{argument_on, declared_at}

-- A number that keeps a rule is as small as the rule has it, and 0 is smaller still.
kept_below : (rule : Text → Bool) (most : ℕ) (t : Text) → (rule t ≡ true → value t ≤ most) → value_by rule t ≤ most
unfolding value_by
kept_below rule most t f = by (rule t) f
  where
    by : (b : Bool) → (b ≡ true → value t ≤ most) → cond b (value t) 0 ≤ most
    by true g = g refl
    by false g = omega arith

module _ (R : Rules) where
  bonus_below : (t : Text) → value_by (bonus R) t ≤ R.most_bonus
  unfolding bonus
  bonus_below t = kept_below (bonus R) R.most_bonus t (λ e. (number_from_lem 0 R.most_bonus t e).high)

  multiplier_below : (t : Text) → value_by (multiplier R) t ≤ R.most_multiplier
  unfolding multiplier
  multiplier_below t = kept_below (multiplier R) R.most_multiplier t (λ e. (number_from_lem 1 R.most_multiplier t e).high)

  pub record DeclaredBelow (d : Declared) : Type 0 where
    pub squarebonus : d.squarebonus ≤ R.most_bonus
    pub squaremultiplier : d.squaremultiplier ≤ R.most_multiplier
    pub exchangebonus : d.exchangebonus ≤ R.most_bonus
    pub exchangemultiplier : d.exchangemultiplier ≤ R.most_multiplier
    pub countrybonus : d.countrybonus ≤ R.most_bonus
    pub countrymultiplier : d.countrymultiplier ≤ R.most_multiplier

  pub declared_below : (s : Text) (claims : ℕ) → DeclaredBelow (declared_at R s claims)
  unfolding declared_at
  declared_below s claims =
      record {
        squarebonus = bonus_below (part 1 (argument_on s claims 2));
        squaremultiplier = multiplier_below (part 2 (argument_on s claims 2));
        exchangebonus = bonus_below (part 1 (argument_on s claims 4));
        exchangemultiplier = multiplier_below (part 2 (argument_on s claims 4));
        countrybonus = bonus_below (part 1 (argument_on s claims 6));
        countrymultiplier = multiplier_below (part 2 (argument_on s claims 6));
      }
