-- Numbers between bounds: what a number of so many digits tells of them, where the upper bound has no more digits.
-- Assumes nothing.
use Rattle.std.specs.Prelude.{Some, None}
use Prim.Native.Nat.{ℕ, suc, ◌^◌, ◌≤◌, ◌<◌}
use native.Mathlib.Omega.{arith}
use mathlib.Core.Bool.{true, ◌&&◌, and-false}
use mathlib.Core.Path.{◌≡◌, sym, ap, ◌∙◌}
use lib.Dec.{leb}
use lib.ListN.{length}
use borrow.Author.Tests.{le-leb, lt-leb, leb-true}
use Rattle.rules.specs.Text.{Text, value, number, number_of, number_from}
use Rattle.rules.proofs.NumberLaws.{number_length}
use Rattle.rules.proofs.Tests.{and_l, and_r, and_i, fails, clash}
use Rattle.fields.specs.Field.{text_at}
use Rattle.figures.specs.Figure.{number_at}
use Rattle.figures.proofs.NumberLaws.{number_good, number_bad}
use Rattle.figures.proofs.Picked.{number_picked, number_refused}

module _ (k least most : ℕ) (m : most < 10 ^ suc k) where
  -- No number within the bounds has more digits.
  few_digits : (t : Text) → number_from least most t ≡ true → number_of (suc k) t ≡ true
  unfolding number_from number_of
  few_digits t e =
      let from : (number t && leb least (value t)) ≡ true = and_l (number t && leb least (value t)) (leb (value t) most) e in
      let right : number t ≡ true = and_l (number t) (leb least (value t)) from in
      let small : value t ≤ most = leb-true (value t) most (and_r (number t && leb least (value t)) (leb (value t) most) e) in
      and_i right (le-leb (length t) (suc k) (number_length k t right (omega arith)))

  -- One that has no more is within the bounds where its value is.
  bounds_left : (t : Text) → number_of (suc k) t ≡ true → number_from least most t ≡ (leb least (value t) && leb (value t) most)
  unfolding number_from number_of
  bounds_left t e = rw (and_l (number t) (leb (length t) (suc k)) e)

  module _ (s : Text) (at : ℕ) where
    pub from_none : number_at (number_of (suc k)) s at ≡ None → None ≡ number_at (number_from least most) s at
    from_none p =
        number_bad (number_from least most) s at
        (fails (number_from least most (text_at s at)) (λ e. clash (few_digits (text_at s at) e) (number_refused (number_of (suc k)) s at p)))

    module _ {v e : ℕ} (p : number_at (number_of (suc k)) s at ≡ Some (v, e)) where
      tests : number_from least most (text_at s at) ≡ (leb least v && leb v most)
      tests =
          let q = number_picked (number_of (suc k)) s at p in
          bounds_left (text_at s at) q.0 ∙ ap (λ (n : ℕ). leb least n && leb n most) (sym q.1)

      pub from_low : v < least → None ≡ number_at (number_from least most) s at
      from_low h = number_bad (number_from least most) s at (tests ∙ rw (lt-leb least v h))

      pub from_high : most < v → None ≡ number_at (number_from least most) s at
      from_high h = number_bad (number_from least most) s at (tests ∙ rw (lt-leb v most h, and-false))

      pub from_good : least ≤ v → v ≤ most → Some (v, e) ≡ number_at (number_from least most) s at
      from_good h l =
          let q = number_picked (number_of (suc k)) s at p in
          number_good (number_from least most) s at (tests ∙ rw (le-leb least v h, le-leb v most l)) q.1 q.2
