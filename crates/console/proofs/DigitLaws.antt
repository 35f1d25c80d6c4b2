-- The digits of a number, put one in front of the other from the last on.
-- Assumes nothing.
use Rattle.std.proofs.Common.{ℕ, ◌+◌, ◌/◌, ◌%◌, ◌^◌, ◌<◌, ◌≤◌, List, [], ◌∷◌, ◌++◌, length, take, drop, ◌≡◌, ◌∙◌, sym, ap, ⊎_elim, append_assoc, length-append, arith}
use Rattle.std.proofs.lemmas.List.{drop-set, take-set, take-take}
use Rattle.std.proofs.Math.ListN.{set}
use Rattle.rules.specs.Text.{digits}
use Rattle.rules.proofs.NumberLaws.{Small, Large, size, digits_small, digits_large, digits_length}

-- A number of 64 bits has at most twenty digits.
pub count_most : (n : ℕ) → n < 2 ^ 64 → length (digits n) ≤ 20
count_most n h = digits_length 19 n (omega arith)

-- A number of ten or more has a digit more than its tenth.
pub count_more : (n : ℕ) → 10 ≤ n → length (digits n) ≡ length (digits (n / 10)) + 1
count_more n h = rw (digits_large n h, length-append)

pub count_some : (n : ℕ) → 1 ≤ length (digits n)
count_some n =
    ⊎_elim
    (λ (e : Small n). rw (digits_small n e.1) (omega arith))
    (λ (e : Large n). omega (arith, count_more n e.1))
    (size n)

-- What is still to be put is a rest, and the digits behind it stand in the list.
module _ (out : List ℕ) (at n rest : ℕ) (there : at < length out) (laid : digits n ≡ digits rest ++ drop (at + 1) out) where
  -- The last digit of the rest is put, and its tenth is left.
  pub digit_turn : 10 ≤ rest → digits n ≡ digits (rest / 10) ++ drop at (set out at (48 + rest % 10))
  digit_turn h =
      laid
      ∙ ap (λ (t : List ℕ). t ++ drop (at + 1) out) (digits_large rest h)
      ∙ append_assoc (digits (rest / 10)) ((48 + rest % 10) ∷ []) (drop (at + 1) out)
      ∙ ap (λ (t : List ℕ). digits (rest / 10) ++ t) (sym (drop-set out at (48 + rest % 10) there))

  -- A rest of one digit is put.
  pub digit_last : rest < 10 → drop at (set out at (48 + rest)) ≡ digits n
  digit_last h =
      drop-set out at (48 + rest) there
      ∙ ap (λ (t : List ℕ). t ++ drop (at + 1) out) (sym (digits_small rest h))
      ∙ sym laid

-- What stands in front of the digit that is put is as it was in another list.
pub front_stays : (out old : List ℕ) (at b : ℕ) → take (at + 1) out ≡ take (at + 1) old → take at (set out at b) ≡ take at old
front_stays out old at b h =
    take-set out at b
    ∙ sym (take-take at (at + 1) out (omega arith))
    ∙ ap (λ (t : List ℕ). take at t) h
    ∙ take-take at (at + 1) old (omega arith)
