-- Laws of what is declared, which keeps its rules where it is in range, and of one record more and one less.
-- Assumes nothing.
use Prim.Native.Nat.{ℕ, suc, ◌+◌, ◌-◌, ◌<◌}
use native.Mathlib.Omega.{arith}
use mathlib.Core.Path.{◌≡◌, refl, sym, ap, ◌∙◌}
use mathlib.Core.Bool.{true}
use mathlib.Core.List.{List, [], ◌∷◌, ◌++◌}
use lib.ListN.{length, take, get_or, length-append}
use borrow.Author.Tests.{le-leb}
use lib.Seq.{take-suc, take-length, take-append_seam}
use Rattle.rules.specs.Rules.{Rules}
use Rattle.rules.specs.Fields.{Qso, field_rules, qso_of}
use Rattle.rules.specs.Log.{conjunction, record_rules}
use Rattle.rules.specs.Judging.{Declared}
use Rattle.rules.specs.Session.{rate_tests, rate_rule, declared_tests, declared_rule}
use Rattle.rules.specs.SessionDemands.{RateInRange, InRange}
use Rattle.rules.proofs.Tests.{and_l, and_r, and_i}
use Rattle.rules.proofs.ValidLogs.{test_at, at_most}

-- # What is declared

pub rate_in : (R : Rules) (bonus multiplier : ℕ) → rate_rule R bonus multiplier ≡ true → RateInRange R bonus multiplier
unfolding rate_rule
rate_in R bonus multiplier e =
    let tests = rate_tests R bonus multiplier in
    (at_most (test_at tests 0 e), at_most (test_at tests 1 e), at_most (test_at tests 2 e))

rate_kept : (R : Rules) (bonus multiplier : ℕ) → RateInRange R bonus multiplier → rate_rule R bonus multiplier ≡ true
unfolding rate_rule conjunction
rate_kept R bonus multiplier r =
    rw (le-leb bonus R.most_bonus r.0, le-leb 1 multiplier r.1, le-leb multiplier R.most_multiplier r.2)

module _ (R : Rules) (d : Declared) where
  pub in_range : declared_rule R d ≡ true → InRange R d
  unfolding declared_rule
  in_range e =
      let tests = declared_tests R d in (
        rate_in R d.square_bonus d.square_multiplier (test_at tests 0 e),
        rate_in R d.exchange_bonus d.exchange_multiplier (test_at tests 1 e),
        rate_in R d.country_bonus d.country_multiplier (test_at tests 2 e),
      )

  pub range_kept : InRange R d → declared_rule R d ≡ true
  unfolding declared_rule conjunction
  range_kept r =
      rw (
        rate_kept R d.square_bonus d.square_multiplier r.0,
        rate_kept R d.exchange_bonus d.exchange_multiplier r.1,
        rate_kept R d.country_bonus d.country_multiplier r.2,
      )

-- # One record more, and one less

module _ (R : Rules) (q : Qso) where
  pub rules_more : (qs : List Qso) → record_rules R qs ≡ true → conjunction (field_rules R q) ≡ true → record_rules R (qs ++ (q ∷ [])) ≡ true
  unfolding record_rules
  rules_more [] h k = and_i k refl
  rules_more (p ∷ qs) h k =
      and_i (and_l (conjunction (field_rules R p)) (record_rules R qs) h) (rules_more qs (and_r (conjunction (field_rules R p)) (record_rules R qs) h) k)

  pub rules_less : (qs : List Qso) → record_rules R (qs ++ (q ∷ [])) ≡ true → (record_rules R qs ≡ true) × (conjunction (field_rules R q) ≡ true)
  unfolding record_rules
  rules_less [] h = (refl, and_l (conjunction (field_rules R q)) true h)
  rules_less (p ∷ qs) h =
      let first = conjunction (field_rules R p) in
      let less = rules_less qs (and_r first (record_rules R (qs ++ (q ∷ []))) h) in
      (and_i (and_l first (record_rules R (qs ++ (q ∷ []))) h) less.0, less.1)

-- Records that are not none are those before the last, and the last.
pub record LastSplit (qs : List Qso) : Type 0 where
  pub last : Qso
  pub are : qs ≡ take (length qs - 1) qs ++ (last ∷ [])

pub last_split : (qs : List Qso) → 0 < length qs → LastSplit qs
last_split qs h =
    let n = length qs - 1 in
    let z : length qs ≡ suc n = omega arith in
    record {
      last = get_or qs n (qso_of []);
      are = sym (take-length qs) ∙ ap (λ (m : ℕ). take m qs) z ∙ take-suc qs n (qso_of []) (omega arith);
    }

-- Of records with one more behind them, all but the last are those.
pub longer : (qs : List Qso) (q : Qso) → length (qs ++ (q ∷ [])) ≡ length qs + 1
longer qs q = length-append qs (q ∷ [])

pub last_dropped : (qs : List Qso) (q : Qso) → take (length (qs ++ (q ∷ [])) - 1) (qs ++ (q ∷ [])) ≡ qs
last_dropped qs q =
    let n : length (qs ++ (q ∷ [])) - 1 ≡ length qs = omega (arith, longer qs q) in
    ap (λ (m : ℕ). take m (qs ++ (q ∷ []))) n ∙ take-append_seam qs (q ∷ [])
