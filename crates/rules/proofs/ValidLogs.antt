-- What a valid log keeps: the rules of its arguments, of the number of its records and of each record.
-- Assumes nothing.
use Prim.Native.Nat.{ℕ, zero, suc, ◌≤◌, ◌<◌}
use native.Mathlib.Nat.{le_of_suc-le-suc, not-suc-le-zero}
use mathlib.Core.Logic.{⊎_elim}
use mathlib.Core.Path.{◌≡◌}
use mathlib.Core.Bool.{Bool, true, not, ◌||◌}
use mathlib.Core.List.{List, [], ◌∷◌}
use lib.Dec.{T, leb}
use lib.ListN.{length, get_or}
use borrow.Author.Tests.{leb-true}
use Rattle.rules.specs.Text.{bytes, same, value, value_after, number_of}
use Rattle.rules.specs.Rules.{Rules}
use Rattle.rules.specs.Fields.{Qso, is_error, mode, points_rule, field_rules}
use Rattle.rules.specs.Arguments.{entries}
use Rattle.rules.specs.Log.{Log, conjunction, record_rules, valid, argument_rules}
use Rattle.rules.specs.Judging.{claims_points}
use Rattle.rules.proofs.Tests.{so, holds}
use Rattle.rules.proofs.Format.{of_valid}
use Rattle.rules.proofs.Passing.{first, second, one_of, failed, same→equal}

-- A rule of a list of rules.
pub rule_at : (bs : List Bool) (n : ℕ) → T (conjunction bs) → T (get_or bs n true)
unfolding conjunction
rule_at [] n t = tt
rule_at (b ∷ bs) zero t = first b (conjunction bs) t
rule_at (b ∷ bs) (suc n) t = rule_at bs n (second b (conjunction bs) t)

-- The same as an equation, and of a test that is a bound.
pub test_at : (bs : List Bool) (n : ℕ) → conjunction bs ≡ true → get_or bs n true ≡ true
test_at bs n e = so (get_or bs n true) (rule_at bs n (holds e))

pub at_most : {m n : ℕ} → leb m n ≡ true → m ≤ n
at_most {m} {n} e = leb-true m n e

module _ (R : Rules) where
  -- The rules of a record of a log.
  pub rules_of : (qs : List Qso) (j : ℕ) (d : Qso) → j < length qs → T (record_rules R qs) → T (conjunction (field_rules R (get_or qs j d)))
  unfolding record_rules
  rules_of [] j d h t = absurd (not-suc-le-zero h)
  rules_of (q ∷ qs) zero d h t = first (conjunction (field_rules R q)) (record_rules R qs) t
  rules_of (q ∷ qs) (suc j) d h t =
      rules_of qs j d (le_of_suc-le-suc h) (second (conjunction (field_rules R q)) (record_rules R qs) t)

  pub points_ruled : (q : Qso) → T (conjunction (field_rules R q)) → T (points_rule R q)
  unfolding field_rules
  points_ruled q t = rule_at (field_rules R q) 10 t

  pub mode_ruled : (q : Qso) → T (conjunction (field_rules R q)) → T (mode q.mode)
  unfolding field_rules
  mode_ruled q t = rule_at (field_rules R q) 3 t

  -- "If the call is ERROR .. points must be `0`": so it claims none.
  pub error_claims_nothing : (q : Qso) → T (points_rule R q) → T (is_error q) → T (claims_points q) → ⊥
  unfolding points_rule claims_points value value_after
  error_claims_nothing q r e c =
      ⊎_elim
      (λ n. (failed (is_error q)).0 n e)
      (λ z. rw (same→equal q.points (bytes "0") z) at c)
      (one_of (not (is_error q)) (same q.points (bytes "0")) (second (number_of R.points_digits q.points) (not (is_error q) || same q.points (bytes "0")) r))

  module _ (log : Log) (v : T (valid R log)) where
    pub arguments_valid : T (argument_rules R entries log.arguments)
    arguments_valid = holds (of_valid R log (so (valid R log) v)).rules_of_arguments

    pub count_valid : length log.records ≤ R.most_records
    count_valid = leb-true (length log.records) R.most_records (of_valid R log (so (valid R log) v)).fits

    pub records_valid : T (record_rules R log.records)
    records_valid = holds (of_valid R log (so (valid R log) v)).rules
