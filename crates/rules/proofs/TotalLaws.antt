-- The totals are those that the document's words give over the classes and marks of the records.
-- Assumes nothing.
use Prim.Native.Nat.{ℕ, zero, suc, ◌+◌}
use Prim.Native.String.{String}
use mathlib.Core.Path.{◌≡◌, refl, ap, ap₂, ◌∙◌}
use mathlib.Core.Bool.{Bool, true, false, cond, ◌&&◌}
use mathlib.Core.List.{List, [], ◌∷◌, map}
use lib.ListN.{length, get_or}
use native.Mathlib.Omega.{arith}
use Rattle.rules.specs.declared.Class.TheVariants.{Credited, Void, Duplicate, Error}
use Rattle.rules.specs.declared.Verdict.{Verdict}
use Rattle.rules.specs.Text.{Text, bytes, same, value}
use Rattle.rules.specs.Rules.{Rules}
use Rattle.rules.specs.Fields.{Qso}
use Rattle.rules.specs.Arguments.{part}
use Rattle.rules.specs.Log.{Log, argument}
use Rattle.rules.specs.Judging.{is, count_of, credited_sum, credited_in, modes_of, mode_numbers, declared, multipliers, verdicts, totals_of, totals, totals_of_log}
use Rattle.rules.specs.Demands.{sum_over, how_many, qso_at, verdict_at, class_at, credited_by, the_modes, Declares, TotalsAre, DeclaredIs, TotalsAsDefined}
use Rattle.rules.proofs.Classes.{length_verdicts}
use Rattle.rules.proofs.Distinct.{tally}

-- A count over the list is a count over its places.
count_by_place : (f : Verdict → Bool) (vs : List Verdict) (v : Verdict) → count_of f vs ≡ how_many (length vs) (λ j. f (get_or vs j v))
unfolding count_of sum_over
count_by_place f [] v = refl
count_by_place f (w ∷ vs) v = ap (λ (n : ℕ). cond (f w) 1 0 + n) (count_by_place f vs v)

-- A sum over the credited records is a sum over their places.
sum_by_place : (f : Qso → ℕ) (qs : List Qso) (vs : List Verdict) (q : Qso) (v : Verdict) → length vs ≡ length qs →
    credited_sum f qs vs ≡ sum_over (length qs) (λ j. cond (is Credited (get_or vs j v).class) (f (get_or qs j q)) 0)
unfolding credited_sum sum_over
sum_by_place f [] vs q v e = refl
sum_by_place f (p ∷ qs) [] q v e = absurd (omega arith)
sum_by_place f (p ∷ qs) (w ∷ vs) q v e =
    ap (λ (n : ℕ). cond (is Credited w.class) (f p) 0 + n) (sum_by_place f qs vs q v (omega arith))

-- What two tests count, the one in the other.
both_counted : (a b : Bool) → cond a (tally b) 0 ≡ tally (a && b)
both_counted true b = refl
both_counted false b = refl

sums_alike : (n : ℕ) (f g : ℕ → ℕ) → ((j : ℕ) → f j ≡ g j) → sum_over n f ≡ sum_over n g
unfolding sum_over
sums_alike zero f g h = refl
sums_alike (suc n) f g h = ap₂ ◌+◌ (h 0) (sums_alike n (λ j. f (suc j)) (λ j. g (suc j)) (λ j. h (suc j)))

module _ (R : Rules) (log : Log) where
  abbrev qs : List Qso
  qs = log.records

  counted : (f : Verdict → Bool) → count_of f (verdicts R qs) ≡ how_many (length qs) (λ j. f (verdict_at R qs j))
  counted f =
      count_by_place f (verdicts R qs) _
      ∙ ap (λ (n : ℕ). how_many n (λ j. f (verdict_at R qs j))) (length_verdicts R qs)

  in_mode : (mode : Text) → credited_in mode qs (verdicts R qs) ≡ credited_by R qs mode
  in_mode mode =
      sum_by_place (λ q. cond (same q.mode mode) 1 0) qs (verdicts R qs) _ _ (length_verdicts R qs)
      ∙ sums_alike (length qs) _ _ (λ j. both_counted (is Credited (class_at R qs j)) (same (qso_at qs j).mode mode))

  modes_are : mode_numbers (modes_of qs (verdicts R qs)) ≡ map (credited_by R qs) the_modes
  unfolding mode_numbers modes_of the_modes
  modes_are = λ i.
      in_mode (bytes "0") i
      ∷ in_mode (bytes "1") i
      ∷ in_mode (bytes "2") i
      ∷ in_mode (bytes "3") i
      ∷ in_mode (bytes "4") i
      ∷ in_mode (bytes "5") i
      ∷ in_mode (bytes "6") i
      ∷ in_mode (bytes "7") i
      ∷ in_mode (bytes "8") i
      ∷ in_mode (bytes "9") i
      ∷ in_mode (bytes "") i
      ∷ []

  totals_are_lem : TotalsAre R (declared log) qs (totals_of_log R log)
  unfolding totals_of_log totals totals_of multipliers
  totals_are_lem =
      record {
        credited = counted (λ v. is Credited v.class);
        voids = counted (λ v. is Void v.class);
        duplicates = counted (λ v. is Duplicate v.class);
        errors = counted (λ v. is Error v.class);
        points = sum_by_place (λ q. value q.points) qs (verdicts R qs) _ _ (length_verdicts R qs);
        squares = counted (λ v. v.square);
        exchanges = counted (λ v. v.exchange);
        countries = counted (λ v. v.country);
        squarebonus = refl;
        exchangebonus = refl;
        countrybonus = refl;
        total = refl;
        modes = modes_are;
      }

  declares : (keyword : String) → Declares log keyword (value (part 1 (argument log (bytes keyword)))) (value (part 2 (argument log (bytes keyword))))
  unfolding part
  declares keyword count second third e = rw e (refl, refl)

  declared_is : DeclaredIs log (declared log)
  unfolding declared
  declared_is = record { squares = declares "CWWLs"; exchanges = declares "CExcs"; countries = declares "CDXCs" }

pub totals_as_defined_lem : (R : Rules) → TotalsAsDefined R
totals_as_defined_lem R log = (totals_are_lem R log, declared_is R log)
