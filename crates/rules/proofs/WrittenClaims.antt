-- Writing back, argument by argument: the bonuses and multipliers stay, so the totals do, and a second writing changes nothing.
-- Assumes nothing.
use Prim.Native.Nat.{ℕ, suc, ◌+◌}
use mathlib.Core.Path.{◌≡◌, refl, sym, ap, ap₂, ◌∙◌}
use mathlib.Core.Bool.{Bool, true, false, cond}
use mathlib.Core.List.{List, [], ◌∷◌}
use lib.ListN.{get_or, drop}
use Rattle.rules.specs.declared.Class.{Class}
use Rattle.rules.specs.declared.Class.TheVariants.{Credited, Void, Duplicate, Error}
use Rattle.rules.specs.declared.Verdict.{Verdict}
use Rattle.rules.specs.declared.Totals.{Totals}
use Rattle.rules.specs.Text.{Text, bytes, same, value, digits, parts}
use Rattle.rules.specs.Rules.{Rules}
use Rattle.rules.specs.Fields.{Qso}
use Rattle.rules.specs.Arguments.{Entry, entries, part}
use Rattle.rules.specs.Log.{Log, argument_in, argument, keywords_of}
use Rattle.rules.specs.Judging.{class_number, is, Declared, declared, credited_sum, credited_points, credited_in, modes_of, totals_of, totals, totals_of_log, verdicts_of_log}
use Rattle.rules.specs.Writing.{Claim, recounted, claims, claimed, written_arguments, written_record, written_records, written_back}
use Rattle.rules.proofs.TextLaws.{same_eq}
use Rattle.rules.proofs.NumberLaws.{digits_all}
use Rattle.rules.proofs.FieldLaws.{digits_plain}
use Rattle.rules.proofs.WritingLaws.{parts_recounted, arguments_again, later_claims}
use Rattle.rules.proofs.WrittenVerdicts.{written_verdicts, records_twice}

-- The argument whose count is rewritten keeps its other parts.
next_of : (ts : List Text) (t : Text) (n : ℕ) → get_or (t ∷ drop 1 ts) (suc n) [] ≡ get_or ts (suc n) []
next_of [] t n = refl
next_of (u ∷ ts) t n = refl

pub part_recounted : (n k : ℕ) (t : Text) → part (suc k) (recounted (digits n) t) ≡ part (suc k) t
unfolding part
part_recounted n k t = rw (parts_recounted (digits n) t (digits_plain (digits n) (digits_all n))) (next_of (parts t) (digits n) k)

-- What of an argument no claim on its keyword changes, no writing changes.
pub argument_kept : {A : Type 0} (g : Text → A) (cs : List Claim) (keyword : Text) →
    ((t : Text) → g (claimed cs keyword t) ≡ g t) →
    (es : List Entry) (ts : List Text) →
    g (argument_in es (written_arguments cs es ts) keyword) ≡ g (argument_in es ts keyword)
unfolding argument_in written_arguments
argument_kept g cs keyword f [] ts = refl
argument_kept g cs keyword f (e ∷ es) [] = refl
argument_kept g cs keyword f (e ∷ es) (t ∷ ts) = by (same e.keyword keyword) refl (argument_kept g cs keyword f es ts)
  where
    by : (b : Bool) →
        same e.keyword keyword ≡ b →
        g (argument_in es (written_arguments cs es ts) keyword) ≡ g (argument_in es ts keyword) →
        g (cond b (claimed cs e.keyword t) (argument_in es (written_arguments cs es ts) keyword))
        ≡ g (cond b t (argument_in es ts keyword))
    by true h k = rw (same_eq e.keyword keyword h) (f t)
    by false h k = k

module _ (t : Totals) where
  abbrev written : List Claim
  written = claims digits t

  squares_claim : (s : Text) → claimed written (bytes "CWWLs") s ≡ recounted (digits t.squares) s
  unfolding claimed claims same
  squares_claim s = refl

  exchanges_claim : (s : Text) → claimed written (bytes "CExcs") s ≡ recounted (digits t.exchanges) s
  unfolding claimed claims same
  exchanges_claim s = refl

  countries_claim : (s : Text) → claimed written (bytes "CDXCs") s ≡ recounted (digits t.countries) s
  unfolding claimed claims same
  countries_claim s = refl

  module _ (es : List Entry) (ts : List Text) where
    kept_part : (n k : ℕ) (keyword : Text) →
        ((s : Text) → claimed written keyword s ≡ recounted (digits n) s) →
        value (part (suc k) (argument_in es (written_arguments written es ts) keyword)) ≡ value (part (suc k) (argument_in es ts keyword))
    kept_part n k keyword f =
        argument_kept (λ s. value (part (suc k) s)) written keyword
        (λ s. ap {B = ℕ} (λ u. value (part (suc k) u)) (f s) ∙ ap value (part_recounted n k s)) es ts

module _ (R : Rules) (log : Log) where
  pub declared_kept : declared (written_back R log) ≡ declared log
  unfolding declared argument written_back
  declared_kept =
      let t = totals_of_log R log in
      let ts = log.arguments in
      rw (
        kept_part t entries ts t.squares 0 (bytes "CWWLs") (squares_claim t),
        kept_part t entries ts t.squares 1 (bytes "CWWLs") (squares_claim t),
        kept_part t entries ts t.exchanges 0 (bytes "CExcs") (exchanges_claim t),
        kept_part t entries ts t.exchanges 1 (bytes "CExcs") (exchanges_claim t),
        kept_part t entries ts t.countries 0 (bytes "CDXCs") (countries_claim t),
        kept_part t entries ts t.countries 1 (bytes "CDXCs") (countries_claim t),
      )

-- The points of credited records stay.
class_points : (c : Class) (p : Text) →
    cond (is Credited c) (value (cond (is Duplicate c) (bytes "0") p)) 0 ≡ cond (is Credited c) (value p) 0
unfolding is class_number
class_points Credited p = refl
class_points Void p = refl
class_points Duplicate p = refl
class_points Error p = refl

-- A sum over the credited records stays, if writing a credited record back does not move its number.
sum_kept : (f : Qso → ℕ) → ((v : Verdict) (q : Qso) → cond (is Credited v.class) (f (written_record v q)) 0 ≡ cond (is Credited v.class) (f q) 0) →
    (vs : List Verdict) (qs : List Qso) →
    credited_sum f (written_records vs qs) vs ≡ credited_sum f qs vs
unfolding credited_sum written_records
sum_kept f h [] qs = refl
sum_kept f h (v ∷ vs) [] = refl
sum_kept f h (v ∷ vs) (q ∷ qs) = ap₂ ◌+◌ (h v q) (sum_kept f h vs qs)

points_kept : (vs : List Verdict) (qs : List Qso) → credited_points (written_records vs qs) vs ≡ credited_points qs vs
unfolding written_record
points_kept = sum_kept (λ q. value q.points) (λ v q. class_points v.class q.points)

-- W4: the mode is copied.
modes_kept : (vs : List Verdict) (qs : List Qso) → modes_of (written_records vs qs) vs ≡ modes_of qs vs
unfolding modes_of written_record
modes_kept vs qs =
    let stays : (mode : Text) → credited_in mode (written_records vs qs) vs ≡ credited_in mode qs vs = λ mode. sum_kept (λ q. cond (same q.mode mode) 1 0) (λ v q. refl) vs qs in
    λ i.
    record {
      code0 = stays (bytes "0") i;
      code1 = stays (bytes "1") i;
      code2 = stays (bytes "2") i;
      code3 = stays (bytes "3") i;
      code4 = stays (bytes "4") i;
      code5 = stays (bytes "5") i;
      code6 = stays (bytes "6") i;
      code7 = stays (bytes "7") i;
      code8 = stays (bytes "8") i;
      code9 = stays (bytes "9") i;
      blank = stays (bytes "") i;
    }

totals_of_written : (R : Rules) (d : Declared) (vs : List Verdict) (qs : List Qso) → totals_of R d (written_records vs qs) vs ≡ totals_of R d qs vs
unfolding totals_of
totals_of_written R d vs qs = rw (points_kept vs qs, modes_kept vs qs)

module _ (R : Rules) (log : Log) where
  totals_by_verdicts : (l : Log) → totals_of_log R l ≡ totals_of R (declared l) l.records (verdicts_of_log R l)
  unfolding totals_of_log totals verdicts_of_log
  totals_by_verdicts l = refl

  written_records_lem : (written_back R log).records ≡ written_records (verdicts_of_log R log) log.records
  unfolding written_back
  written_records_lem = refl

  pub totals_kept_lem : totals_of_log R (written_back R log) ≡ totals_of_log R log
  totals_kept_lem =
      totals_by_verdicts (written_back R log)
      ∙ rw (declared_kept R log, written_verdicts R log, written_records_lem) (totals_of_written R (declared log) (verdicts_of_log R log) log.records)
      ∙ sym (totals_by_verdicts log)

-- Writing with given totals and verdicts.
written_with : Totals → List Verdict → Log → Log
written_with t vs log =
    record {
      keywords = keywords_of entries;
      arguments = written_arguments (claims digits t) entries log.arguments;
      remarks = log.remarks;
      records = written_records vs log.records;
    }

with_twice : (t : Totals) (vs : List Verdict) (log : Log) → written_with t vs (written_with t vs log) ≡ written_with t vs log
unfolding written_with
with_twice t vs log =
    rw (arguments_again (claims digits t) (claims digits t) entries log.arguments (later_claims digits t t), records_twice vs log.records)

written_with_lem : (R : Rules) (log : Log) → written_back R log ≡ written_with (totals_of_log R log) (verdicts_of_log R log) log
unfolding written_with written_back
written_with_lem R log = refl

pub written_twice : (R : Rules) (log : Log) → written_back R (written_back R log) ≡ written_back R log
written_twice R log =
    written_with_lem R (written_back R log)
    ∙ rw (totals_kept_lem R log, written_verdicts R log, written_with_lem R log) (with_twice (totals_of_log R log) (verdicts_of_log R log) log)
