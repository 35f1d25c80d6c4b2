-- Writing back makes of each named place what it is named to become, and leaves all others.
-- Assumes nothing.
use Prim.Native.Nat.{ℕ, zero, suc, ◌<◌}
use Prim.Native.String.{String}
use native.Mathlib.Nat.{le_of_suc-le-suc, not-suc-le-zero}
use native.Mathlib.Omega.{arith}
use mathlib.Core.Path.{◌≡◌, refl, ap, ◌∙◌}
use mathlib.Core.Bool.{Bool, true, false, cond, not, ◌||◌}
use mathlib.Core.List.{List, [], ◌∷◌, map}
use lib.Dec.{T}
use lib.ListN.{length, get_or}
use Rattle.rules.specs.declared.Class.{Class}
use Rattle.rules.specs.declared.Class.TheVariants.{Credited, Duplicate}
use Rattle.rules.specs.declared.Verdict.{Verdict}
use Rattle.rules.specs.declared.Totals.{Totals}
use Rattle.rules.specs.Text.{Text, bytes, same, digits, parts}
use Rattle.rules.specs.Rules.{Rules}
use Rattle.rules.specs.Fields.{Qso, fields_of, new_mark, duplicate_mark}
use Rattle.rules.specs.Arguments.{Entry, entries, among}
use Rattle.rules.specs.Log.{Log, argument_in, argument, argument_rules, valid}
use Rattle.rules.specs.Judging.{is, verdicts, verdicts_of_log, totals_of_log}
use Rattle.rules.specs.Writing.{Claim, recounted, claims, claimed, written_arguments, written_record, written_records, written_back}
use Rattle.rules.specs.Demands.{IsWhere, RecordIsSet, CountBecomes, ClaimBecomes, ClaimsAreSet, the_nine, NamedAreSet, WritingSetsTheNamed}
use Rattle.rules.proofs.Tests.{so, never}
use Rattle.rules.proofs.TextLaws.{same_eq}
use Rattle.rules.proofs.NumberLaws.{digits_all}
use Rattle.rules.proofs.FieldLaws.{digits_plain}
use Rattle.rules.proofs.LogLaws.{argument_count}
use Rattle.rules.proofs.ValidLogs.{arguments_valid}
use Rattle.rules.proofs.Classes.{length_verdicts, is→equal, equal→is}
use Rattle.rules.proofs.WritingLaws.{parts_recounted, unclaimed_stays}
use Rattle.rules.proofs.WrittenClaims.{argument_kept}

-- # Records

-- A choice by a test is the one text where the test holds.
by_test : {P : Type 0} (b : Bool) (one other : Text) → (P → T b) → (T b → P) → IsWhere P (cond b one other) one other
by_test true one other f g = (λ p. refl, λ n. absurd (n (g tt)))
by_test false one other f g = (λ p. absurd (f p), λ n. refl)

by_class : (c d : Class) (one other : Text) → IsWhere (d ≡ c) (cond (is c d) one other) one other
by_class c d one other = by_test (is c d) one other (equal→is c d) (is→equal c d)

record_set : (v : Verdict) (q : Qso) → RecordIsSet v q (written_record v q)
unfolding written_record fields_of new_mark duplicate_mark
record_set v q =
    record {
      copied = refl;
      points = by_class Duplicate v.class (bytes "0") q.points;
      new_exchange = by_test v.exchange (bytes "N") [] (λ t. t) (λ t. t);
      new_square = by_test v.square (bytes "N") [] (λ t. t) (λ t. t);
      new_country = by_class Credited v.class q.new_country [];
      duplicate = by_class Duplicate v.class (bytes "D") [];
    }

records_set : (vs : List Verdict) (qs : List Qso) (j : ℕ) (v : Verdict) (q : Qso) → length vs ≡ length qs → j < length qs → RecordIsSet (get_or vs j v) (get_or qs j q) (get_or (written_records vs qs) j q)
unfolding written_records
records_set vs [] j v q e h = absurd (not-suc-le-zero h)
records_set [] (p ∷ qs) j v q e h = absurd (omega arith)
records_set (w ∷ vs) (p ∷ qs) zero v q e h = record_set w p
records_set (w ∷ vs) (p ∷ qs) (suc j) v q e h = records_set vs qs j v q (omega arith) (le_of_suc-le-suc h)

as_many_lem : (vs : List Verdict) (qs : List Qso) → length vs ≡ length qs → length (written_records vs qs) ≡ length qs
unfolding written_records
as_many_lem [] qs e = refl
as_many_lem (v ∷ vs) [] e = refl
as_many_lem (v ∷ vs) (q ∷ qs) e = ap suc (as_many_lem vs qs (omega arith))

-- # Arguments

-- The argument of a keyword that is listed is claimed as the keyword is.
argument_set : (cs : List Claim) (keyword : Text) (es : List Entry) (ts : List Text) →
    length ts ≡ length es →
    among (map (λ (e : Entry). e.keyword) es) keyword ≡ true →
    argument_in es (written_arguments cs es ts) keyword ≡ claimed cs keyword (argument_in es ts keyword)
unfolding argument_in written_arguments among
argument_set cs keyword [] ts n m = never m
argument_set cs keyword (e ∷ es) [] n m = absurd (omega arith)
argument_set cs keyword (e ∷ es) (t ∷ ts) n m = by (same e.keyword keyword) refl m (argument_set cs keyword es ts (omega arith))
  where
    by : (b : Bool) →
        same e.keyword keyword ≡ b →
        (b || among (map (λ (d : Entry). d.keyword) es) keyword) ≡ true →
        (among (map (λ (d : Entry). d.keyword) es) keyword ≡ true → argument_in es (written_arguments cs es ts) keyword ≡ claimed cs keyword (argument_in es ts keyword)) →
        cond b (claimed cs e.keyword t) (argument_in es (written_arguments cs es ts) keyword)
        ≡ claimed cs keyword (cond b t (argument_in es ts keyword))
    by true h k f = rw (same_eq e.keyword keyword h)
    by false h k f = f k

module _ (R : Rules) (log : Log) (v : T (valid R log)) where
  abbrev sums : Totals
  sums = totals_of_log R log

  -- What the argument of a listed keyword becomes.
  becomes : (keyword : Text) →
      among (map (λ (e : Entry). e.keyword) entries) keyword ≡ true →
      argument (written_back R log) keyword ≡ claimed (claims digits sums) keyword (argument log keyword)
  unfolding argument written_back
  becomes keyword m =
      argument_set (claims digits sums) keyword entries log.arguments
      (argument_count R entries log.arguments (so (argument_rules R entries log.arguments) (arguments_valid R log v))) m

  count_becomes : (keyword : String) (n : ℕ) →
      among (map (λ (e : Entry). e.keyword) entries) (bytes keyword) ≡ true →
      ((t : Text) → claimed (claims digits sums) (bytes keyword) t ≡ recounted (digits n) t) →
      CountBecomes log (written_back R log) keyword n
  count_becomes keyword n m f =
      let t = argument log (bytes keyword) in
      ap parts (becomes (bytes keyword) m ∙ f t) ∙ parts_recounted (digits n) t (digits_plain (digits n) (digits_all n))

  claim_becomes : (keyword : String) (n : ℕ) →
      among (map (λ (e : Entry). e.keyword) entries) (bytes keyword) ≡ true →
      ((t : Text) → claimed (claims digits sums) (bytes keyword) t ≡ digits n) →
      ClaimBecomes (written_back R log) keyword n
  claim_becomes keyword n m f = becomes (bytes keyword) m ∙ f (argument log (bytes keyword))

  claims_set : ClaimsAreSet sums log (written_back R log)
  unfolding claims claimed same entries among
  claims_set =
      record {
        contacts = count_becomes "CQSOs" sums.credited refl (λ t. refl);
        points = claim_becomes "CQSOP" sums.points refl (λ t. refl);
        squares = count_becomes "CWWLs" sums.squares refl (λ t. refl);
        squarebonus = claim_becomes "CWWLB" sums.squarebonus refl (λ t. refl);
        exchanges = count_becomes "CExcs" sums.exchanges refl (λ t. refl);
        exchangebonus = claim_becomes "CExcB" sums.exchangebonus refl (λ t. refl);
        countries = count_becomes "CDXCs" sums.countries refl (λ t. refl);
        countrybonus = claim_becomes "CDXCB" sums.countrybonus refl (λ t. refl);
        total = claim_becomes "CToSc" sums.total refl (λ t. refl);
      }

  others_stay_lem : (keyword : Text) → T (not (among the_nine keyword)) → argument (written_back R log) keyword ≡ argument log keyword
  unfolding argument written_back the_nine claims
  others_stay_lem keyword h =
      argument_kept (λ (t : Text). t) (claims digits sums) keyword
      (λ t. unclaimed_stays (claims digits sums) keyword t h) entries log.arguments

  named_set : NamedAreSet R log (written_back R log)
  unfolding written_back verdicts_of_log
  named_set =
      record {
        keywords = refl;
        claims = claims_set;
        other_arguments = others_stay_lem;
        remarks = refl;
        as_many = as_many_lem (verdicts R log.records) log.records (length_verdicts R log.records);
        each_record = λ j h. records_set (verdicts R log.records) log.records j _ _ (length_verdicts R log.records) h;
      }

pub writing_sets_the_named_lem : (R : Rules) → WritingSetsTheNamed R
writing_sets_the_named_lem R log v = named_set R log v
