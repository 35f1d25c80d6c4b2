-- Writing back changes only the claims, points and marks that are named for it.
-- Assumes nothing.
use Prim.Native.Nat.{ℕ}
use mathlib.Core.Path.{◌≡◌, refl, ap, ap₂}
use mathlib.Core.Bool.{Bool, true, false, cond, not, ◌||◌}
use mathlib.Core.List.{List, [], ◌∷◌, map}
use lib.Dec.{T}
use lib.ListN.{drop}
use Rattle.rules.specs.declared.Verdict.{Verdict}
use Rattle.rules.specs.declared.Totals.{Totals}
use Rattle.rules.specs.Text.{Text, all, same, digits, parts, joined}
use Rattle.rules.specs.Rules.{Rules}
use Rattle.rules.specs.Fields.{Qso}
use Rattle.rules.specs.Arguments.{Entry, entries, every, among}
use Rattle.rules.specs.Log.{keywords_of}
use Rattle.rules.specs.Judging.{zero_totals, verdicts_of_log, totals_of_log}
use Rattle.rules.specs.Writing.{recounted, Claim, claims, claimed, written_arguments, written_records, written_back, unclaimed_record, unclaimed}
use Rattle.rules.specs.Demands.{WritingChangesOnlyTheNamed}
use Rattle.rules.proofs.Tests.{◌beside◌, and_r, and_i}
use Rattle.rules.proofs.TextLaws.{plain, Some, parts_some, parts_plain, parts_joined}
use Rattle.rules.proofs.FieldLaws.{Plain, digits_plain}
use Rattle.rules.proofs.NumberLaws.{digits_all}

-- A count that is put in place of another leaves the arguments behind it.
others_plain : (ts : List Text) → Some ts → every (all plain) ts ≡ true → every (all plain) (drop 1 ts) ≡ true
unfolding every
others_plain ts k e =
    let u = k.first in
    let us = k.others in
    rw k.are (and_r (all plain u) (every (all plain) us) (rw k.are at e))

pub parts_recounted : (new t : Text) → Plain new → parts (recounted new t) ≡ new ∷ drop 1 (parts t)
unfolding recounted every
parts_recounted new t e = parts_joined new (drop 1 (parts t)) (and_i e (others_plain (parts t) (parts_some t) (parts_plain t)))

recounted_again : (new later t : Text) → Plain new → recounted later (recounted new t) ≡ recounted later t
unfolding recounted
recounted_again new later t e = ap (λ (ts : List Text). joined (later ∷ drop 1 ts)) (parts_recounted new t e)

-- An argument whose keyword no claim names stays.
pub unclaimed_stays : (cs : List Claim) (keyword t : Text) → T (not (among (map (λ (c : Claim). c.keyword) cs) keyword)) → claimed cs keyword t ≡ t
unfolding claimed among
unclaimed_stays [] keyword t h = refl
unclaimed_stays (c ∷ cs) keyword t h = by (same c.keyword keyword) h (unclaimed_stays cs keyword t)
  where
    by : (b : Bool) →
        T (not (b || among (map (λ (d : Claim). d.keyword) cs) keyword)) →
        (T (not (among (map (λ (d : Claim). d.keyword) cs) keyword)) → claimed cs keyword t ≡ t) →
        cond b (c.becomes t) (claimed cs keyword t) ≡ t
    by true n f = absurd n
    by false n f = f n

-- The claims of the second list leave nothing of those of the first.
abbrev pub Undo : List Claim → List Claim → Type 0
Undo [] [] = Unit {0}
Undo [] (d ∷ ds) = ⊥
Undo (c ∷ cs) [] = ⊥
Undo (c ∷ cs) (d ∷ ds) =
    ((c.keyword ≡ d.keyword) × ((t : Text) → d.becomes (c.becomes t) ≡ d.becomes t)) × Undo cs ds

claimed_again : (cs ds : List Claim) (keyword t : Text) → Undo cs ds → claimed ds keyword (claimed cs keyword t) ≡ claimed ds keyword t
unfolding claimed
claimed_again [] [] keyword t u = refl
claimed_again [] (d ∷ ds) keyword t u = absurd u
claimed_again (c ∷ cs) [] keyword t u = absurd u
claimed_again (c ∷ cs) (d ∷ ds) keyword t u = rw u.0.0 (by (claimed_again cs ds keyword t u.1) (same d.keyword keyword))
  where
    by : claimed ds keyword (claimed cs keyword t) ≡ claimed ds keyword t → (b : Bool) → cond b (d.becomes (cond b (c.becomes t) (claimed cs keyword t))) (claimed ds keyword (cond b (c.becomes t) (claimed cs keyword t))) ≡ cond b (d.becomes t) (claimed ds keyword t)
    by more true = u.0.1 t
    by more false = more

pub arguments_again : (cs ds : List Claim) (es : List Entry) (ts : List Text) → Undo cs ds → written_arguments ds es (written_arguments cs es ts) ≡ written_arguments ds es ts
unfolding written_arguments
arguments_again cs ds [] ts u = refl
arguments_again cs ds (e ∷ es) [] u = refl
arguments_again cs ds (e ∷ es) (t ∷ ts) u =
    ap₂ {C = List Text} (λ x xs. x ∷ xs) (claimed_again cs ds e.keyword t u) (arguments_again cs ds es ts u)

-- Whatever words the later claims are in.
pub later_claims : (in_words : ℕ → Text) (t u : Totals) → Undo (claims digits t) (claims in_words u)
unfolding claims
later_claims in_words t u =
    (refl, again (in_words u.credited) t.credited)
    beside (refl, λ s. refl)
    beside (refl, again (in_words u.squares) t.squares)
    beside (refl, λ s. refl)
    beside (refl, again (in_words u.exchanges) t.exchanges)
    beside (refl, λ s. refl)
    beside (refl, again (in_words u.countries) t.countries)
    beside (refl, λ s. refl)
    beside (refl, λ s. refl)
    beside tt
  where
    again : (later : Text) (n : ℕ) (s : Text) → recounted later (recounted (digits n) s) ≡ recounted later s
    again later n s = recounted_again (digits n) later s (digits_plain (digits n) (digits_all n))

records_again : (vs : List Verdict) (qs : List Qso) → map unclaimed_record (written_records vs qs) ≡ map unclaimed_record qs
unfolding written_records unclaimed_record
records_again [] qs = refl
records_again (v ∷ vs) [] = refl
records_again (v ∷ vs) (q ∷ qs) = ap {B = List Qso} (λ r. unclaimed_record q ∷ r) (records_again vs qs)

pub writing_changes : (R : Rules) → WritingChangesOnlyTheNamed R
unfolding unclaimed written_back
writing_changes R log =
    ap₂ (λ (ts : List Text) (qs : List Qso). record { keywords = keywords_of entries; arguments = ts; remarks = log.remarks; records = qs })
    (arguments_again (claims digits (totals_of_log R log)) (claims (λ n. []) zero_totals) entries log.arguments (later_claims (λ n. []) (totals_of_log R log) zero_totals))
    (records_again (verdicts_of_log R log) log.records)
