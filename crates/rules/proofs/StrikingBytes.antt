-- Demand 3 of what striking writes: the judge of the log and the judge of the result. A class is told by its number, so that the rule over the classes is
-- the rule over the numbers. Over any rules.
-- Assumes nothing.
use Prim.Native.Nat.{ℕ, zero, suc, ◌+◌, ◌%◌, ◌≤◌, ◌<◌}
use mathlib.Core.Path.{◌≡◌, refl, sym, ap, ◌∙◌}
use mathlib.Core.Logic.{◌⊎◌, inl, inr}
use mathlib.Core.Bool.{Bool, true, false, cond, not}
use mathlib.Core.List.{List, [], ◌∷◌, map}
use lib.Dec.{T, eqb}
use lib.ListN.{length, get_or}
use native.Mathlib.Omega.{arith}
use native.Mathlib.Nat.{le_of_suc-le-suc, not-suc-le-zero}
use borrow.Author.Tests.{le-ltb, eq-eqb, eqb-true}
use Rattle.rules.specs.declared.Class.{Class}
use Rattle.rules.specs.declared.Class.TheVariants.{Credited, Void, Duplicate, Error}
use Rattle.rules.specs.declared.Verdict.{Verdict}
use Rattle.rules.specs.Text.{Text}
use Rattle.rules.specs.Rules.{Rules}
use Rattle.rules.specs.Fields.{Qso}
use Rattle.rules.specs.Log.{Log, render, valid}
use Rattle.rules.specs.Judging.{class_number, is, verdict_number, verdicts, verdicts_of_log, totals_of_log}
use Rattle.rules.specs.Reading.{accepted, read}
use Rattle.rules.specs.Answers.{judged, judge_log, judge_reading, judge}
use Rattle.rules.specs.Striking.{Places, later, kept, strike, place_after, marked}
use Rattle.rules.specs.Demands.{qso_at, verdict_at, class_at, StrikesRightly}
use Rattle.rules.specs.StrikingDemands.{Tells, IsKept, ToldDuplicatesClaimNothing, StrikesRightlyInBytes, StrikesCheaplyInBytes, StrikingRuleInBytes, NoLonger, NothingStruck, TheStriker}
use Rattle.rules.proofs.Tests.{holds, either}
use Rattle.rules.proofs.Classes.{is→equal, length_verdicts}
use Rattle.rules.proofs.Falls.{striking_rule_lem}
use Rattle.rules.proofs.Format.{accepted_when_written}
use Rattle.rules.proofs.KeptPlaces.{kept_fits}
use Rattle.rules.proofs.Passing.{failed}
use Rattle.rules.proofs.Strikes.{each_class_after_lem}
use Rattle.rules.proofs.Struck.{struck_valid, struck_no_longer}
use Rattle.rules.proofs.StrikingGiven.{what_is_handed, given_by_striking, refused_striking}

-- # A class and its number

class_small : (c : Class) → class_number c < 16
unfolding class_number
class_small Credited = omega arith
class_small Void = omega arith
class_small Duplicate = omega arith
class_small Error = omega arith

-- Marks add sixteens.
marks_apart : (n : ℕ) → n < 16 → (x y z : Bool) → (n + cond x 16 0 + cond y 32 0 + cond z 64 0) % 16 ≡ n
marks_apart n h true true true = omega arith
marks_apart n h true true false = omega arith
marks_apart n h true false true = omega arith
marks_apart n h true false false = omega arith
marks_apart n h false true true = omega arith
marks_apart n h false true false = omega arith
marks_apart n h false false true = omega arith
marks_apart n h false false false = omega arith

number_class : (v : Verdict) → verdict_number v % 16 ≡ class_number v.class
unfolding verdict_number
number_class v = marks_apart (class_number v.class) (class_small v.class) v.exchange v.square v.country

same_class : (a b : Class) → class_number a ≡ class_number b → a ≡ b
unfolding is
same_class a b e = is→equal b a (holds (eq-eqb (class_number b) (class_number a) (sym e)))

-- What stands at a place of a list, whatever stands for the places that it has not.
map_at : {A B : Type 0} (f : A → B) (l : List A) (n : ℕ) (d : A) (e : B) → n < length l → get_or (map f l) n e ≡ f (get_or l n d)
map_at f [] n d e h = absurd (not-suc-le-zero h)
map_at f (a ∷ l) zero d e h = refl
map_at f (a ∷ l) (suc n) d e h = map_at f l n d e (le_of_suc-le-suc h)

module _ (R : Rules) (qs : List Qso) (j : ℕ) (h : j < length qs) where
  abbrev numbers : List ℕ
  numbers = map verdict_number (verdicts R qs)

  number_at : get_or numbers j 0 ≡ verdict_number (verdict_at R qs j)
  number_at = map_at verdict_number (verdicts R qs) j _ 0 (rw (length_verdicts R qs) h)

  -- A number of the list tells the class of its record, and no other.
  tells : (class : Class) → class_at R qs j ≡ class → Tells class (get_or numbers j 0)
  tells class e = ap (λ (n : ℕ). n % 16) number_at ∙ number_class (verdict_at R qs j) ∙ ap class_number e

  told : (class : Class) → Tells class (get_or numbers j 0) → class_at R qs j ≡ class
  told class e =
      same_class (class_at R qs j) class (sym (number_class (verdict_at R qs j)) ∙ ap (λ (n : ℕ). n % 16) (sym number_at) ∙ e)

-- # Kept, by the marks

module _ (marks : List ℕ) (j : ℕ) where
  kept_mark : IsKept marks j → T (not (marked marks j))
  kept_mark e = holds {b = not (marked marks j)} (rw e)

  struck_mark : T (marked marks j) → IsKept marks j → ⊥
  struck_mark t e = (failed (marked marks j)).0 (kept_mark e) t

  mark_struck : (IsKept marks j → ⊥) → T (marked marks j)
  mark_struck n = by (either (eqb (get_or marks j 0) 0))
    where
      by : (eqb (get_or marks j 0) 0 ≡ true) ⊎ (eqb (get_or marks j 0) 0 ≡ false) → T (marked marks j)
      by (inl e) = absurd (n (eqb-true (get_or marks j 0) 0 e))
      by (inr e) = holds {b = marked marks j} (rw e)

-- # The rule

module _ (R : Rules) (log : Log) (marks : List ℕ) (v : T (valid R log)) where
  abbrev qs : List Qso
  qs = log.records

  abbrev ps : List Qso
  ps = (strike (marked marks) log).records

  abbrev was : List ℕ
  was = map verdict_number (verdicts_of_log R log)

  abbrev becomes : List ℕ
  becomes = map verdict_number (verdicts_of_log R (strike (marked marks) log))

  rule : StrikesRightly R log (marked marks)
  rule = (striking_rule_lem R log (marked marks) v).0

  module _ (j : ℕ) (h : j < length qs) (k : IsKept marks j) where
    there : place_after (marked marks) j < length ps
    unfolding strike
    there = kept_fits (qso_at qs j) (marked marks) qs j h (kept_mark marks j k)

  rightly : StrikesRightlyInBytes R log marks was becomes
  unfolding verdicts_of_log
  rightly =
      record {
        still_credited = λ j h k c.
            tells R ps (place_after (marked marks) j) (there j h k) Credited
            (rule.still_credited j h (kept_mark marks j k) (told R qs j h Credited c));
        promoted = λ j h k c.
            let exactly = rule.promoted j h (kept_mark marks j k) (told R qs j h Duplicate c) in (
              λ p.
                  let w = exactly.0 (told R ps (place_after (marked marks) j) (there j h k) Credited p) in
                  (w.0, λ i below t u. struck_mark marks i (w.1 i below t u)),
              λ w.
                  tells R ps (place_after (marked marks) j) (there j h k) Credited
                  (exactly.1 (w.0, λ i below t u. mark_struck marks i (w.1 i below t u))),
            );
      }

  cheaply : ToldDuplicatesClaimNothing log was → StrikesCheaplyInBytes R log marks was becomes (totals_of_log R log) (totals_of_log R (strike (marked marks) log))
  unfolding verdicts_of_log
  cheaply none =
      let cheap = (striking_rule_lem R log (marked marks) v).1 (λ j h d. none j h (tells R qs j h Duplicate d)) in
      record {
        nothing_promoted = λ j h k c.
            tells R qs j h Credited
            (cheap.nothing_promoted j h (kept_mark marks j k) (told R ps (place_after (marked marks) j) (there j h k) Credited c));
        does_not_rise = cheap.does_not_rise;
        fall_is_bounded = cheap.fall_is_bounded;
      }

-- The judge of an accepted log, with a byte for each record.
judge_answers : (R : Rules) (s : Text) (log : Log) → read R s ≡ accepted log → (room : ℕ) → length log.records ≤ room → judge R room s ≡ judged (totals_of_log R log) (map verdict_number (verdicts_of_log R log))
unfolding judge judge_reading judge_log
judge_answers R s log e room h = rw (e, le-ltb room (length log.records) h)

pub striking_rule_in_bytes : (R : Rules) → StrikingRuleInBytes R
striking_rule_in_bytes R s t marks room e =
    let (log, w, is) = what_is_handed R room marks s t e in
    let left = strike (marked marks) log in
    let reads = (accepted_when_written R s log).1 w in
    let reads_left_lem : read R t ≡ accepted left = (accepted_when_written R t left).1 (struck_valid R log (marked marks) w.0, sym is) in
    record {
      log = log;
      reads = reads;
      reads_left = reads_left_lem;
      before = totals_of_log R log;
      after = totals_of_log R left;
      was = map verdict_number (verdicts_of_log R log);
      becomes = map verdict_number (verdicts_of_log R left);
      judged_before = judge_answers R s log reads;
      judged_after = judge_answers R t left reads_left_lem;
      rightly = rightly R log marks w.0;
      cheaply = cheaply R log marks w.0;
    }

-- # How long it is, and nothing struck

pub no_longer_lem : (R : Rules) → NoLonger R
no_longer_lem R s log marks e =
    omega (arith, struck_no_longer R log (marked marks), ap length ((accepted_when_written R s log).0 e).1)

keep_all : {A : Type 0} (struck : Places) (l : List A) → ((j : ℕ) → struck j ≡ false) → kept struck l ≡ l
unfolding kept
keep_all struck [] none = refl
keep_all {A} struck (a ∷ l) none = rw (none 0) (ap (λ (m : List A). a ∷ m) (keep_all (later struck) l (λ j. none (suc j))))

nothing_struck_lem : (R : Rules) → NothingStruck R
unfolding strike
nothing_struck_lem R s t marks room none e =
    let (log, w, is) = what_is_handed R room marks s t e in
    let all = keep_all (marked marks) log.records (λ j. rw (none j)) in
    is ∙ ap (λ (qs : List Qso). render (record { keywords = log.keywords; arguments = log.arguments; remarks = log.remarks; records = qs })) all ∙ w.1

-- # All of it

pub the_striker : (R : Rules) → TheStriker R
the_striker R =
    record {
      given_exactly_when = given_by_striking R;
      a_refusal_changes_nothing = refused_striking R;
      each_class_after = each_class_after_lem R;
      striking_rule = striking_rule_in_bytes R;
      no_longer = no_longer_lem R;
      nothing_struck = nothing_struck_lem R;
    }
