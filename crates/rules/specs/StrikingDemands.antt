-- What striking answers, and demand 3 of what it writes, as statements over the definitions. They are proved elsewhere; here one reads what is claimed.
-- Assumes nothing.
use Rattle.std.specs.Prelude.{ℕ, ◌+◌, ◌*◌, ◌%◌, ◌≤◌, ◌<◌, ◌≡◌, ◌↔◌, cond, not, List, T, length, get_or}
use Rattle.rules.specs.declared.Refusal.{Refusal}
use Rattle.rules.specs.declared.Class.{Class}
use Rattle.rules.specs.declared.Class.TheVariants.{Credited, Void, Duplicate}
use Rattle.rules.specs.declared.Totals.{Totals}
use Rattle.rules.specs.Text.{Text}
use Rattle.rules.specs.Rules.{Rules}
use Rattle.rules.specs.Log.{Log, valid, render, IsWrittenAs}
use Rattle.rules.specs.Judging.{class_number, claims_points, multipliers, declared, verdicts_of_log}
use Rattle.rules.specs.Reading.{accepted, refused, refusal, read}
use Rattle.rules.specs.Answers.{judged, judge, written, unwritten, refusal_of_writing, bytes_of_writing, over}
use Rattle.rules.specs.Given.{LineAndField}
use Rattle.rules.specs.Striking.{Places, strike, place_after, struck_worth, marked, strike_out}
use Rattle.rules.specs.Demands.{qso_at, class_at, same_call_as, class_struck, EveryEarlierClaimIsStruck}

-- # Demand 1

-- The result of a log: the bytes of what is left of it.
abbrev pub result_of : List ℕ → Log → Text
result_of marks log = render (strike (marked marks) log)

-- Each refusal exactly when: reading's; 7 where the marks are fewer than the records; 8 where the output slice is too short; no other.
pub record GivenByStriking (R : Rules) (s : Text) (marks : List ℕ) (room : ℕ) : Type 0 where
  pub seven :
      (n f : ℕ) →
      (strike_out R room marks s ≡ unwritten (refusal 7 n f))
      ↔ ((n ≡ 0) × (f ≡ 0) × (log : Log) × IsWrittenAs R s log × (length marks < length log.records))
  pub eight :
      (n f : ℕ) →
      (strike_out R room marks s ≡ unwritten (refusal 8 n f))
      ↔ ((n ≡ 0)
      × (f ≡ 0)
      × (log : Log)
      × IsWrittenAs R s log
      × (length log.records ≤ length marks)
      × (room < length (result_of marks log)))
  pub striking_else :
      (r : Refusal) →
      (r.number ≡ 7 → ⊥) →
      (r.number ≡ 8 → ⊥) →
      (strike_out R room marks s ≡ unwritten r) ↔ (read R s ≡ refused r)
  pub zero :
      ((refusal_of_writing (strike_out R room marks s)).number ≡ 0)
      ↔ ((log : Log)
      × IsWrittenAs R s log
      × (length log.records ≤ length marks)
      × (length (result_of marks log) ≤ room))
  pub line_and_field : LineAndField (refusal_of_writing (strike_out R room marks s))

-- "A refusal gives .. length 0, and no byte of a lent slice is changed."
abbrev pub RefusedStrikingChangesNothing : Rules → Type 0
RefusedStrikingChangesNothing R =
    (s : Text) (marks slice : List ℕ) (r : Refusal) →
    strike_out R (length slice) marks s ≡ unwritten r →
    (length (bytes_of_writing (strike_out R (length slice) marks s)) ≡ 0)
    × (over (bytes_of_writing (strike_out R (length slice) marks s)) slice ≡ slice)

-- # Every class

-- Besides what demand 3 says of credited records: what becomes of each class, so that it is known of every record that is not struck. An ERROR, a void
-- and a credited record stay what they are. A duplicate stays one while an earlier record of its call that claims points is left; else it is credited if it
-- claims points, and void if it does not.
pub record EachClassAfter (R : Rules) (log : Log) (struck : Places) : Type 0 where
  pub others_stay :
      (j : ℕ) →
      j < length log.records →
      T (not (struck j)) →
      (class_at R log.records j ≡ Duplicate → ⊥) →
      class_struck R log struck j ≡ class_at R log.records j
  pub duplicates_stay :
      (i j : ℕ) →
      i < j →
      j < length log.records →
      T (not (struck i)) →
      T (not (struck j)) →
      T (same_call_as R (qso_at log.records i) (qso_at log.records j)) →
      T (claims_points (qso_at log.records i)) →
      class_at R log.records j ≡ Duplicate →
      class_struck R log struck j ≡ Duplicate
  pub duplicates_freed :
      (j : ℕ) →
      j < length log.records →
      T (not (struck j)) →
      EveryEarlierClaimIsStruck R log struck j →
      class_at R log.records j ≡ Duplicate →
      class_struck R log struck j ≡ cond (claims_points (qso_at log.records j)) Credited Void

-- # Demand 3, over the bytes

-- "A verdict is one number for a record: 0 credited, 1 void, 2 duplicate, 3 error, plus 16, 32, 64": a number tells this class.
abbrev pub Tells : Class → ℕ → Type 0
Tells class n = n % 16 ≡ class_number class

-- The marks keep the record at a place. What judging the result tells of a record that was at a place of the log.
abbrev pub IsKept : List ℕ → ℕ → Type 0
IsKept marks j = get_or marks j 0 ≡ 0

abbrev pub told_after : List ℕ → List ℕ → ℕ → ℕ
told_after marks becomes j = get_or becomes (place_after (marked marks) j) 0

-- "A credited record that was not struck is still credited, and a duplicate not struck becomes credited exactly when it claims points and every
-- earlier record of its call that claims points was struck."
pub record StrikesRightlyInBytes (R : Rules) (log : Log) (marks was becomes : List ℕ) : Type 0 where
  pub still_credited :
      (j : ℕ) →
      j < length log.records →
      IsKept marks j →
      Tells Credited (get_or was j 0) →
      Tells Credited (told_after marks becomes j)
  pub promoted :
      (j : ℕ) →
      j < length log.records →
      IsKept marks j →
      Tells Duplicate (get_or was j 0) →
      Tells Credited (told_after marks becomes j)
      ↔ (T (claims_points (qso_at log.records j))
      × ((i : ℕ) →
      i < j →
      T (same_call_as R (qso_at log.records i) (qso_at log.records j)) →
      T (claims_points (qso_at log.records i)) →
      IsKept marks i →
      ⊥))

-- "If, besides, every duplicate in the log before striking claims no points"
abbrev pub ToldDuplicatesClaimNothing : Log → List ℕ → Type 0
ToldDuplicatesClaimNothing log was =
    (j : ℕ) →
    j < length log.records →
    Tells Duplicate (get_or was j 0) →
    T (not (claims_points (qso_at log.records j)))

-- "then nothing becomes credited, the total does not rise, and it falls by no more than the struck credited records' points plus one bonus of
-- each of the three kinds for each, times the declared multipliers."
pub record StrikesCheaplyInBytes (R : Rules) (log : Log) (marks was becomes : List ℕ) (before after : Totals) : Type 0 where
  pub nothing_promoted :
      (j : ℕ) →
      j < length log.records →
      IsKept marks j →
      Tells Credited (told_after marks becomes j) →
      Tells Credited (get_or was j 0)
  pub does_not_rise : after.total ≤ before.total
  pub fall_is_bounded :
      before.total
      ≤ after.total
      + struck_worth (declared log) (marked marks) log.records (verdicts_of_log R log) * multipliers (declared log)

-- The judge of the log and the judge of the result: each answers where its verdict slice has a byte for each record, and what they tell keeps the rule.
pub record JudgedBeforeAndAfter (R : Rules) (s t : Text) (marks : List ℕ) : Type 0 where
  pub log : Log
  pub reads : read R s ≡ accepted log
  pub reads_left : read R t ≡ accepted (strike (marked marks) log)
  pub before : Totals
  pub after : Totals
  pub was : List ℕ
  pub becomes : List ℕ
  pub judged_before : (room : ℕ) → length log.records ≤ room → judge R room s ≡ judged before was
  pub judged_after :
      (room : ℕ) → length (strike (marked marks) log).records ≤ room → judge R room t ≡ judged after becomes
  pub rightly : StrikesRightlyInBytes R log marks was becomes
  pub cheaply : ToldDuplicatesClaimNothing log was → StrikesCheaplyInBytes R log marks was becomes before after

abbrev pub StrikingRuleInBytes : Rules → Type 0
StrikingRuleInBytes R =
    (s t : Text) (marks : List ℕ) (room : ℕ) →
    strike_out R room marks s ≡ written t →
    JudgedBeforeAndAfter R s t marks

-- What is left of a log is no longer than the log: a slice of that many bytes is never too short.
abbrev pub NoLonger : Rules → Type 0
NoLonger R =
    (s : Text) (log : Log) (marks : List ℕ) → read R s ≡ accepted log → length (result_of marks log) ≤ length s

-- Nothing struck changes nothing.
abbrev pub NothingStruck : Rules → Type 0
NothingStruck R =
    (s t : Text) (marks : List ℕ) (room : ℕ) →
    ((j : ℕ) → get_or marks j 0 ≡ 0) →
    strike_out R room marks s ≡ written t →
    t ≡ s

-- # All of it

pub record TheStriker (R : Rules) : Type 0 where
  pub given_exactly_when : (s : Text) (marks : List ℕ) (room : ℕ) → GivenByStriking R s marks room
  pub a_refusal_changes_nothing : RefusedStrikingChangesNothing R
  pub each_class_after : (log : Log) (struck : Places) → T (valid R log) → EachClassAfter R log struck
  pub striking_rule : StrikingRuleInBytes R
  pub no_longer : NoLonger R
  pub nothing_struck : NothingStruck R
