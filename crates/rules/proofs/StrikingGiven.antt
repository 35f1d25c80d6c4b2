-- What striking answers: a refusal exactly when its row says, in the order of the rows, or what is left of the log. Over any rules.
-- Assumes nothing.
use Prim.Native.Nat.{ℕ, ◌≤◌, ◌<◌}
use mathlib.Core.Path.{◌≡◌, refl, sym, ap, ◌∙◌}
use mathlib.Core.Logic.{inl, inr, ◌↔◌}
use mathlib.Core.Bool.{Bool, true, false, cond}
use mathlib.Core.List.{List}
use lib.Dec.{leb, ltb}
use lib.ListN.{length}
use native.Mathlib.Decide.{dec_lt}
use native.Mathlib.Omega.{arith}
use borrow.Author.Tests.{le-leb, lt-leb, le-ltb, lt-ltb}
use Rattle.rules.specs.declared.Refusal.{Refusal}
use Rattle.rules.specs.Text.{Text}
use Rattle.rules.specs.Rules.{Rules}
use Rattle.rules.specs.Log.{Log, IsWrittenAs}
use Rattle.rules.specs.Reading.{Reading, accepted, refused, refusal, read}
use Rattle.rules.specs.Answers.{no_refusal, Writing, written, unwritten, refusal_of_writing, bytes_of_writing, over}
use Rattle.rules.specs.Given.{LineAndField}
use Rattle.rules.specs.Striking.{strike_log, strike_reading, strike_out}
use Rattle.rules.specs.StrikingDemands.{result_of, GivenByStriking, RefusedStrikingChangesNothing}
use Rattle.rules.proofs.Format.{accepted_when_written}
use Rattle.rules.proofs.GivenRefusals.{no_place, numbered, placed}

-- A refusal hands no text over.
no_text : {A : Type 0} {r : Refusal} {t : Text} → unwritten r ≡ written t → A
no_text e = let z : ◌≡◌ {A = ℕ} 0 1 = cc in absurd (omega arith)

-- # What an accepted log gives

module _ (room : ℕ) (marks : List ℕ) (log : Log) where
  abbrev fitting : Writing
  fitting = cond (leb (length (result_of marks log)) room) (written (result_of marks log)) (unwritten (refusal 8 0 0))

  log_at : (b : Bool) → ltb (length marks) (length log.records) ≡ b → strike_log room marks log ≡ cond b (unwritten (refusal 7 0 0)) fitting
  unfolding strike_log
  log_at b e = ap (λ (c : Bool). cond c (unwritten (refusal 7 0 0)) fitting) e

  few_marks : length marks < length log.records → strike_log room marks log ≡ unwritten (refusal 7 0 0)
  few_marks h = log_at true (lt-ltb (length marks) (length log.records) h)

  module _ (many : length log.records ≤ length marks) where
    little_room : room < length (result_of marks log) → strike_log room marks log ≡ unwritten (refusal 8 0 0)
    little_room h =
        log_at false (le-ltb (length marks) (length log.records) many)
        ∙ ap (λ (c : Bool). cond c (written (result_of marks log)) (unwritten (refusal 8 0 0))) (lt-leb (length (result_of marks log)) room h)

    all_written : length (result_of marks log) ≤ room → strike_log room marks log ≡ written (result_of marks log)
    all_written h =
        log_at false (le-ltb (length marks) (length log.records) many)
        ∙ ap (λ (c : Bool). cond c (written (result_of marks log)) (unwritten (refusal 8 0 0))) (le-leb (length (result_of marks log)) room h)

-- # What is answered

module _ (R : Rules) (room : ℕ) (marks : List ℕ) (s : Text) where
  abbrev answered : Writing
  answered = strike_out R room marks s

  pub strike_read : (a : Reading) → read R s ≡ a → answered ≡ strike_reading room marks a
  unfolding strike_out
  strike_read a e = ap (strike_reading room marks) e

  pub strike_refused : (r : Refusal) → read R s ≡ refused r → answered ≡ unwritten r
  unfolding strike_reading
  strike_refused r e = strike_read (refused r) e

  pub strike_accepted : (log : Log) → IsWrittenAs R s log → answered ≡ strike_log room marks log
  unfolding strike_reading
  strike_accepted log w = strike_read (accepted log) ((accepted_when_written R s log).1 w)

  -- One of four things happens.
  pub data Outcome : Type 0 where
    unread : (r : Refusal) → read R s ≡ refused r → answered ≡ unwritten r → Outcome
    too_few :
        (log : Log) →
        IsWrittenAs R s log →
        length marks < length log.records →
        answered ≡ unwritten (refusal 7 0 0) →
        Outcome
    too_long :
        (log : Log) →
        IsWrittenAs R s log →
        length log.records ≤ length marks →
        room < length (result_of marks log) →
        answered ≡ unwritten (refusal 8 0 0) →
        Outcome
    handed :
        (log : Log) →
        IsWrittenAs R s log →
        length log.records ≤ length marks →
        length (result_of marks log) ≤ room →
        answered ≡ written (result_of marks log) →
        Outcome

  pub outcome : Outcome
  outcome = by (read R s) refl
    where
      fitted : (log : Log) → IsWrittenAs R s log → length log.records ≤ length marks → Dec (room < length (result_of marks log)) → Outcome
      fitted log w many (yes h) =
          too_long log w many h (strike_accepted log w ∙ little_room room marks log many h)
      fitted log w many (no h) =
          let fits : length (result_of marks log) ≤ room = omega arith in
          handed log w many fits (strike_accepted log w ∙ all_written room marks log many fits)

      marked_all : (log : Log) → IsWrittenAs R s log → Dec (length marks < length log.records) → Outcome
      marked_all log w (yes h) = too_few log w h (strike_accepted log w ∙ few_marks room marks log h)
      marked_all log w (no h) = fitted log w (omega arith) (dec_lt room (length (result_of marks log)))

      by : (a : Reading) → read R s ≡ a → Outcome
      by (accepted log) e =
          marked_all log ((accepted_when_written R s log).0 e) (dec_lt (length marks) (length log.records))
      by (refused r) e = unread r e (strike_refused r e)

  -- # Which number is told

  same_told : {q r : Refusal} → answered ≡ unwritten q → answered ≡ unwritten r → q ≡ r
  same_told {q} {r} e g = cc

  same_number : {q r : Refusal} → answered ≡ unwritten q → answered ≡ unwritten r → q.number ≡ r.number
  same_number e g = ap (λ (x : Refusal). x.number) (same_told e g)

  -- No line and no field is told with a number of striking's own.
  no_places : {number n f : ℕ} → answered ≡ unwritten (refusal number 0 0) → answered ≡ unwritten (refusal number n f) → (n ≡ 0) × (f ≡ 0)
  no_places e g =
      let q = same_told g e in
      (ap (λ (r : Refusal). r.line) q, ap (λ (r : Refusal). r.field) q)

  seven_when : (n f : ℕ) → (answered ≡ unwritten (refusal 7 n f)) ↔ ((n ≡ 0) × (f ≡ 0) × (log : Log) × IsWrittenAs R s log × (length marks < length log.records))
  seven_when n f = (
    λ e. by outcome e,
    λ p. let (l, z, log, w, h) = p in strike_accepted log w ∙ few_marks room marks log h ∙ cc,
  )
    where
      by : Outcome → answered ≡ unwritten (refusal 7 n f) → (n ≡ 0) × (f ≡ 0) × (log : Log) × IsWrittenAs R s log × (length marks < length log.records)
      by (unread r h g) e = absurd (omega (arith, same_number g e, (numbered R s r h).1))
      by (too_few log w h g) e = let p = no_places g e in (p.0, p.1, log, w, h)
      by (too_long log w many h g) e = absurd (omega (arith, same_number g e))
      by (handed log w many h g) e = no_text (sym e ∙ g)

  eight_when : (n f : ℕ) → (answered ≡ unwritten (refusal 8 n f)) ↔ ((n ≡ 0) × (f ≡ 0) × (log : Log) × IsWrittenAs R s log × (length log.records ≤ length marks) × (room < length (result_of marks log)))
  eight_when n f = (
    λ e. by outcome e,
    λ p. let (l, z, log, w, many, h) = p in strike_accepted log w ∙ little_room room marks log many h ∙ cc,
  )
    where
      by : Outcome → answered ≡ unwritten (refusal 8 n f) → (n ≡ 0) × (f ≡ 0) × (log : Log) × IsWrittenAs R s log × (length log.records ≤ length marks) × (room < length (result_of marks log))
      by (unread r h g) e = absurd (omega (arith, same_number g e, (numbered R s r h).1))
      by (too_few log w h g) e = absurd (omega (arith, same_number g e))
      by (too_long log w many h g) e = let p = no_places g e in (p.0, p.1, log, w, many, h)
      by (handed log w many h g) e = no_text (sym e ∙ g)

  else_read : (r : Refusal) → (r.number ≡ 7 → ⊥) → (r.number ≡ 8 → ⊥) → (answered ≡ unwritten r) ↔ (read R s ≡ refused r)
  else_read r seven eight = (λ e. by outcome e, strike_refused r)
    where
      by : Outcome → answered ≡ unwritten r → read R s ≡ refused r
      by (unread q h g) e = h ∙ ap refused (same_told g e)
      by (too_few log w h g) e = absurd (seven (same_number e g))
      by (too_long log w many h g) e = absurd (eight (same_number e g))
      by (handed log w many h g) e = no_text (sym e ∙ g)

  -- What is told of an answer.
  told : {a : Writing} → answered ≡ a → (refusal_of_writing answered).number ≡ (refusal_of_writing a).number
  told e = ap (λ (a : Writing). (refusal_of_writing a).number) e

  zero_when : ((refusal_of_writing answered).number ≡ 0) ↔ ((log : Log) × IsWrittenAs R s log × (length log.records ≤ length marks) × (length (result_of marks log) ≤ room))
  unfolding refusal_of_writing no_refusal
  zero_when = (
    λ e. by outcome e,
    λ p. let (log, w, many, h) = p in told (strike_accepted log w ∙ all_written room marks log many h),
  )
    where
      by : Outcome → (refusal_of_writing answered).number ≡ 0 → (log : Log) × IsWrittenAs R s log × (length log.records ≤ length marks) × (length (result_of marks log) ≤ room)
      by (unread r h g) e = absurd (omega (arith, told g, (numbered R s r h).0))
      by (too_few log w h g) e = absurd (omega (arith, told g))
      by (too_long log w many h g) e = absurd (omega (arith, told g))
      by (handed log w many h g) e = (log, w, many, h)

  rightly_placed : LineAndField (refusal_of_writing answered)
  unfolding refusal_of_writing no_refusal
  rightly_placed = by outcome
    where
      by : Outcome → LineAndField (refusal_of_writing answered)
      by (unread r h g) = rw g (placed R s r h)
      by (too_few log w h g) = rw g (no_place 7 (inr (omega arith)))
      by (too_long log w many h g) = rw g (no_place 8 (inr (omega arith)))
      by (handed log w many h g) = rw g (no_place 0 (inl (omega arith)))

  -- What was handed over is what is left of the log that was read.
  pub what_is_handed : (t : Text) → answered ≡ written t → (log : Log) × IsWrittenAs R s log × (t ≡ result_of marks log)
  what_is_handed t e = by outcome
    where
      by : Outcome → (log : Log) × IsWrittenAs R s log × (t ≡ result_of marks log)
      by (unread r h g) = no_text (sym g ∙ e)
      by (too_few log w h g) = no_text (sym g ∙ e)
      by (too_long log w many h g) = no_text (sym g ∙ e)
      by (handed log w many h g) = (log, w, cc)

-- # All of it

pub given_by_striking : (R : Rules) (s : Text) (marks : List ℕ) (room : ℕ) → GivenByStriking R s marks room
given_by_striking R s marks room =
    record {
      seven = seven_when R room marks s;
      eight = eight_when R room marks s;
      striking_else = else_read R room marks s;
      zero = zero_when R room marks s;
      line_and_field = rightly_placed R room marks s;
    }

pub refused_striking : (R : Rules) → RefusedStrikingChangesNothing R
unfolding bytes_of_writing over
refused_striking R s marks slice r e = (rw e, rw e)
