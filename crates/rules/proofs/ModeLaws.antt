-- The eleven counts of modes add up to the count of credited records.
-- Assumes nothing.
use Prim.Native.Nat.{ℕ, zero, suc, ◌+◌, ◌-◌, ◌≤◌, ◌<◌}
use native.Mathlib.Omega.{arith}
use mathlib.Core.Path.{◌≡◌, refl, ap, sym, ◌∙◌}
use mathlib.Core.Bool.{Bool, true, false, cond, ◌&&◌}
use mathlib.Core.List.{List, [], ◌∷◌, map}
use lib.Dec.{T, eqb, leb, ltb}
use lib.ListN.{length}
use borrow.Author.Tests.{leb-true, eqb-true, eqb-false}
use Rattle.rules.specs.declared.Class.TheVariants.{Credited}
use Rattle.rules.specs.declared.Verdict.{Verdict}
use Rattle.rules.specs.Text.{Text, bytes, digit, all, same}
use Rattle.rules.specs.Rules.{Rules}
use Rattle.rules.specs.Fields.{Qso, mode, field_rules}
use Rattle.rules.specs.Log.{Log, conjunction, record_rules, valid}
use Rattle.rules.specs.Judging.{is, count_of, credited_sum, modes_of, modes_together, verdict_number, verdicts, verdicts_of_log, totals_of, totals, totals_of_log, zero_totals, zero_modes}
use Rattle.rules.specs.Reading.{Reading, accepted, refused, refusal, read}
use Rattle.rules.specs.Answers.{judge, judge_reading, judge_log, totals_of_judgement, judged, unjudged}
use Rattle.rules.specs.Demands.{AddUp, ModesAddUp}
use Rattle.rules.proofs.Tests.{so}
use Rattle.rules.proofs.Passing.{first, second}
use Rattle.rules.proofs.Format.{accepted_when_written}
use Rattle.rules.proofs.Classes.{of_class, length_verdicts}
use Rattle.rules.proofs.Distinct.{tally}
use Rattle.rules.proofs.ValidLogs.{mode_ruled, records_valid}

-- A mode that keeps its rule is blank, or one digit.
pub record OneDigit (c : ℕ) (t : Text) : Type 0 where
  pub alone : t ≡ []
  pub code : digit c ≡ true
  pub least : 48 ≤ c
  pub most : c ≤ 57

pub one_digit : (c : ℕ) (t : Text) → T (mode (c ∷ t)) → OneDigit c t
unfolding mode all
one_digit c t h =
    let one = eqb (length (c ∷ t)) 1 in
    let n : length (c ∷ t) ≡ 1 = eqb-true (length (c ∷ t)) 1 (so one (first one (digit c && all digit t) h)) in
    let d : T (digit c) = first (digit c) (all digit t) (second one (digit c && all digit t) h) in
    record {
      alone = none t (omega arith);
      code = so (digit c) d;
      least = leb-true 48 c (so (leb 48 c) (first (leb 48 c) (leb c 57) d));
      most = leb-true c 57 (so (leb c 57) (second (leb 48 c) (leb c 57) d));
    }
  where
    none : (u : Text) → length u ≡ 0 → u ≡ []
    none [] e = refl
    none (d ∷ u) e = absurd (omega arith)

-- How many of the eleven modes a text is.
unfoldable times_aMode : Text → ℕ
unfolding same
times_aMode t =
    tally (same t (bytes "0"))
    + tally (same t (bytes "1"))
    + tally (same t (bytes "2"))
    + tally (same t (bytes "3"))
    + tally (same t (bytes "4"))
    + tally (same t (bytes "5"))
    + tally (same t (bytes "6"))
    + tally (same t (bytes "7"))
    + tally (same t (bytes "8"))
    + tally (same t (bytes "9"))
    + tally (same t (bytes ""))

-- A test that passes all numbers below a limit passes each.
unfoldable below : ℕ → (ℕ → Bool) → Bool
below zero f = true
below (suc n) f = f n && below n f

each_below : (n : ℕ) (f : ℕ → Bool) (k : ℕ) → T (below n f) → k < n → T (f k)
unfolding below
each_below zero f k t h = absurd (omega arith)
each_below (suc n) f k t h = by (eqb k n) refl (λ (l : k < n). each_below n f k (second (f n) (below n f) t) l)
  where
    by : (b : Bool) → eqb k n ≡ b → (k < n → T (f k)) → T (f k)
    by true e less = rw (eqb-true k n e) (first (f n) (below n f) t)
    by false e less = less (omega (arith, eqb-false k n e))

-- A code is one of them, and so is a blank.
one_code : (k : ℕ) → k < 10 → times_aMode ((48 + k) ∷ []) ≡ 1
unfolding times_aMode below
one_code k h =
    let test : ℕ → Bool = λ n. eqb (times_aMode ((48 + n) ∷ [])) 1 in
    eqb-true (times_aMode ((48 + k) ∷ [])) 1 (so (test k) (each_below 10 test k tt h))

one_mode_lem : (t : Text) → T (mode t) → times_aMode t ≡ 1
unfolding times_aMode
one_mode_lem [] e = refl
one_mode_lem (c ∷ t) e =
    let o = one_digit c t e in
    let is_code : 48 + (c - 48) ≡ c = omega (arith, o.least) in
    rw o.alone (ap (λ (n : ℕ). times_aMode (n ∷ [])) (sym is_code) ∙ one_code (c - 48) (omega (arith, o.most)))

-- One record more, credited or not, is one more of one mode or of none.
credited_once : (b : Bool) (t : Text) → T (mode t) →
    cond b (tally (same t (bytes "0"))) 0
    + cond b (tally (same t (bytes "1"))) 0
    + cond b (tally (same t (bytes "2"))) 0
    + cond b (tally (same t (bytes "3"))) 0
    + cond b (tally (same t (bytes "4"))) 0
    + cond b (tally (same t (bytes "5"))) 0
    + cond b (tally (same t (bytes "6"))) 0
    + cond b (tally (same t (bytes "7"))) 0
    + cond b (tally (same t (bytes "8"))) 0
    + cond b (tally (same t (bytes "9"))) 0
    + cond b (tally (same t (bytes ""))) 0
    ≡ tally b
unfolding times_aMode
credited_once true t h = one_mode_lem t h
credited_once false t h = refl

module _ (R : Rules) where
  pub together : (qs : List Qso) (vs : List Verdict) → length vs ≡ length qs → T (record_rules R qs) → modes_together (modes_of qs vs) ≡ of_class Credited vs
  unfolding modes_together modes_of credited_sum count_of record_rules
  together [] [] e t = refl
  together [] (v ∷ vs) e t = absurd (omega arith)
  together (q ∷ qs) [] e t = absurd (omega arith)
  together (q ∷ qs) (v ∷ vs) e t =
      let rules = conjunction (field_rules R q) in
      omega (
        arith,
        credited_once (is Credited v.class) q.mode (mode_ruled R q (first rules (record_rules R qs) t)),
        together qs vs (omega arith) (second rules (record_rules R qs) t),
      )

  of_logs_lem : (log : Log) → T (valid R log) → AddUp (totals_of_log R log)
  unfolding totals_of_log totals totals_of
  of_logs_lem log v = together log.records (verdicts R log.records) (length_verdicts R log.records) (records_valid R log v)

  of_answers_lem : (s : Text) (room : ℕ) → AddUp (totals_of_judgement (judge R room s))
  unfolding judge judge_reading judge_log totals_of_judgement zero_totals zero_modes modes_together
  of_answers_lem s room = by (read R s) refl
    where
      fits : (b : Bool) (log : Log) → T (valid R log) → AddUp (totals_of_judgement (cond b (unjudged (refusal 7 0 0)) (judged (totals_of_log R log) (map verdict_number (verdicts_of_log R log)))))
      fits true log v = refl
      fits false log v = of_logs_lem log v

      by : (r : Reading) → read R s ≡ r → AddUp (totals_of_judgement (judge_reading R room r))
      by (accepted log) e = fits (ltb room (length log.records)) log ((accepted_when_written R s log).0 e).0
      by (refused r) e = refl

  pub modes_add_up_lem : ModesAddUp R
  modes_add_up_lem = record { of_logs = of_logs_lem; of_answers = of_answers_lem }
