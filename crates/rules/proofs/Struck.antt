-- What is left of an accepted log once records are struck is written as a text that is accepted.
-- Assumes nothing.
use Prim.Native.Nat.{ℕ, ◌+◌, ◌≤◌}
use mathlib.Core.Path.{◌≡◌, refl, ap, ◌∙◌}
use mathlib.Core.Bool.{Bool, true, false, cond}
use mathlib.Core.List.{List, [], ◌∷◌, ◌++◌, map}
use lib.Dec.{T}
use lib.ListN.{length}
use native.Mathlib.Omega.{arith}
use borrow.Author.Tests.{leb-true, le-leb}
use Rattle.rules.specs.Text.{Text}
use Rattle.rules.specs.Rules.{Rules}
use Rattle.rules.specs.Fields.{Qso, field_rules}
use Rattle.rules.specs.Arguments.{every}
use Rattle.rules.specs.Log.{Log, count_line, record_line, ended, render, line_rule, conjunction, record_rules, valid}
use Rattle.rules.specs.Striking.{Places, later, kept, strike}
use Rattle.rules.specs.Demands.{StruckIsAccepted}
use Rattle.rules.proofs.Tests.{so, holds, and_l, and_r, and_i}
use Rattle.rules.proofs.LogLaws.{every_append, every_front, every_back, every_more, every_first, every_others, length_ended_more, length_ended_append, front, lines_split, length_count, fewer_counted}
use Rattle.rules.proofs.NumberLaws.{digits_shorter}
use Rattle.rules.proofs.Format.{Rightly, valid_of, of_valid, render_law, accepted_when_written}

module _ (R : Rules) where
  -- The second list is no longer than the first, in records and in bytes, and keeps the rules if the first does.
  record Less (qs ps : List Qso) : Type 0 where
    fewer : length ps ≤ length qs
    shorter : length (ended (map record_line ps)) ≤ length (ended (map record_line qs))
    line_rules : every (line_rule R) (map record_line qs) ≡ true → every (line_rule R) (map record_line ps) ≡ true
    rules : record_rules R qs ≡ true → record_rules R ps ≡ true

  less_one : (q : Qso) (qs ps : List Qso) → Less qs ps → Less (q ∷ qs) ps
  unfolding record_rules
  less_one q qs ps k =
      record {
        fewer = omega (arith, k.fewer);
        shorter = omega (arith, k.shorter, length_ended_more (record_line q) (map record_line qs));
        line_rules = λ e. k.line_rules (every_others (line_rule R) (record_line q) (map record_line qs) e);
        rules = λ e. k.rules (and_r (conjunction (field_rules R q)) (record_rules R qs) e);
      }

  with_one : (q : Qso) (qs ps : List Qso) → Less qs ps → Less (q ∷ qs) (q ∷ ps)
  unfolding record_rules
  with_one q qs ps k =
      record {
        fewer = omega (arith, k.fewer);
        shorter = omega (arith, k.shorter, length_ended_more (record_line q) (map record_line qs), length_ended_more (record_line q) (map record_line ps));
        line_rules = λ e.
            every_more (line_rule R) (record_line q) (map record_line ps)
            (every_first (line_rule R) (record_line q) (map record_line qs) e)
            (k.line_rules (every_others (line_rule R) (record_line q) (map record_line qs) e));
        rules = λ e.
            and_i (and_l (conjunction (field_rules R q)) (record_rules R qs) e) (k.rules (and_r (conjunction (field_rules R q)) (record_rules R qs) e));
      }

  kept_less : (struck : Places) (qs : List Qso) → Less qs (kept struck qs)
  unfolding kept
  kept_less struck [] = record { fewer = omega arith; shorter = omega arith; line_rules = λ e. e; rules = λ e. e }
  kept_less struck (q ∷ qs) = by (kept_less (later struck) qs) (struck 0)
    where
      by : Less qs (kept (later struck) qs) → (b : Bool) → Less (q ∷ qs) (cond b (kept (later struck) qs) (q ∷ kept (later struck) qs))
      by k true = less_one q qs (kept (later struck) qs) k
      by k false = with_one q qs (kept (later struck) qs) k

  -- How long a log is.
  length_render : (log : Log) → length (render log) ≡ length (ended (front log)) + (length (count_line (length log.records)) + 2 + length (ended (map record_line log.records)))
  length_render log =
      ap length (render_law log ∙ ap ended (lines_split log))
      ∙ length_ended_append (front log) (count_line (length log.records) ∷ map record_line log.records)
      ∙ ap (λ (n : ℕ). length (ended (front log)) + n) (length_ended_more (count_line (length log.records)) (map record_line log.records))

  front_struck : (log : Log) (struck : Places) → front (strike struck log) ≡ front log
  unfolding strike front
  front_struck log struck = refl

  -- What is left is no longer than the log.
  pub struck_no_longer : (log : Log) (struck : Places) → length (render (strike struck log)) ≤ length (render log)
  unfolding strike
  struck_no_longer log struck =
      let qs = log.records in
      let ps = kept struck qs in
      let k = kept_less struck qs in
      omega (arith, length_render log, length_render (strike struck log), ap (λ (f : List Text). length (ended f)) (front_struck log struck), length_count (length ps), length_count (length qs), digits_shorter (length qs) (length ps) k.fewer, k.shorter)

  struck_rightly : (log : Log) (struck : Places) → Rightly R log → Rightly R (strike struck log)
  unfolding strike
  struck_rightly log struck r =
      let qs = log.records in
      let ps = kept struck qs in
      let k = kept_less struck qs in
      let all : every (line_rule R) (front log ++ count_line (length qs) ∷ map record_line qs) ≡ true = rw (lines_split log) at r.line_rules in
      let back : every (line_rule R) (count_line (length qs) ∷ map record_line qs) ≡ true = every_back (line_rule R) (front log) (count_line (length qs) ∷ map record_line qs) all in
      let before : every (line_rule R) (front (strike struck log)) ≡ true = rw (front_struck log struck) (every_front (line_rule R) (front log) (count_line (length qs) ∷ map record_line qs) all) in
      let behind : every (line_rule R) (count_line (length ps) ∷ map record_line ps) ≡ true =
      every_more (line_rule R) (count_line (length ps)) (map record_line ps)
      (fewer_counted R (length ps) (length qs) k.fewer (every_first (line_rule R) (count_line (length qs)) (map record_line qs) back))
      (k.line_rules (every_others (line_rule R) (count_line (length qs)) (map record_line qs) back)) in
      record {
        short = omega (arith, r.short, struck_no_longer log struck);
        line_rules = rw (lines_split (strike struck log)) (every_append (line_rule R) (front (strike struck log)) (count_line (length ps) ∷ map record_line ps) before behind);
        spellings = r.spellings;
        rules_of_arguments = r.rules_of_arguments;
        remark_rules = r.remark_rules;
        fits = le-leb (length ps) R.most_records (omega (arith, k.fewer, leb-true (length qs) R.most_records r.fits));
        rules = k.rules r.rules;
      }

  -- A valid log is still valid once records are struck.
  pub struck_valid : (log : Log) (struck : Places) → T (valid R log) → T (valid R (strike struck log))
  struck_valid log struck v =
      holds (valid_of R (strike struck log) (struck_rightly log struck (of_valid R log (so (valid R log) v))))

pub struck_is_accepted_lem : (R : Rules) → StruckIsAccepted R
struck_is_accepted_lem R s log struck e =
    let w = (accepted_when_written R s log).0 e in
    (accepted_when_written R (render (strike struck log)) (strike struck log)).1 (struck_valid R log struck w.0, refl)
