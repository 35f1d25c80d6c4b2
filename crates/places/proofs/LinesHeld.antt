-- The lines of a log that is written stand one behind the other: where each begins, and what it holds.
-- Assumes nothing.
use Prim.Native.Nat.{ℕ, zero, suc, ◌+◌, ◌≤◌, ◌<◌, min}
use native.Mathlib.Omega.{arith}
use mathlib.Core.Path.{◌≡◌, refl, sym, ap, ◌∙◌}
use mathlib.Core.Bool.{true}
use mathlib.Core.List.{List, [], ◌∷◌, ◌++◌, append_assoc}
use lib.Dec.{T, leb}
use lib.ListN.{length, take, drop, get_or, take-append-drop}
use lib.Seq.{drop-cons, drop-drop, drop-append-add, take-suc, take-append_seam}
use Rattle.rules.specs.Text.{Text, allowed, all, span}
use Rattle.rules.specs.Rules.{Rules}
use Rattle.rules.specs.Arguments.{every}
use Rattle.rules.specs.Log.{Log, lines_of, crlf, ended, render, line_rule, valid}
use Rattle.rules.proofs.Tests.{so, and_r}
use Rattle.rules.proofs.TextLaws.{span_run}
use Rattle.rules.proofs.LogLaws.{length_ended_more, length_ended_append}
use Rattle.rules.proofs.Format.{of_valid, render_law}
use Rattle.places.specs.Places.{line_text_at, line_on, line_start}
use Rattle.reader.proofs.FieldsHeld.{every_at}

-- Lines that keep the rule of lines, put together to a text.
module _ (R : Rules) (s : Text) (ls : List Text) (r : every (line_rule R) ls ≡ true) (e : s ≡ ended ls) where
  line_allowed : (i : ℕ) → i < length ls → all allowed (get_or ls i []) ≡ true
  unfolding line_rule
  line_allowed i h = and_r (leb (length (get_or ls i [])) R.longest_line) (all allowed (get_or ls i [])) (every_at (line_rule R) ls i h r)

  first_of : (i : ℕ) → i < length ls → ended (drop i ls) ≡ get_or ls i [] ++ (13 ∷ 10 ∷ ended (drop (suc i) ls))
  unfolding ended crlf
  first_of i h = rw (drop-cons ls i [] h) (append_assoc (get_or ls i []) crlf (ended (drop (suc i) ls)))

  -- What stands at a place decides where the line there ends.
  module _ (at i : ℕ) (h : i < length ls) (p : drop at s ≡ ended (drop i ls)) where
    runs : span allowed (drop at s) ≡ length (get_or ls i [])
    runs = ap (span allowed) (p ∙ first_of i h) ∙ span_run allowed (get_or ls i []) 13 (10 ∷ ended (drop (suc i) ls)) (line_allowed i h) refl

    line_is : line_text_at s at ≡ get_or ls i []
    unfolding line_text_at
    line_is = rw (runs, p ∙ first_of i h) (take-append_seam (get_or ls i []) (13 ∷ 10 ∷ ended (drop (suc i) ls)))

    behind : drop (at + span allowed (drop at s) + 2) s ≡ ended (drop (suc i) ls)
    behind =
        let n : at + span allowed (drop at s) + 2 ≡ at + (length (get_or ls i []) + 2) = omega (arith, runs) in
        ap (λ (m : ℕ). drop m s) n
        ∙ sym (drop-drop (length (get_or ls i []) + 2) at s)
        ∙ ap (drop (length (get_or ls i []) + 2)) (p ∙ first_of i h)
        ∙ drop-append-add (get_or ls i []) (13 ∷ 10 ∷ ended (drop (suc i) ls)) 2

  stands : (i : ℕ) → i ≤ length ls → drop (line_start s i) s ≡ ended (drop i ls)
  unfolding line_on
  stands zero h = e
  stands (suc i) h = behind (line_start s i) i h (stands i (omega arith))

  longer : (i : ℕ) → i < length ls → length (ended (take (suc i) ls)) ≡ length (ended (take i ls)) + length (get_or ls i []) + 2
  longer i h =
      let l = get_or ls i [] in
      let none : length (ended []) ≡ 0 = unfold ended in refl in
      ap (λ (t : List Text). length (ended t)) (take-suc ls i [] h)
      ∙ omega (arith, length_ended_append (take i ls) (l ∷ []), length_ended_more l [], none)

  pub line_starts : (i : ℕ) → i ≤ length ls → line_start s i ≡ length (ended (take i ls))
  unfolding line_on ended
  line_starts zero h = refl
  line_starts (suc i) h =
      omega (arith, line_starts i (omega arith), runs (line_start s i) i h (stands i (omega arith)), longer i h)

  pub line_held : (i : ℕ) → i < length ls → line_text_at s (line_start s i) ≡ get_or ls i []
  line_held i h = line_is (line_start s i) i h (stands i (omega arith))

  pub line_within : (i : ℕ) → i ≤ length ls → line_start s i ≤ length s
  line_within i h =
      omega (arith, line_starts i h, length_ended_append (take i ls) (drop i ls), ap (λ (t : List Text). length (ended t)) (take-append-drop i ls), ap length e)

-- A valid log, and the text that it is written as.
module _ (R : Rules) (s : Text) (log : Log) (v : T (valid R log)) (w : render log ≡ s) where
  pub ruled : every (line_rule R) (lines_of log) ≡ true
  ruled = (of_valid R log (so (valid R log) v)).line_rules

  pub start_of_line : (i : ℕ) → i ≤ length (lines_of log) → line_start s i ≡ length (ended (take i (lines_of log)))
  start_of_line i h = line_starts R s (lines_of log) ruled (sym w ∙ render_law log) i h

  pub text_of_line : (i : ℕ) → i < length (lines_of log) → line_text_at s (line_start s i) ≡ get_or (lines_of log) i []
  text_of_line i h = line_held R s (lines_of log) ruled (sym w ∙ render_law log) i h

  -- So none of its lines is told to begin anywhere else.
  pub line_inside : (i : ℕ) → i ≤ length (lines_of log) → min (line_start s i) (length s) ≡ line_start s i
  line_inside i h = omega (arith, line_within R s (lines_of log) ruled (sym w ∙ render_law log) i h)
