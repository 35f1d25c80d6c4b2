-- Laws of lines: the lines of a text are those that it is put together from, and a text is its lines and what is left behind them.
-- Assumes nothing.
use Prim.Native.Nat.{ℕ, zero, suc, ◌+◌, ◌≤◌, ◌<◌}
use mathlib.Core.Path.{◌≡◌, refl, sym, ap, ◌∙◌}
use mathlib.Core.Bool.{Bool, true, false, cond, ◌&&◌, and-false}
use mathlib.Core.List.{List, [], ◌∷◌, ◌++◌, append_assoc}
use lib.Dec.{leb}
use lib.ListN.{length, take, drop, length-append, length-take, take-append-drop}
use lib.Seq.{take-append_seam, drop-append_seam, drop-append-add, drop-drop}
use native.Mathlib.Omega.{arith}
use borrow.Author.Tests.{leb-true, le-leb}
use Rattle.rules.specs.Text.{Text, allowed, all, span, begins}
use Rattle.rules.specs.Rules.{Rules}
use Rattle.rules.specs.Arguments.{every}
use Rattle.rules.specs.Log.{crlf, ended, line_rule}
use Rattle.rules.specs.Reading.{Lines, FirstLine, a_line, no_line, first_line, on_first_line, lines_within, lines}
use Rattle.rules.proofs.Tests.{and_l, and_r, and_i}
use Rattle.rules.proofs.TextLaws.{span_all, span_run, begins_split}

-- No line stands at the front of nothing.
pub first_of_none : (R : Rules) → first_line R [] ≡ no_line
unfolding first_line span begins crlf
first_of_none R = rw (and-false (leb 0 R.longest_line))

module _ (R : Rules) where
  -- What a run of allowed characters at the front decides.
  first_at : (s : Text) (n : ℕ) → span allowed s ≡ n → first_line R s ≡ cond (leb n R.longest_line && begins crlf (drop n s)) (a_line (take n s) (drop (n + 2) s)) no_line
  unfolding first_line
  first_at s n e = rw e

  -- A line with its end is found at the front of a text.
  pub first_front : (l rest : Text) → line_rule R l ≡ true → first_line R (l ++ crlf ++ rest) ≡ a_line l rest
  unfolding crlf begins line_rule
  first_front l rest e =
      let short : leb (length l) R.longest_line ≡ true = and_l (leb (length l) R.longest_line) (all allowed l) e in
      let run : span allowed (l ++ 13 ∷ 10 ∷ rest) ≡ length l = span_run allowed l 13 (10 ∷ rest) (and_r (leb (length l) R.longest_line) (all allowed l) e) refl in
      rw (append_assoc l crlf rest, first_at (l ++ 13 ∷ 10 ∷ rest) (length l) run, drop-append_seam l (13 ∷ 10 ∷ rest), short, take-append_seam l (13 ∷ 10 ∷ rest), drop-append-add l (13 ∷ 10 ∷ rest) 2)

  -- What is found at the front of a text is a line, and the text goes on behind its end.
  pub record IsFirst (s l rest : Text) : Type 0 where
    pub rule : line_rule R l ≡ true
    pub text : s ≡ l ++ crlf ++ rest

  line_picked : (b : Bool) (a r l rest : Text) → cond b (a_line a r) no_line ≡ a_line l rest → (b ≡ true) × (a ≡ l) × (r ≡ rest)
  line_picked true a r l rest e = (refl, cc, cc)
  line_picked false a r l rest e = let z : ◌≡◌ {A = ℕ} 0 1 = cc in absurd (omega arith)

  pub first_is : (s l rest : Text) → first_line R s ≡ a_line l rest → IsFirst s l rest
  unfolding first_line line_rule
  first_is s l rest e =
      let n = span allowed s in
      let p = line_picked (leb n R.longest_line && begins crlf (drop n s)) (take n s) (drop (n + 2) s) l rest e in
      let short : leb n R.longest_line ≡ true = and_l (leb n R.longest_line) (begins crlf (drop n s)) p.0 in
      let end : begins crlf (drop n s) ≡ true = and_r (leb n R.longest_line) (begins crlf (drop n s)) p.0 in
      let fits : length (take n s) ≤ R.longest_line = omega (arith, length-take n s, leb-true n R.longest_line short) in
      let tail : drop n s ≡ crlf ++ drop 2 (drop n s) = begins_split crlf (drop n s) end in
      record {
        rule = rw (← p.1) (and_i (le-leb (length (take n s)) R.longest_line fits) (span_all allowed s));
        text = sym (take-append-drop n s)
            ∙ ap (λ (r : Text). take n s ++ r) (tail ∙ ap (λ (r : Text). crlf ++ r) (drop-drop 2 n s))
            ∙ sym (append_assoc (take n s) crlf (drop (n + 2) s))
            ∙ cc (p.1, p.2);
      }

  pub first_shorter : (s l rest : Text) → first_line R s ≡ a_line l rest → length rest < length s
  unfolding crlf
  first_shorter s l rest e = rw (first_is s l rest e).text (simp length-append (omega arith))

  -- How often one may go on does not matter, if it is often enough.
  lines_enough : (m k : ℕ) (s : Text) → length s ≤ m → length s ≤ k → lines_within R m s ≡ lines_within R k s
  unfolding lines_within on_first_line
  lines_enough zero zero s h g = refl
  lines_enough zero (suc k) [] h g = rw (first_of_none R)
  lines_enough zero (suc k) (c ∷ s) h g = absurd (omega arith)
  lines_enough (suc m) zero [] h g = rw (first_of_none R)
  lines_enough (suc m) zero (c ∷ s) h g = absurd (omega arith)
  lines_enough (suc m) (suc k) s h g = on (λ rest i j. lines_enough m k rest i j) (first_line R s) refl
    where
      on : ((rest : Text) → length rest ≤ m → length rest ≤ k → lines_within R m rest ≡ lines_within R k rest) → (f : FirstLine) → first_line R s ≡ f → on_first_line (lines_within R m) s f ≡ on_first_line (lines_within R k) s f
      on more no_line e = refl
      on more (a_line l rest) e = rw (more rest (omega (arith, first_shorter s l rest e)) (omega (arith, first_shorter s l rest e)))

  -- The lines of a text: its first line, and the lines of what is left.
  pub lines_law : (s : Text) → lines R s ≡ on_first_line (lines R) s (first_line R s)
  unfolding lines lines_within on_first_line
  lines_law [] = rw (first_of_none R)
  lines_law (c ∷ s) = on (first_line R (c ∷ s)) refl
    where
      on : (f : FirstLine) → first_line R (c ∷ s) ≡ f → on_first_line (lines_within R (length s)) (c ∷ s) f ≡ on_first_line (lines R) (c ∷ s) f
      on no_line e = refl
      on (a_line l rest) e = let h : length rest < suc (length s) = first_shorter (c ∷ s) l rest e in rw (lines_enough (length s) (length rest) rest (omega arith) (omega arith))

  -- Lines that are put together are found again.
  pub lines_of_ended : (ls : List Text) → every (line_rule R) ls ≡ true → lines R (ended ls) ≡ record { whole = ls; rest = [] }
  unfolding ended every on_first_line
  lines_of_ended [] e = lines_law [] ∙ rw (first_of_none R)
  lines_of_ended (l ∷ ls) e =
      lines_law (ended (l ∷ ls))
      ∙ rw (first_front l (ended ls) (and_l (line_rule R l) (every (line_rule R) ls) e), lines_of_ended ls (and_r (line_rule R l) (every (line_rule R) ls) e))

  -- A text is its lines and what is left behind them, and its lines keep the rule of lines.
  pub record AreLines (s : Text) (ls : Lines) : Type 0 where
    pub rules : every (line_rule R) ls.whole ≡ true
    pub text : s ≡ ended ls.whole ++ ls.rest

  within_are : (n : ℕ) (s : Text) → AreLines s (lines_within R n s)
  unfolding lines_within on_first_line ended every
  within_are zero s = record { rules = refl; text = refl }
  within_are (suc n) s = on (λ rest. within_are n rest) (first_line R s) refl
    where
      on : ((rest : Text) → AreLines rest (lines_within R n rest)) → (f : FirstLine) → first_line R s ≡ f → AreLines s (on_first_line (lines_within R n) s f)
      on more no_line e = record { rules = refl; text = refl }
      on more (a_line l rest) e =
          let ls = lines_within R n rest in
          let i = first_is s l rest e in
          record {
            rules = and_i i.rule (more rest).rules;
            text = i.text ∙ ap (λ (r : Text). l ++ crlf ++ r) (more rest).text ∙ sym (append_assoc (l ++ crlf) (ended ls.whole) ls.rest);
          }

  pub lines_are_lem : (s : Text) → AreLines s (lines R s)
  unfolding lines
  lines_are_lem s = within_are (length s) s
