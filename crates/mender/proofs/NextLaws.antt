-- Laws of what follows from a mended line: it is taken by the reader's step where it keeps the rule of lines.
-- Assumes nothing.
use Prim.Native.Nat.{ℕ, ◌+◌, ◌-◌, ◌≤◌, ◌<◌}
use native.Mathlib.Omega.{arith}
use mathlib.Core.Path.{◌≡◌, refl, sym, ap, ◌∙◌}
use mathlib.Core.Bool.{true, false, not, and-false}
use mathlib.Core.List.{◌++◌}
use lib.Dec.{leb}
use lib.ListN.{length, length-append}
use borrow.Author.Tests.{not-true, not-false, le-leb, lt-leb}
use Rattle.std.specs.Prelude.{Result, Err}
use Rattle.rules.specs.declared.Fault.{Fault}
use Rattle.rules.specs.declared.Due.{Due}
use Rattle.rules.specs.Text.{Text, all, allowed}
use Rattle.rules.specs.Rules.{Rules, base}
use Rattle.rules.specs.Log.{count_line, crlf, line_rule}
use Rattle.rules.specs.Reading.{step}
use Rattle.rules.proofs.LogLaws.{fewer_counted}
use Rattle.reader.specs.declared.Stepped.{Stepped}
use Rattle.reader.specs.Contact.{between}
use Rattle.reader.specs.Read.{step_of}
use Rattle.reader.proofs.HeadLaws.{stepped_next}
use Rattle.writer.proofs.WrittenLaws.{part_length}
use Rattle.mender.specs.declared.Laid.{Laid}
use Rattle.mender.specs.Lines.{Spans, sets_count, text_laid}
use Rattle.mender.specs.Checking.{no_line_due, line_next}

-- # The text of a mended line

module _ (s : Text) (at follow : ℕ) (l : Laid) where
  pub text_count : sets_count l.second ≡ true → text_laid s at follow l ≡ count_line follow
  unfolding text_laid
  text_count e = rw e

  pub text_part : (sets_count l.second ≡ false) → text_laid s at follow l ≡ between s at l.end
  unfolding text_laid
  text_part e = rw e

  -- How many bytes it takes with its CR LF.
  pub length_count : {n : ℕ} → sets_count l.second ≡ true → n ≡ length (count_line follow) → n + 2 ≡ length (text_laid s at follow l ++ crlf)
  unfolding crlf
  length_count e p =
      ap (λ (k : ℕ). k + 2) p
      ∙ sym (ap (λ (t : Text). length (t ++ crlf)) (text_count e) ∙ length-append (count_line follow) crlf)

  pub length_part : Spans s at l.end l.next → (sets_count l.second ≡ false) → l.end - at + 2 ≡ length (text_laid s at follow l ++ crlf)
  unfolding crlf
  length_part k e =
      let long : length (between s at l.end) ≡ l.end - at = part_length s at l.end k.forth k.within in
      sym (ap (λ (t : Text). length (t ++ crlf)) (text_part e) ∙ length-append (between s at l.end) crlf ∙ ap (λ (n : ℕ). n + 2) long)

-- # What follows

module _ (R : Rules) (due : Due) (t : Text) where
  taken : line_rule R t ≡ true → step R due t ≡ line_next R due t
  unfolding line_next
  taken e = rw e

  left : line_rule R t ≡ false → Err (no_line_due due) ≡ line_next R due t
  unfolding line_next
  left e = rw e

  ruled : length t ≤ R.longest_line → all allowed t ≡ true → line_rule R t ≡ true
  unfolding line_rule
  ruled h e = rw (le-leb (length t) R.longest_line h, e)

  too_long_lem : R.longest_line < length t → line_rule R t ≡ false
  unfolding line_rule
  too_long_lem h = rw (lt-leb (length t) R.longest_line h)

  not_allowed : all allowed t ≡ false → line_rule R t ≡ false
  unfolding line_rule
  not_allowed e = rw (e, and-false (leb (length t) R.longest_line))

  -- The step's answer, where the text is known by another name.
  pub next_of_step : {u : Text} {r : Stepped} → line_rule R t ≡ true → u ≡ t → r ≡ step_of R 0 due u → r.next ≡ line_next R due t
  next_of_step {u} {r} e q p = sym (stepped_next R 0 due u p) ∙ ap (step R due) q ∙ taken e

-- A count line of as many lines as a log can have keeps the rule of lines.
pub count_ruled : (n : ℕ) → n ≤ base.longest_log → line_rule base (count_line n) ≡ true
unfolding base line_rule count_line all
count_ruled n h = fewer_counted base n base.longest_log h refl

module _ (due : Due) (s : Text) (at follow : ℕ) (l : Laid) where
  pub next_count : {r : Result Due Fault} → sets_count l.second ≡ true → r ≡ line_next base due (count_line follow) → r ≡ line_next base due (text_laid s at follow l)
  next_count e p = p ∙ ap (line_next base due) (sym (text_count s at follow l e))

  module _ (e : sets_count l.second ≡ false) (clean : all allowed (between s at l.end) ≡ l.clean) where
    by_part : {r : Result Due Fault} → r ≡ line_next base due (between s at l.end) → r ≡ line_next base due (text_laid s at follow l)
    by_part p = p ∙ ap (line_next base due) (sym (text_part s at follow l e))

    pub next_unclean : {r : Result Due Fault} → not l.clean ≡ true → r ≡ Err (no_line_due due) → r ≡ line_next base due (text_laid s at follow l)
    next_unclean t p = by_part (p ∙ left base due (between s at l.end) (not_allowed base due (between s at l.end) (clean ∙ not-true l.clean t)))

    module _ (k : Spans s at l.end l.next) where
      long : length (between s at l.end) ≡ l.end - at
      long = part_length s at l.end k.forth k.within

      pub next_long : {r : Result Due Fault} {most : ℕ} → most ≡ base.longest_line → most < l.end - at → r ≡ Err (no_line_due due) → r ≡ line_next base due (text_laid s at follow l)
      next_long m h p = by_part (p ∙ left base due (between s at l.end) (too_long_lem base due (between s at l.end) (omega (arith, m, h, long))))

      pub next_line : {r : Stepped} {most : ℕ} → not l.clean ≡ false → most ≡ base.longest_line → l.end - at ≤ most → r ≡ step_of base 0 due (between s at l.end) → r.next ≡ line_next base due (text_laid s at follow l)
      next_line t m h p =
          by_part (next_of_step base due (between s at l.end) (ruled base due (between s at l.end) (omega (arith, m, h, long)) (clean ∙ not-false l.clean t)) refl p)
