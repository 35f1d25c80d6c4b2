-- A text is accepted exactly when it is what some valid log is written as, and it is read as that log.
-- Assumes nothing.
use Prim.Native.Nat.{suc, ◌≤◌, ◌<◌}
use mathlib.Core.Path.{◌≡◌, refl, sym, ap, ◌∙◌}
use mathlib.Core.Logic.{◌↔◌}
use mathlib.Core.Bool.{Bool, true, false, cond, ◌&&◌}
use mathlib.Core.List.{◌++◌, append-nil}
use lib.Dec.{leb, ltb}
use lib.ListN.{length}
use native.Mathlib.Omega.{arith}
use borrow.Author.Tests.{leb-true, le-leb, leb-false}
use Rattle.rules.specs.Text.{Text}
use Rattle.rules.specs.Rules.{Rules}
use Rattle.rules.specs.Arguments.{entries, every}
use Rattle.rules.specs.Log.{Log, lines_of, ended, render, line_rule, keyword_rules, argument_rules, remark_rule, record_rules, valid, IsWrittenAs}
use Rattle.rules.specs.declared.Due.TheVariants.{Identifier}
use Rattle.rules.specs.Reading.{Reading, accepted, refused, refusal, Lines, lines, walk, read}
use Rattle.rules.specs.Demands.{AcceptedExactlyWhenFormat}
use Rattle.rules.proofs.Tests.{passed, so, holds, fails, and_l, and_r, and_i}
use Rattle.rules.proofs.LineLaws.{lines_of_ended, lines_are_lem}
use Rattle.rules.proofs.WalkLaws.{no_log_lem, log_is, log_leads}

-- What makes a log valid, one by one.
pub record Rightly (R : Rules) (log : Log) : Type 0 where
  pub short : length (render log) ≤ R.longest_log
  pub line_rules : every (line_rule R) (lines_of log) ≡ true
  pub spellings : keyword_rules entries log.keywords ≡ true
  pub rules_of_arguments : argument_rules R entries log.arguments ≡ true
  pub remark_rules : every remark_rule log.remarks ≡ true
  pub fits : leb (length log.records) R.most_records ≡ true
  pub rules : record_rules R log.records ≡ true

module _ (R : Rules) (log : Log) where
  pub valid_of : Rightly R log → valid R log ≡ true
  unfolding valid
  valid_of r =
      and_i (and_i (and_i (and_i (and_i (and_i (le-leb (length (render log)) R.longest_log r.short) r.line_rules) r.spellings) r.rules_of_arguments) r.remark_rules) r.fits) r.rules

  pub of_valid : valid R log ≡ true → Rightly R log
  unfolding valid
  of_valid v =
      let a = leb (length (render log)) R.longest_log in
      let b = every (line_rule R) (lines_of log) in
      let c = keyword_rules entries log.keywords in
      let d = argument_rules R entries log.arguments in
      let e = every remark_rule log.remarks in
      let f = leb (length log.records) R.most_records in
      let g = record_rules R log.records in
      let v₅ : (a && b && c && d && e && f) ≡ true = and_l (a && b && c && d && e && f) g v in
      let v₄ : (a && b && c && d && e) ≡ true = and_l (a && b && c && d && e) f v₅ in
      let v₃ : (a && b && c && d) ≡ true = and_l (a && b && c && d) e v₄ in
      let v₂ : (a && b && c) ≡ true = and_l (a && b && c) d v₃ in
      let v₁ : (a && b) ≡ true = and_l (a && b) c v₂ in
      record {
        short = leb-true (length (render log)) R.longest_log (and_l a b v₁);
        line_rules = and_r a b v₁;
        spellings = and_r (a && b) c v₂;
        rules_of_arguments = and_r (a && b && c) d v₃;
        remark_rules = and_r (a && b && c && d) e v₄;
        fits = and_r (a && b && c && d && e) f v₅;
        rules = and_r (a && b && c && d && e && f) g v;
      }

pub render_law : (log : Log) → render log ≡ ended (lines_of log)
unfolding render
render_law log = refl

unfoldable pub by_line : Rules → Lines → Reading
by_line R ls = walk R Identifier 1 ls.whole ls.rest

pub read_law : (R : Rules) (s : Text) → read R s ≡ cond (ltb R.longest_log (length s)) (refused (refusal 1 0 0)) (by_line R (lines R s))
unfolding read by_line
read_law R s = refl

module _ (R : Rules) (s : Text) (log : Log) where
  -- What is read is a valid log, and the text is what it is written as.
  read_is : read R s ≡ accepted log → Rightly R log × (render log ≡ s)
  unfolding by_line
  read_is e =
      let ls = lines R s in
      -- A text that is not too long is read by the walk over its lines.
      let p = passed (ltb R.longest_log (length s)) (sym (read_law R s) ∙ e) no_log_lem in
      let w = log_is R 1 ls.whole ls.rest log p.1 in
      let l = lines_are_lem R s in
      let text : render log ≡ s = render_law log ∙ ap ended (sym w.the_lines) ∙ sym (append-nil (ended ls.whole)) ∙ ap (λ (r : Text). ended ls.whole ++ r) (sym w.no_more) ∙ sym l.text in
      let few : length s < suc R.longest_log = leb-false (suc R.longest_log) (length s) p.0 in (
        record {
          short = rw text (omega arith);
          line_rules = rw (← w.the_lines) l.rules;
          spellings = w.spellings;
          rules_of_arguments = w.rules_of_arguments;
          remark_rules = w.remark_rules;
          fits = w.fits;
          rules = w.rules;
        },
        text,
      )

  -- What a valid log is written as is read as that log.
  read_as : Rightly R log → render log ≡ s → read R s ≡ accepted log
  unfolding by_line
  read_as r e =
      let text : s ≡ ended (lines_of log) = sym e ∙ render_law log in
      let few : length s ≤ R.longest_log = rw (← e) r.short in
      let b : ltb R.longest_log (length s) ≡ false = fails (ltb R.longest_log (length s)) (λ t. let h : R.longest_log < length s = leb-true (suc R.longest_log) (length s) t in omega arith) in
      read_law R s
      ∙ ap (λ (c : Bool). cond c (refused (refusal 1 0 0)) (by_line R (lines R s))) b
      ∙ ap (by_line R) (ap (lines R) text ∙ lines_of_ended R (lines_of log) r.line_rules)
      ∙ log_leads R 1 log r.spellings r.rules_of_arguments r.remark_rules r.fits r.rules

  pub accepted_when_written : (read R s ≡ accepted log) ↔ IsWrittenAs R s log
  accepted_when_written = (
    λ e. let p = read_is e in (holds (valid_of R log p.0), p.1),
    λ w. read_as (of_valid R log (so (valid R log) w.0)) w.1,
  )

pub accepted_format : (R : Rules) → AcceptedExactlyWhenFormat R
accepted_format R s = (
  λ p. (p.0, (accepted_when_written R s p.0).0 p.1),
  λ p. (p.0, (accepted_when_written R s p.0).1 p.1),
)
