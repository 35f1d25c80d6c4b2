-- A valid log whose keywords are spelt otherwise, but for nothing more than the case of their letters, is valid, is judged alike and is written
-- back alike; and how many are spelt otherwise is told rightly.
-- Assumes nothing.
use Prim.Native.Nat.{ℕ, zero, suc, ◌+◌, ◌-◌, ◌≤◌, ◌<◌}
use native.Mathlib.Omega.{arith}
use mathlib.Core.Path.{◌≡◌, refl, sym, ap, ap₂, ◌∙◌}
use mathlib.Core.Bool.{Bool, true, false, cond, not, ◌&&◌}
use mathlib.Core.List.{List, [], ◌∷◌, ◌++◌, map}
use lib.Dec.{leb}
use lib.ListN.{length, drop, get_or, length-append}
use lib.Seq.{drop-cons}
use borrow.Author.Tests.{leb-true, le-leb}
use Rattle.rules.specs.Text.{Text, bytes, all, allowed, capital, lower, same, same_but_case}
use Rattle.rules.specs.Rules.{Rules}
use Rattle.rules.specs.Arguments.{Entry, entries, anything, every}
use Rattle.rules.specs.Log.{Log, argument, identifier, keyword_start, keyword_lines, keywords_of, respelt, lines_of, ended, render, line_rule, keyword_rules, valid}
use Rattle.rules.specs.Judging.{declared, verdicts_of_log, totals_of_log}
use Rattle.rules.specs.Writing.{written_back}
use Rattle.rules.specs.Reading.{accepted, read}
use Rattle.rules.specs.Answers.{respelt_of_reading, view, view_of_reading, is_listed, listed_of_view}
use Rattle.rules.specs.Demands.{spelt, EitherCaseIsTakenAlike, sum_over, how_many, spelled_as_listed, SpellingsAreCounted}
use Rattle.rules.proofs.Tests.{so, holds, never, and_l, and_r, and_i}
use Rattle.rules.proofs.TextLaws.{all_split, same_eq}
use Rattle.rules.proofs.SpellingLaws.{case_length, length_start, keyword_in_table, spelling_count, none_respelt, respelt_none, respelt_most}
use Rattle.rules.proofs.LogLaws.{every_split, length_ended_more, length_ended_append, behind_keywords, lines_opened}
use Rattle.rules.proofs.Format.{Rightly, valid_of, of_valid, render_law, accepted_when_written}

-- # A spelling is as long as any other, and has as many allowed characters

lower_allowed : (c : ℕ) → allowed (lower c) ≡ allowed c
lower_allowed c = by (capital c) refl
  where
    by : (b : Bool) → capital c ≡ b → allowed (cond b (c + 32) c) ≡ allowed c
    by true e =
        let low : 65 ≤ c = leb-true 65 c (and_l (leb 65 c) (leb c 90) e) in
        let high : c ≤ 90 = leb-true c 90 (and_r (leb 65 c) (leb c 90) e) in
        and_i (le-leb 32 (c + 32) (omega arith)) (le-leb (c + 32) 127 (omega arith))
        ∙ sym (and_i (le-leb 32 c (omega arith)) (le-leb c 127 (omega arith)))
    by false e = refl

all_lower : (s : Text) → all allowed (map lower s) ≡ all allowed s
unfolding all
all_lower [] = refl
all_lower (c ∷ s) = rw (lower_allowed c, all_lower s)

case_allowed : (s t : Text) → same_but_case s t ≡ true → all allowed s ≡ all allowed t
unfolding same_but_case
case_allowed s t e = sym (all_lower s) ∙ ap (all allowed) (same_eq (map lower s) (map lower t) e) ∙ all_lower t

-- Two spellings of a keyword, in front of the same argument.
module _ (e : Entry) (v w t : Text) (a : same_but_case e.keyword v ≡ true) (b : same_but_case e.keyword w ≡ true) where
  line_as_long : length (keyword_start v ++ t) ≡ length (keyword_start w ++ t)
  line_as_long =
      length-append (keyword_start v) t
      ∙ omega (arith, length_start v, length_start w, case_length e.keyword v a, case_length e.keyword w b)
      ∙ sym (length-append (keyword_start w) t)

  line_allowed : all allowed (keyword_start v ++ t) ≡ all allowed (keyword_start w ++ t)
  unfolding keyword_start
  line_allowed =
      let alike : all allowed v ≡ all allowed w = sym (case_allowed e.keyword v a) ∙ case_allowed e.keyword w b in
      rw (all_split allowed (v ++ bytes "=") t, all_split allowed v (bytes "="), all_split allowed (w ++ bytes "=") t, all_split allowed w (bytes "="), alike)

  line_alike : (R : Rules) → line_rule R (keyword_start v ++ t) ≡ line_rule R (keyword_start w ++ t)
  unfolding line_rule
  line_alike R = ap₂ (λ (n : ℕ) (c : Bool). leb n R.longest_line && c) line_as_long line_allowed

lines_alike : (R : Rules) (es : List Entry) (vs ws ts : List Text) →
    keyword_rules es vs ≡ true →
    keyword_rules es ws ≡ true →
    (every (line_rule R) (keyword_lines vs ts) ≡ every (line_rule R) (keyword_lines ws ts))
    × (length (ended (keyword_lines vs ts)) ≡ length (ended (keyword_lines ws ts)))
unfolding keyword_rules keyword_lines every
lines_alike R [] [] [] ts a b = (refl, refl)
lines_alike R [] [] (w ∷ ws) ts a b = never b
lines_alike R [] (v ∷ vs) ws ts a b = never a
lines_alike R (e ∷ es) [] ws ts a b = never a
lines_alike R (e ∷ es) (v ∷ vs) [] ts a b = never b
lines_alike R (e ∷ es) (v ∷ vs) (w ∷ ws) [] a b = (refl, refl)
lines_alike R (e ∷ es) (v ∷ vs) (w ∷ ws) (t ∷ ts) a b =
    let x = and_l (same_but_case e.keyword v) (keyword_rules es vs) a in
    let y = and_l (same_but_case e.keyword w) (keyword_rules es ws) b in
    let more = lines_alike R es vs ws ts (and_r (same_but_case e.keyword v) (keyword_rules es vs) a) (and_r (same_but_case e.keyword w) (keyword_rules es ws) b) in (
      ap₂ (λ (c d : Bool). c && d) (line_alike e v w t x y R) more.0,
      length_ended_more (keyword_start v ++ t) (keyword_lines vs ts)
          ∙ omega (arith, line_as_long e v w t x y, more.1)
          ∙ sym (length_ended_more (keyword_start w ++ t) (keyword_lines ws ts)),
    )

-- # The log

module _ (R : Rules) (log : Log) (ws : List Text) where
  module _ (a : keyword_rules entries log.keywords ≡ true) (b : keyword_rules entries ws ≡ true) where
    alike : (every (line_rule R) (keyword_lines ws log.arguments) ≡ every (line_rule R) (keyword_lines log.keywords log.arguments)) × (length (ended (keyword_lines ws log.arguments)) ≡ length (ended (keyword_lines log.keywords log.arguments)))
    alike = lines_alike R entries ws log.keywords log.arguments b a

    rules_alike : every (line_rule R) (lines_of (spelt ws log)) ≡ every (line_rule R) (lines_of log)
    unfolding every
    rules_alike =
        rw (lines_opened log, lines_opened (spelt ws log), every_split (line_rule R) (keyword_lines ws log.arguments) (behind_keywords log), every_split (line_rule R) (keyword_lines log.keywords log.arguments) (behind_keywords log), alike.0)

    pub spelt_as_long : length (render (spelt ws log)) ≡ length (render log)
    spelt_as_long =
        ap length (render_law (spelt ws log) ∙ ap ended (lines_opened (spelt ws log)))
        ∙ omega (
          arith,
          length_ended_more identifier (keyword_lines ws log.arguments ++ behind_keywords log),
          length_ended_more identifier (keyword_lines log.keywords log.arguments ++ behind_keywords log),
          length_ended_append (keyword_lines ws log.arguments) (behind_keywords log),
          length_ended_append (keyword_lines log.keywords log.arguments) (behind_keywords log),
          alike.1,
        )
        ∙ sym (ap length (render_law log ∙ ap ended (lines_opened log)))

  -- A log that is valid is so in any spelling that is read.
  pub spelt_rightly : Rightly R log → keyword_rules entries ws ≡ true → Rightly R (spelt ws log)
  spelt_rightly r b =
      record {
        short = rw (spelt_as_long r.spellings b) r.short;
        line_rules = rules_alike r.spellings b ∙ r.line_rules;
        spellings = b;
        rules_of_arguments = r.rules_of_arguments;
        remark_rules = r.remark_rules;
        fits = r.fits;
        rules = r.rules;
      }

  pub spelt_verdicts : verdicts_of_log R (spelt ws log) ≡ verdicts_of_log R log
  unfolding verdicts_of_log
  spelt_verdicts = refl

  pub spelt_totals : totals_of_log R (spelt ws log) ≡ totals_of_log R log
  unfolding totals_of_log declared argument
  spelt_totals = refl

  pub spelt_written : written_back R (spelt ws log) ≡ written_back R log
  unfolding written_back verdicts_of_log totals_of_log declared argument
  spelt_written = refl

pub either_case : (R : Rules) → EitherCaseIsTakenAlike R
either_case R s log ws e b =
    let v = (accepted_when_written R s log).0 e in
    let r = spelt_rightly R log ws (of_valid R log (so (valid R log) v.0)) (so (keyword_rules entries ws) b) in
    record {
      reads = (accepted_when_written R (render (spelt ws log)) (spelt ws log)).1 (holds (valid_of R (spelt ws log) r), refl);
      same_verdicts = spelt_verdicts R log ws;
      same_totals = spelt_totals R log ws;
      written_alike = spelt_written R log ws;
    }

-- # How many are respelt

same_sums : (n : ℕ) (f g : ℕ → ℕ) → ((j : ℕ) → f j ≡ g j) → sum_over n f ≡ sum_over n g
unfolding sum_over
same_sums zero f g h = refl
same_sums (suc n) f g h = ap₂ (λ (a b : ℕ). a + b) (h 0) (same_sums n (λ j. f (suc j)) (λ j. g (suc j)) (λ j. h (suc j)))

-- They are counted one by one.
one_by_one : (es : List Entry) (ws : List Text) → length ws ≡ length es → respelt es ws ≡ how_many (length es) (λ j. not (same (get_or (keywords_of es) j []) (get_or ws j [])))
unfolding respelt keywords_of sum_over
one_by_one [] [] n = refl
one_by_one [] (w ∷ ws) n = absurd (omega arith)
one_by_one (e ∷ es) [] n = absurd (omega arith)
one_by_one (e ∷ es) (w ∷ ws) n = ap₂ (λ (a b : ℕ). a + b) (by (same e.keyword w)) (one_by_one es ws (omega arith))
  where
    by : (b : Bool) → ◌≡◌ {A = ℕ} (cond b 0 1) (cond (not b) 1 0)
    by true = refl
    by false = refl

module _ (R : Rules) (s : Text) (log : Log) (e : read R s ≡ accepted log) where
  respelt_is : respelt_of_reading (read R s) ≡ respelt entries log.keywords
  unfolding respelt_of_reading
  respelt_is = rw e

  many : length log.keywords ≡ length entries
  many =
      let v = (accepted_when_written R s log).0 e in
      spelling_count entries log.keywords (of_valid R log (so (valid R log) v.0)).spellings

  -- The place before the next is this one.
  places_are : how_many 36 (λ j. not (same (get_or (keywords_of entries) j []) (get_or log.keywords j []))) ≡ how_many 36 (λ j. not (spelled_as_listed log (suc j)))
  places_are = same_sums 36 (λ j. cond (not (same (get_or (keywords_of entries) j []) (get_or log.keywords j []))) 1 0) (λ j. cond (not (spelled_as_listed log (suc j))) 1 0) (λ j. let one : j ≡ suc j - 1 = omega arith in ap (λ (i : ℕ). cond (not (same (get_or (keywords_of entries) i []) (get_or log.keywords i []))) 1 0) one)

  counted : respelt_of_reading (read R s) ≡ how_many 36 (λ j. not (spelled_as_listed log (suc j)))
  unfolding entries
  counted = respelt_is ∙ one_by_one entries log.keywords many ∙ places_are

  -- A view's own keyword.
  viewing : (k : ℕ) → 1 ≤ k → k ≤ 36 → listed_of_view (view R k s) ≡ spelled_as_listed log k
  unfolding view view_of_reading listed_of_view is_listed
  viewing k low high =
      let few : k - 1 < length entries = unfold entries in omega arith in
      let none : Entry = record { keyword = []; rule = anything } in
      let left = drop-cons entries (k - 1) none few in
      rw (le-leb 1 k low, e, left) (ap (λ (w : Text). same w (get_or log.keywords (k - 1) [])) (keyword_in_table entries (k - 1) (get_or entries (k - 1) none) (drop (suc (k - 1)) entries) left))

pub spellings_counted : (R : Rules) → SpellingsAreCounted R
spellings_counted R s log e =
    let c = respelt_is R s log e in
    record {
      counted = counted R s log e;
      none = (
        λ z. respelt_none entries log.keywords (many R s log e) (sym c ∙ z),
        λ l. c ∙ ap (respelt entries) l ∙ none_respelt entries,
      );
      few = rw c (unfold entries in respelt_most entries log.keywords);
      viewing = viewing R s log e;
    }
