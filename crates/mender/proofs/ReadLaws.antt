-- Laws of reading mended lines: what reading the text of them tells is what is told line by line.
-- Assumes nothing.
use Prim.Native.Nat.{ℕ, suc, ◌+◌}
use mathlib.Core.Path.{◌≡◌, refl, sym, ap, ◌∙◌}
use mathlib.Core.Logic.{⊎_elim}
use mathlib.Core.Bool.{Bool, true, false, cond, ◌&&◌, and-false, and-true}
use mathlib.Core.List.{List, [], ◌∷◌, ◌++◌, append_assoc}
use lib.Dec.{eqb, leb, ltb}
use lib.ListN.{length, drop}
use borrow.Author.Tests.{not-true, ne_eqb, eqb-false}
use Rattle.std.specs.Prelude.{Result, Ok, Err}
use Rattle.rules.specs.declared.Fault.{Fault}
use Rattle.rules.specs.declared.Due.{Due}
use Rattle.rules.specs.declared.Due.TheVariants.{Identifier, Keyword, Remarks, Remark, Record, End}
use Rattle.rules.specs.Text.{Text, all, allowed, begins, span}
use Rattle.rules.specs.Rules.{Rules}
use Rattle.rules.specs.Arguments.{every}
use Rattle.rules.specs.Log.{crlf, ended, line_rule}
use Rattle.rules.specs.Reading.{Reading, refused, refusal, no_line, first_line, on_first_line, Lines, lines, step, at_rest, put, on_next, walk, read}
use Rattle.rules.specs.Mending.{texts_of, mended_lines, mended_text}
use Rattle.rules.proofs.LineLaws.{first_front, first_of_none, lines_law}
use Rattle.rules.proofs.MendingLaws.{no_lf, mended_clean, texts_mended}
use Rattle.rules.proofs.Tests.{and_l, and_r, either, never}
use Rattle.rules.proofs.TextLaws.{span_run}
use Rattle.mender.specs.Checking.{no_line_due, line_next, walk_lines}

-- # No line

-- Behind the allowed characters of a text that holds another, and no LF, CR LF do not stand.
no_end : (l rest : Text) → all no_lf l ≡ true → all allowed l ≡ false → begins crlf (drop (span allowed (l ++ 13 ∷ 10 ∷ rest)) (l ++ 13 ∷ 10 ∷ rest)) ≡ false
unfolding all span begins crlf
no_end [] rest e g = never (sym g)
no_end (c ∷ l) rest e g = by (allowed c) refl (λ h. no_end l rest (and_r (no_lf c) (all no_lf l) e) h)
  where
    second : (l : Text) → all no_lf l ≡ true → begins (10 ∷ []) (l ++ 13 ∷ 10 ∷ rest) ≡ false
    second [] f = refl
    second (d ∷ l) f = rw (ne_eqb 10 d (λ z. eqb-false d 10 (not-true (eqb d 10) (and_l (no_lf d) (all no_lf l) f)) (sym z)))

    by : (b : Bool) → allowed c ≡ b → (all allowed l ≡ false → begins crlf (drop (span allowed (l ++ 13 ∷ 10 ∷ rest)) (l ++ 13 ∷ 10 ∷ rest)) ≡ false) → begins crlf (drop (cond b (suc (span allowed (l ++ 13 ∷ 10 ∷ rest))) 0) (c ∷ l ++ 13 ∷ 10 ∷ rest)) ≡ false
    by true t more = more (sym (ap (λ (b : Bool). b && all allowed l) t) ∙ g)
    by false t more = rw (second l (and_r (no_lf c) (all no_lf l) e)) (and-false (eqb 13 c))

module _ (R : Rules) where
  -- What a run of allowed characters at the front decides.
  no_first : (s : Text) (n : ℕ) → span allowed s ≡ n → (leb n R.longest_line && begins crlf (drop n s)) ≡ false → first_line R s ≡ no_line
  unfolding first_line
  no_first s n e g = rw (e, g)

  -- A text that breaks the rule of lines is no line, with CR LF behind it.
  first_none : (l rest : Text) → all no_lf l ≡ true → line_rule R l ≡ false → first_line R (l ++ crlf ++ rest) ≡ no_line
  unfolding line_rule crlf
  first_none l rest e g = ap (first_line R) (append_assoc l crlf rest) ∙ by (all allowed l) refl
    where
      by : (b : Bool) → all allowed l ≡ b → first_line R (l ++ 13 ∷ 10 ∷ rest) ≡ no_line
      by true t =
          let long : leb (length l) R.longest_line ≡ false = sym (and-true (leb (length l) R.longest_line)) ∙ ap (λ (b : Bool). leb (length l) R.longest_line && b) (sym t) ∙ g in
          no_first (l ++ 13 ∷ 10 ∷ rest) (length l) (span_run allowed l 13 (10 ∷ rest) t refl)
          (ap (λ (b : Bool). b && begins crlf (drop (length l) (l ++ 13 ∷ 10 ∷ rest))) long)
      by false t =
          let n = span allowed (l ++ 13 ∷ 10 ∷ rest) in
          no_first (l ++ 13 ∷ 10 ∷ rest) n refl
          (ap (λ (b : Bool). leb n R.longest_line && b) (no_end l rest e t) ∙ and-false (leb n R.longest_line))

  -- # Line by line

  -- Where something is left that is no line, that is told.
  at_no_line : (due : Due) (n c : ℕ) (s : Text) (more : Due → Reading) (l : Text) → at_rest due n (c ∷ s) ≡ on_next more n due l (Err (no_line_due due))
  unfolding at_rest on_next no_line_due
  at_no_line Identifier n c s more l = refl
  at_no_line (Keyword k) n c s more l = refl
  at_no_line Remarks n c s more l = refl
  at_no_line Remark n c s more l = refl
  at_no_line (Record m) n c s more l = refl
  at_no_line End n c s more l = refl

  at_some : (due : Due) (n : ℕ) (l rest : Text) (more : Due → Reading) → at_rest due n (l ++ crlf ++ rest) ≡ on_next more n due l (Err (no_line_due due))
  unfolding crlf
  at_some due n [] rest more = at_no_line due n 13 (10 ∷ rest) more []
  at_some due n (c ∷ l) rest more = at_no_line due n c ((l ++ crlf) ++ rest) more (c ∷ l)

  -- What goes on alike is told alike.
  on_alike : (more other : Due → Reading) → ((d : Due) → more d ≡ other d) → (n : ℕ) (due : Due) (l : Text) (m : Result Due Fault) → on_next more n due l m ≡ on_next other n due l m
  unfolding on_next
  on_alike more other h n due l (Ok next) = ap (put due l) (h next)
  on_alike more other h n due l (Err e) = refl

  -- The lines of a text that are found, and what is left of it.
  abbrev walked : Due → ℕ → Lines → Reading
  walked due n ls = walk R due n ls.whole ls.rest

  lines_none : lines R [] ≡ record { whole = []; rest = [] }
  unfolding on_first_line
  lines_none = lines_law R [] ∙ ap (on_first_line (lines R) []) (first_of_none R)

  lines_more : (l rest : Text) → line_rule R l ≡ true → lines R (l ++ crlf ++ rest) ≡ record { whole = l ∷ (lines R rest).whole; rest = (lines R rest).rest }
  unfolding on_first_line
  lines_more l rest t =
      lines_law R (l ++ crlf ++ rest) ∙ ap (on_first_line (lines R) (l ++ crlf ++ rest)) (first_front R l rest t)

  lines_end : (l rest : Text) → all no_lf l ≡ true → line_rule R l ≡ false → lines R (l ++ crlf ++ rest) ≡ record { whole = []; rest = l ++ crlf ++ rest }
  unfolding on_first_line
  lines_end l rest e t =
      lines_law R (l ++ crlf ++ rest) ∙ ap (on_first_line (lines R) (l ++ crlf ++ rest)) (first_none l rest e t)

  -- Of a line that keeps the rule of lines, and of one that does not, with what is told of those behind it.
  module _ (due : Due) (n : ℕ) (l : Text) (ls : List Text) (more : (d : Due) → walked d (n + 1) (lines R (ended ls)) ≡ walk_lines R d (n + 1) ls) where
    told_line_lem : line_rule R l ≡ true → walked due n (lines R (l ++ crlf ++ ended ls)) ≡ walk_lines R due n (l ∷ ls)
    unfolding walk walk_lines line_next
    told_line_lem t =
        ap (walked due n) (lines_more l (ended ls) t)
        ∙ on_alike (λ d. walked d (n + 1) (lines R (ended ls))) (λ d. walk_lines R d (n + 1) ls) more n due l (step R due l)
        ∙ ap (λ (b : Bool). on_next (λ d. walk_lines R d (n + 1) ls) n due l (cond b (step R due l) (Err (no_line_due due)))) (sym t)

    told_none : all no_lf l ≡ true → line_rule R l ≡ false → walked due n (lines R (l ++ crlf ++ ended ls)) ≡ walk_lines R due n (l ∷ ls)
    unfolding walk walk_lines line_next
    told_none e t =
        ap (walked due n) (lines_end l (ended ls) e t)
        ∙ at_some due n l (ended ls) (λ d. walk_lines R d (n + 1) ls)
        ∙ ap (λ (b : Bool). on_next (λ d. walk_lines R d (n + 1) ls) n due l (cond b (step R due l) (Err (no_line_due due)))) (sym t)

  pub walk_by_lines : (ls : List Text) (due : Due) (n : ℕ) → every (all no_lf) ls ≡ true → walked due n (lines R (ended ls)) ≡ walk_lines R due n ls
  unfolding ended every walk walk_lines
  walk_by_lines [] due n e = ap (walked due n) lines_none
  walk_by_lines (l ∷ ls) due n e =
      ⊎_elim
      (λ t. told_line_lem due n l ls (λ d. walk_by_lines ls d (n + 1) (and_r (all no_lf l) (every (all no_lf) ls) e)) t)
      (λ t. told_none due n l ls (λ d. walk_by_lines ls d (n + 1) (and_r (all no_lf l) (every (all no_lf) ls) e)) (and_l (all no_lf l) (every (all no_lf) ls) e) t)
      (either (line_rule R l))

  -- A mended text, by its lines.
  pub read_mended : (s : Text) → read R (mended_text s) ≡ cond (ltb R.longest_log (length (mended_text s))) (refused (refusal 1 0 0)) (walk_lines R Identifier 1 (texts_of (mended_lines s)))
  unfolding read mended_text
  read_mended s =
      let clean : every (all no_lf) (texts_of (mended_lines s)) ≡ true = ap (every (all no_lf)) (texts_mended s) ∙ mended_clean s in
      ap (cond (ltb R.longest_log (length (ended (texts_of (mended_lines s))))) (refused (refusal 1 0 0))) (walk_by_lines (texts_of (mended_lines s)) Identifier 1 clean)
