-- Where reading stops: a text that is short enough is refused at the line behind the lines that are taken, by a line that is there or by what
-- is left where none is.
-- Assumes nothing.
use Prim.Native.Nat.{ℕ, zero, suc, ◌+◌, ◌≤◌}
use mathlib.Core.Path.{◌≡◌, refl, sym, ap, ◌∙◌}
use mathlib.Core.Bool.{Bool, true, cond}
use mathlib.Core.List.{List, [], ◌∷◌, ◌++◌, append_assoc}
use lib.Dec.{T}
use lib.ListN.{length}
use native.Mathlib.Omega.{arith}
use borrow.Author.Tests.{le-ltb}
use Rattle.std.specs.Prelude.{Result, Ok, Err}
use Rattle.rules.specs.declared.Fault.{Fault}
use Rattle.rules.specs.declared.Refusal.{Refusal}
use Rattle.rules.specs.declared.Due.{Due}
use Rattle.rules.specs.declared.Due.TheVariants.{Identifier, Keyword, Remarks, Remark, Record, End}
use Rattle.rules.specs.Text.{Text}
use Rattle.rules.specs.Rules.{Rules}
use Rattle.rules.specs.Arguments.{every}
use Rattle.rules.specs.Log.{Log, crlf, ended, line_rule}
use Rattle.rules.specs.Reading.{Lines, FirstLine, a_line, no_line, first_line, on_first_line, lines_within, lines, step, Reading, accepted, refused, refusal, at_rest, put, on_next, walk, read, fault}
use Rattle.rules.specs.Given.{ComesTo, AtLine, NoLine}
use Rattle.rules.proofs.Tests.{so, holds, and_l, and_r}
use Rattle.rules.proofs.LineLaws.{first_of_none, first_front, first_is, first_shorter, lines_law, lines_are_lem}
use Rattle.rules.proofs.LogLaws.{every_front, every_back, every_first}
use Rattle.rules.proofs.Format.{by_line, read_law}
use Rattle.rules.proofs.GivenLines.{Steps, none, more, front_steps, steps_front}

-- # Lines and what is left behind them

a_line_is_none : {A : Type 0} {l rest : Text} → a_line l rest ≡ no_line → A
a_line_is_none e = let z : ◌≡◌ {A = ℕ} 0 1 = cc in absurd (omega arith)

module _ (R : Rules) where
  pub none_first : (rest : Text) → NoLine R rest → first_line R rest ≡ no_line
  none_first rest h = by (first_line R rest) refl
    where
      by : (f : FirstLine) → first_line R rest ≡ f → f ≡ no_line
      by no_line e = refl
      by (a_line l after) e = let i = first_is R rest l after e in absurd (h l after (holds i.rule) i.text)

  pub first_none : (rest : Text) → first_line R rest ≡ no_line → NoLine R rest
  first_none rest e l after h t = a_line_is_none (sym (first_front R l after (so (line_rule R l) h)) ∙ ap (first_line R) (sym t) ∙ e)

  rest_within : (n : ℕ) (s : Text) → length s ≤ n → first_line R (lines_within R n s).rest ≡ no_line
  unfolding lines_within on_first_line
  rest_within zero [] h = first_of_none R
  rest_within zero (c ∷ s) h = absurd (omega arith)
  rest_within (suc n) s h = on (λ rest i. rest_within n rest i) (first_line R s) refl
    where
      on : ((rest : Text) → length rest ≤ n → first_line R (lines_within R n rest).rest ≡ no_line) → (f : FirstLine) → first_line R s ≡ f → first_line R (on_first_line (lines_within R n) s f).rest ≡ no_line
      on deeper no_line e = e
      on deeper (a_line l rest) e = deeper rest (omega (arith, first_shorter R s l rest e))

  rest_is_none : (s : Text) → NoLine R (lines R s).rest
  unfolding lines
  rest_is_none s = first_none (lines R s).rest (rest_within (length s) s (omega arith))

  -- The lines of a text with lines put in front.
  line_behind_lem : (l rest : Text) → line_rule R l ≡ true → lines R (l ++ crlf ++ rest) ≡ record { whole = l ∷ (lines R rest).whole; rest = (lines R rest).rest }
  unfolding on_first_line
  line_behind_lem l rest e = lines_law R (l ++ crlf ++ rest) ∙ ap (on_first_line (lines R) (l ++ crlf ++ rest)) (first_front R l rest e)

  lines_behind_lem : (ls : List Text) (rest : Text) → every (line_rule R) ls ≡ true → lines R (ended ls ++ rest) ≡ record { whole = ls ++ (lines R rest).whole; rest = (lines R rest).rest }
  unfolding ended every
  lines_behind_lem [] rest e = refl
  lines_behind_lem (l ∷ ls) rest e =
      ap (lines R) (append_assoc (l ++ crlf) (ended ls) rest)
      ∙ line_behind_lem l (ended ls ++ rest) (and_l (line_rule R l) (every (line_rule R) ls) e)
      ∙ ap (λ (x : Lines). record { whole = l ∷ x.whole; rest = x.rest }) (lines_behind_lem ls rest (and_r (line_rule R l) (every (line_rule R) ls) e))

  none_behind : (rest : Text) → NoLine R rest → lines R rest ≡ record { whole = []; rest = rest }
  unfolding on_first_line
  none_behind rest h = lines_law R rest ∙ ap (on_first_line (lines R) rest) (none_first rest h)

ended_append : (a b : List Text) → ended (a ++ b) ≡ ended a ++ ended b
unfolding ended
ended_append [] b = refl
ended_append (l ∷ a) b = ap (λ (t : Text). l ++ crlf ++ t) (ended_append a b) ∙ sym (append_assoc (l ++ crlf) (ended a) (ended b))

-- # The walk

-- The walk stops here, at the line of this number: at the first of these lines, or with none of them left.
abbrev HaltsAt : Rules → Due → ℕ → List Text → Text → Refusal → Type 0
HaltsAt R due n [] rest r = at_rest due n rest ≡ refused r
HaltsAt R due n (l ∷ ls) rest r = (number : ℕ) × (field : ℕ) × (step R due l ≡ Err (fault number field)) × (refusal number n field ≡ r)

record Halts (R : Rules) (due : Due) (n : ℕ) (ls : List Text) (rest : Text) (r : Refusal) : Type 0 where
  before : List Text
  behind : List Text
  last : Due
  line : ℕ
  the_lines : ls ≡ before ++ behind
  steps : Steps R due before last
  number : line ≡ n + length before
  halts : HaltsAt R last line behind rest r

pub no_refusal_lem : {A : Type 0} {r : Refusal} {log : Log} → accepted log ≡ refused r → A
no_refusal_lem e = let z : ◌≡◌ {A = ℕ} 0 1 = cc in absurd (omega arith)

pub same_refusal : {r q : Refusal} → refused r ≡ refused q → r ≡ q
same_refusal e = cc

module _ (R : Rules) where
  one_further : {due next : Due} {n : ℕ} {l : Text} {ls : List Text} {rest : Text} {r : Refusal} → step R due l ≡ Ok next → Halts R next (n + 1) ls rest r → Halts R due n (l ∷ ls) rest r
  one_further {l = l} e h =
      record {
        before = l ∷ h.before;
        behind = h.behind;
        last = h.last;
        line = h.line;
        the_lines = ap {B = List Text} (λ ls. l ∷ ls) h.the_lines;
        steps = more e h.steps;
        number = omega (arith, h.number);
        halts = h.halts;
      }

  walk_halts : (due : Due) (n : ℕ) (ls : List Text) (rest : Text) (r : Refusal) → walk R due n ls rest ≡ refused r → Halts R due n ls rest r
  unfolding walk on_next put
  walk_halts due n [] rest r e =
      record {
        before = [];
        behind = [];
        last = due;
        line = n;
        the_lines = refl;
        steps = none;
        number = omega arith;
        halts = e;
      }
  walk_halts due n (l ∷ ls) rest r e = on (λ next g. walk_halts next (n + 1) ls rest r g) (step R due l) refl e
    where
      went : (a : Reading) → put due l a ≡ refused r → a ≡ refused r
      went (accepted log) g = no_refusal_lem g
      went (refused x) g = g

      on : ((next : Due) → walk R next (n + 1) ls rest ≡ refused r → Halts R next (n + 1) ls rest r) → (m : Result Due Fault) → step R due l ≡ m → on_next (λ next. walk R next (n + 1) ls rest) n due l m ≡ refused r → Halts R due n (l ∷ ls) rest r
      on deeper (Ok next) s g = one_further s (deeper next (went (walk R next (n + 1) ls rest) g))
      on deeper (Err f) s g =
          record {
            before = [];
            behind = l ∷ ls;
            last = due;
            line = n;
            the_lines = refl;
            steps = none;
            number = omega arith;
            halts = (f.number, f.field, s, cc);
          }

  -- Lines that are taken lead to what the lines behind them are refused with.
  steps_refused : {due last : Due} {ls : List Text} (n k : ℕ) (ms : List Text) (rest : Text) (r : Refusal) → Steps R due ls last → k ≡ n + length ls → walk R last k ms rest ≡ refused r → walk R due n (ls ++ ms) rest ≡ refused r
  unfolding walk on_next put
  steps_refused {due} n k ms rest r none h e = let same : n ≡ k = omega arith in rw same e
  steps_refused n k ms rest r (more {due = due} {l = l} {ls = ls} g s) h e =
      ap (λ (m : Result Due Fault). on_next (λ next. walk R next (n + 1) (ls ++ ms) rest) n due l m) g
      ∙ ap (put due l) (steps_refused (n + 1) k ms rest r s (omega arith) e)

-- # Where reading stops

-- What is left of a text stops reading, with this number and field: a line that is there, or no line.
pub data Stopped (R : Rules) (n number field : ℕ) (due : Due) (rest : Text) : Type 0 where
  by_aLine : (l after : Text) → rest ≡ l ++ crlf ++ after → T (line_rule R l) → step R due l ≡ Err (fault number field) → Stopped R n number field due rest
  by_the_rest : NoLine R rest → at_rest due n rest ≡ refused (refusal number n field) → Stopped R n number field due rest

-- What is told of the rest is told with the number of its line.
rest_line : (due : Due) (n : ℕ) (rest : Text) (r : Refusal) → at_rest due n rest ≡ refused r → r.line ≡ n
unfolding at_rest
rest_line Identifier n rest r e = cc
rest_line (Keyword k) n rest r e = cc
rest_line Remarks n rest r e = cc
rest_line Remark n rest r e = cc
rest_line (Record m) n [] r e = cc
rest_line (Record m) n (c ∷ rest) r e = cc
rest_line End n [] r e = no_refusal_lem e
rest_line End n (c ∷ rest) r e = cc

module _ (R : Rules) (s : Text) (number n field : ℕ) where
  abbrev told : Refusal
  told = refusal number n field

  -- A text that is short enough is read line by line.
  read_short : length s ≤ R.longest_log → read R s ≡ by_line R (lines R s)
  read_short h = read_law R s ∙ ap (λ (b : Bool). cond b (refused (refusal 1 0 0)) (by_line R (lines R s))) (le-ltb R.longest_log (length s) h)

  came_to_lem : length s ≤ R.longest_log → Halts R Identifier 1 (lines R s).whole (lines R s).rest told → AtLine R s n (Stopped R n number field)
  came_to_lem short h = by h.behind h.the_lines h.halts
    where
      left : Text
      left = (lines R s).rest

      rules : (behind : List Text) → (lines R s).whole ≡ h.before ++ behind → every (line_rule R) (h.before ++ behind) ≡ true
      rules behind e = rw e at (lines_are_lem R s).rules

      text : (behind : List Text) → (lines R s).whole ≡ h.before ++ behind → s ≡ ended h.before ++ (ended behind ++ left)
      text behind e =
          (lines_are_lem R s).text
          ∙ ap (λ (ls : List Text). ended ls ++ left) e
          ∙ ap (λ (t : Text). t ++ left) (ended_append h.before behind)
          ∙ append_assoc (ended h.before) (ended behind) left

      comes : (behind : List Text) (rest : Text) → (lines R s).whole ≡ h.before ++ behind → ended behind ++ left ≡ rest → h.line ≡ n → ComesTo R s n h.last rest
      comes behind rest e t k =
          record {
            short = short;
            before = h.before;
            text = text behind e ∙ ap (λ (r : Text). ended h.before ++ r) t;
            line_rules = holds (every_front (line_rule R) h.before behind (rules behind e));
            front = steps_front R h.steps;
            number = omega (arith, h.number);
          }

      by : (behind : List Text) → (lines R s).whole ≡ h.before ++ behind → HaltsAt R h.last h.line behind left told → AtLine R s n (Stopped R n number field)
      by [] e g =
          let k : h.line ≡ n = sym (rest_line h.last h.line left told g) in
          (h.last, left, comes [] left e (unfold ended in refl) k, by_the_rest (rest_is_none R s) (rw k at g))
      by (l ∷ ls) e g =
          let (number', field', stops, same) = g in
          let k : h.line ≡ n = ap (λ (r : Refusal). r.line) same in
          let told_so : Err (fault number' field') ≡ Err (fault number field) = ap (λ (r : Refusal). Err (fault r.number r.field)) same in
          let after = ended ls ++ left in
          let t : ended (l ∷ ls) ++ left ≡ l ++ crlf ++ after = unfold ended in append_assoc (l ++ crlf) (ended ls) left in
          let rule = every_first (line_rule R) l ls (every_back (line_rule R) h.before (l ∷ ls) (rules (l ∷ ls) e)) in
          (h.last, l ++ crlf ++ after, comes (l ∷ ls) (l ++ crlf ++ after) e t k, by_aLine l after refl (holds rule) (stops ∙ told_so))

  -- A refusal of a text that is short enough is given at a line.
  pub refused_at : length s ≤ R.longest_log → read R s ≡ refused told → AtLine R s n (Stopped R n number field)
  unfolding by_line
  refused_at short e =
      came_to_lem short (walk_halts R Identifier 1 (lines R s).whole (lines R s).rest told (sym (read_short short) ∙ e))

  -- What is left is refused, and so is the text.
  rest_refused : (due : Due) (rest : Text) → Stopped R n number field due rest → walk R due n (lines R rest).whole (lines R rest).rest ≡ refused told
  unfolding walk on_next
  rest_refused due rest (by_aLine l after t rule stops) =
      ap (λ (x : Lines). walk R due n x.whole x.rest) (ap (lines R) t ∙ line_behind_lem R l after (so (line_rule R l) rule))
      ∙ ap (λ (m : Result Due Fault). on_next (λ next. walk R next (n + 1) (lines R after).whole (lines R after).rest) n due l m) stops
  rest_refused due rest (by_the_rest h e) = ap (λ (x : Lines). walk R due n x.whole x.rest) (none_behind R rest h) ∙ e

  pub at_refused : AtLine R s n (Stopped R n number field) → read R s ≡ refused told
  unfolding by_line
  at_refused p =
      let (due, rest, c, stopped) = p in
      read_short c.short
      ∙ ap (by_line R) (ap (lines R) c.text ∙ lines_behind_lem R c.before rest (so (every (line_rule R) c.before) c.line_rules))
      ∙ steps_refused R 1 n (lines R rest).whole (lines R rest).rest told (front_steps R c.front) (omega (arith, c.number)) (rest_refused due rest stopped)
