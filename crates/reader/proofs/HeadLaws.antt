-- Laws of the walk over what stands in front of the records: from each place on it tells what is told of the head.
-- Assumes nothing.
use Prim.Native.Nat.{ℕ, ◌+◌, ◌-◌, ◌≤◌, ◌<◌}
use native.Mathlib.Omega.{arith}
use mathlib.Core.Path.{◌≡◌, refl, sym, ap, ap₂, ◌∙◌}
use mathlib.Core.Bool.{Bool, true, false, cond}
use mathlib.Core.List.{List, [], ◌∷◌}
use lib.Dec.{ltb}
use lib.ListN.{length, take, drop}
use borrow.Author.Tests.{le-ltb, lt-ltb, ltb-false}
use Rattle.rules.specs.declared.Fault.{Fault}
use Rattle.rules.specs.declared.Due.{Due}
use Rattle.rules.specs.declared.Refusal.{Refusal}
use Rattle.rules.specs.Text.{Text}
use Rattle.rules.specs.Rules.{Rules, base}
use Rattle.rules.specs.Reading.{Lines, lines, on_first_line, refusal, step}
use Rattle.std.specs.Prelude.{Option, None, Some, Result, Ok, Err}
use Rattle.reader.specs.declared.Head.{Head}
use Rattle.reader.specs.declared.Heading.{Heading}
use Rattle.reader.specs.declared.Stepped.{Stepped}
use Rattle.std.specs.Prelude.{Some, None, Result, Ok, Err}
use Rattle.reader.specs.Line.{line_at}
use Rattle.reader.specs.Read.{claims_by, heading_by, no_heading, respelt_by, step_of, counted_by, early, head_from, head_of}
use Rattle.reader.proofs.LineLaws.{missed, stood}
use Rattle.reader.proofs.ReadLaws.{Lie, first_lies, lines_by}
use Rattle.reader.proofs.WholeLaws.{leading, head_counts, head_further, head_of_law, head_stops}

-- A log is short enough for its places to be kept in 16 bits.
pub log_small : base.longest_log ≤ 65_535
unfolding base
log_small = omega arith

one_at_most : (b : Bool) → cond b 1 0 ≤ 1
one_at_most true = omega arith
one_at_most false = omega arith

-- What the step carries: what follows, and how many keywords are respelt, which is at most one more than before.
module _ (R : Rules) (before : ℕ) (due : Due) (line : Text) {r : Stepped} (e : r ≡ step_of R before due line) where
  pub stepped_next : step R due line ≡ r.next
  unfolding step_of
  stepped_next = ap (λ (x : Stepped). x.next) (sym e)

  counts : r.respelt ≡ before + cond (respelt_by due line) 1 0
  unfolding step_of
  counts = ap (λ (x : Stepped). x.respelt) e

  pub stepped_few : r.respelt ≤ before + 1
  stepped_few = omega (arith, counts, one_at_most (respelt_by due line))

  -- The heading behind the line, by its parts.
  pub heading_next : (claims at : ℕ) {found : ℕ} → found ≡ claims_by due claims at → heading_by due line (record { claims = claims; respelt = before }) at ≡ record { claims = found; respelt = r.respelt }
  unfolding heading_by
  heading_next claims at p = ap₂ (λ (c n : ℕ). record { claims = c; respelt = n }) (sym p) (sym counts)

-- What is told from a place on.
abbrev pub head_at : Rules → Text → Due → ℕ → ℕ → Heading → Result Head Refusal
head_at R s due n at heading = head_from R due n at heading (lines R (drop at s)).whole

module _ (R : Rules) (s : Text) where
  pub head_starts : length s ≤ R.longest_log → head_of R s ≡ head_at R s Due.Identifier 1 0 no_heading
  head_starts h =
      head_of_law R s
      ∙ ap (λ (b : Bool). cond b (Err (refusal 1 0 0)) (head_from R Due.Identifier 1 0 no_heading (lines R s).whole)) (le-ltb R.longest_log (length s) h)

  pub head_too_long : R.longest_log < length s → Err (refusal 1 0 0) ≡ head_of R s
  head_too_long h =
      sym
      (head_of_law R s
      ∙ ap (λ (b : Bool). cond b (Err (refusal 1 0 0)) (head_from R Due.Identifier 1 0 no_heading (lines R s).whole)) (lt-ltb R.longest_log (length s) h))

  module _ (due : Due) (n at : ℕ) (heading : Heading) where
    pub head_missing : line_at R s at ≡ None → head_at R s due n at heading ≡ Err (refusal 2 n 0)
    unfolding head_from on_first_line
    head_missing q = ap (λ (ls : Lines). head_from R due n at heading ls.whole) (lines_by R s at (missed R s at q))

    module _ {end : ℕ} (q : line_at R s at ≡ Some end) where
      abbrev line : Text
      line = take (end - at) (drop at s)

      abbrev later : List Text
      later = (lines R (drop (end + 2) s)).whole

      by_line_lem : head_at R s due n at heading ≡ head_from R due n at heading (line ∷ later)
      unfolding on_first_line
      by_line_lem = ap (λ (ls : Lines). head_from R due n at heading ls.whole) (lines_by R s at (stood R s at q).line)

      past : at + length line + 2 ≡ end + 2
      past = let p = stood R s at q in omega (arith, p.long, p.behind)

      pub head_refuses : {f : Fault} → step R due line ≡ Err f → head_at R s due n at heading ≡ Err (refusal f.number n f.field)
      head_refuses e = by_line_lem ∙ head_stops R due n at heading line later e

      pub head_ends : {next : Due} {records : ℕ} → step R due line ≡ Ok next → counted_by next ≡ Some records → head_at R s due n at heading ≡ leading records (end + 2) heading (n + 1)
      head_ends {next} {records} e c =
          by_line_lem
          ∙ head_counts R due n at heading line later e c
          ∙ ap (λ (i : ℕ). leading records i heading (n + 1)) past

      pub head_goes_on : {next : Due} → step R due line ≡ Ok next → counted_by next ≡ None → head_at R s due n at heading ≡ head_at R s next (n + 1) (end + 2) (heading_by due line heading (end + 2))
      head_goes_on {next} e c =
          by_line_lem
          ∙ head_further R due n at heading line later e c
          ∙ ap (λ (i : ℕ). head_from R next (n + 1) i (heading_by due line heading i) later) past

-- Where the count is not told yet, something in front of the records is due.
pub still_early : (next : Due) → counted_by next ≡ None → early next ≡ true
unfolding counted_by
still_early Due.Identifier e = refl
still_early (Due.Keyword k) e = refl
still_early Due.Remarks e = refl
still_early Due.Remark e = refl
still_early (Due.Record n) e = let z : ◌≡◌ {A = ℕ} 0 1 = cc in absurd (omega arith)
still_early Due.End e = let z : ◌≡◌ {A = ℕ} 0 1 = cc in absurd (omega arith)

-- The first record begins within the log, and no more lines stand in front of it than bytes.
no_head : {A : Type 0} {r : Refusal} {h : Head} → Err r ≡ Ok h → A
no_head e = let z : ◌≡◌ {A = ℕ} 0 1 = cc in absurd (omega arith)

pub record Begins (s : Text) (f m : ℕ) : Type 0 where
  pub line : m ≤ f + 1
  pub within : f ≤ length s

module _ (R : Rules) (s : Text) where
  headless : (due : Due) (n at : ℕ) (heading : Heading) → Err (refusal 2 n 0) ≡ head_from R due n at heading []
  unfolding head_from
  headless due n at heading = refl

  begins_from : {t : Head} (ls : List Text) (due : Due) (n at : ℕ) (heading : Heading) (rest : Text) → Lie R s at ls rest → n ≤ at + 1 → head_from R due n at heading ls ≡ Ok t → Begins s t.first t.line
  begins_from {t} [] due n at heading rest w h e = no_head (headless due n at heading ∙ e)
  begins_from {t} (l ∷ ls) due n at heading rest w h e =
      let q = first_lies R s at w in
      by (step R due l) refl q.within (λ d i x. begins_from ls d (n + 1) (at + length l + 2) i rest (record { whole = q.whole; left = q.left }) (omega arith) x)
    where
      counted : (next : Due) (r : Option ℕ) → step R due l ≡ Ok next → counted_by next ≡ r → at + length l + 2 ≤ length s → ((d : Due) (i : Heading) → head_from R d (n + 1) (at + length l + 2) i ls ≡ Ok t → Begins s t.first t.line) → Begins s t.first t.line
      counted next (Some records) g x v more =
          let y : leading records (at + length l + 2) heading (n + 1) ≡ Ok t = sym (head_counts R due n at heading l ls g x) ∙ e in
          let same : record { records = records; first = at + length l + 2; heading = heading; line = n + 1 } ≡ t = cc in
          let place : at + length l + 2 ≡ t.first = ap (λ (h : Head). h.first) same in
          let number : n + 1 ≡ t.line = ap (λ (h : Head). h.line) same in
          record { line = omega arith; within = omega arith }
      counted next None g x v more =
          more next (heading_by due l heading (at + length l + 2)) (sym (head_further R due n at heading l ls g x) ∙ e)

      by : (x : Result Due Fault) → step R due l ≡ x → at + length l + 2 ≤ length s → ((d : Due) (i : Heading) → head_from R d (n + 1) (at + length l + 2) i ls ≡ Ok t → Begins s t.first t.line) → Begins s t.first t.line
      by (Err f) g v more = no_head (sym (head_stops R due n at heading l ls g) ∙ e)
      by (Ok next) g v more = counted next (counted_by next) g refl v more

  pub head_begins : {t : Head} → head_of R s ≡ Ok t → Begins s t.first t.line × (length s ≤ R.longest_log)
  head_begins {t} e = by (ltb R.longest_log (length s)) refl
    where
      by : (b : Bool) → ltb R.longest_log (length s) ≡ b → Begins s t.first t.line × (length s ≤ R.longest_log)
      by true b = no_head (sym (head_of_law R s ∙ ap (λ (b : Bool). cond b (Err (refusal 1 0 0)) (head_from R Due.Identifier 1 0 no_heading (lines R s).whole)) b) ∙ e)
      by false b =
          let short : length s ≤ R.longest_log = ltb-false R.longest_log (length s) b in
          (begins_from (lines R s).whole Due.Identifier 1 0 no_heading (lines R s).rest (record { whole = refl; left = refl }) (omega arith) (sym (head_starts R s short) ∙ e), short)
