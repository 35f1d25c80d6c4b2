-- The records, told one after the other where they lie, are what the walk over their lines tells.
-- Assumes nothing.
use Prim.Native.Nat.{ℕ, zero, suc, ◌+◌, ◌-◌, ◌≤◌, ◌<◌}
use native.Mathlib.Omega.{arith}
use mathlib.Core.Path.{◌≡◌, refl, sym, ap, ap₂, ◌∙◌}
use mathlib.Core.Bool.{Bool, cond}
use mathlib.Core.List.{List, [], ◌∷◌, ◌++◌, head-eq_of_cons-eq, tail-eq_of_cons-eq}
use lib.Dec.{ltb}
use lib.ListN.{length, drop, length-append, length-drop}
use lib.Seq.{drop-append-add, drop-drop}
use borrow.Author.Tests.{le-ltb, lt-ltb}
use Rattle.std.specs.Prelude.{Result, Ok, Err}
use Rattle.rules.specs.declared.Fault.{Fault}
use Rattle.rules.specs.declared.Due.{Due}
use Rattle.std.specs.Prelude.{Result, Ok, Err}
use Rattle.rules.specs.declared.Refusal.{Refusal}
use Rattle.rules.specs.Text.{Text}
use Rattle.rules.specs.Rules.{Rules}
use Rattle.rules.specs.Log.{crlf}
use Rattle.rules.specs.Reading.{FirstLine, Lines, Reading, RecordRule, a_line, accepted, after_record, at_rest, breaks, first_line, keeps, lines, no_line, on_first_line, on_next, put, record_rule, records_due, refusal, refused, step, walk, fault}
use Rattle.rules.proofs.LineLaws.{lines_law}
use Rattle.reader.specs.declared.Contact.{Contact}
use Rattle.reader.specs.declared.Heading.{Heading}
use Rattle.reader.specs.declared.Accepted.{Accepted}
use Rattle.reader.specs.Contact.{behind, contact_at}
use Rattle.reader.specs.Record.{due_at, lineless, record_at, told_by}
use Rattle.reader.specs.Read.{record_next, records_told}
use Rattle.reader.specs.Noted.{contact_next, contacts_from, noted_from, noted_line, noted_next}
use Rattle.reader.proofs.ParseLaws.{due_by, line_there, taken_end}

-- # The lines from a place on

module _ (R : Rules) (s : Text) (at : ℕ) where
  pub lines_by : {f : FirstLine} → first_line R (drop at s) ≡ f → lines R (drop at s) ≡ on_first_line (lines R) (drop at s) f
  lines_by e = lines_law R (drop at s) ∙ ap (on_first_line (lines R) (drop at s)) e

  -- These lines stand there, and behind them what is left.
  pub record Lie (ls : List Text) (rest : Text) : Type 0 where
    pub whole : (lines R (drop at s)).whole ≡ ls
    pub left : (lines R (drop at s)).rest ≡ rest

  -- The first of them, and where the next begins.
  pub record FirstLies (l : Text) (ls : List Text) (rest : Text) : Type 0 where
    pub line : first_line R (drop at s) ≡ a_line l (drop (at + length l + 2) s)
    pub whole : (lines R (drop (at + length l + 2) s)).whole ≡ ls
    pub left : (lines R (drop (at + length l + 2) s)).rest ≡ rest
    pub within : at + length l + 2 ≤ length s

  pub record NoneLies (rest : Text) : Type 0 where
    pub none : first_line R (drop at s) ≡ no_line
    pub rest_is : drop at s ≡ rest

  pub behind_line : (l r : Text) → first_line R (drop at s) ≡ a_line l r → (r ≡ drop (at + length l + 2) s) × (at + length l + 2 ≤ length s)
  unfolding crlf
  behind_line l r e =
      let text : drop at s ≡ l ++ (crlf ++ r) = line_there R s at l r e in
      let size : length (drop at s) ≡ length l + 2 + length r = omega (arith, ap length text, length-append l (crlf ++ r)) in
      let there : at + (length l + 2) ≡ at + length l + 2 = omega arith in
      let rest_is : drop (at + length l + 2) s ≡ r =
      ap (λ (i : ℕ). drop i s) (sym there)
      ∙ sym (drop-drop (length l + 2) at s)
      ∙ ap (drop (length l + 2)) text
      ∙ drop-append-add l (crlf ++ r) 2 in
      (sym rest_is, omega (arith, length-drop at s))

  none_is_one : {A : Type 0} {l : Text} {ls : List Text} → ◌≡◌ {A = List Text} [] (l ∷ ls) → A
  none_is_one e = let z : ◌≡◌ {A = ℕ} 0 (suc _) = ap length e in absurd (omega arith)

  pub first_lies : {l : Text} {ls : List Text} {rest : Text} → Lie (l ∷ ls) rest → FirstLies l ls rest
  unfolding on_first_line
  first_lies {l} {ls} {rest} h = by (first_line R (drop at s)) refl
    where
      by : (f : FirstLine) → first_line R (drop at s) ≡ f → FirstLies l ls rest
      by no_line e = none_is_one (sym (ap (λ (x : Lines). x.whole) (lines_by e)) ∙ h.whole)
      by (a_line k r) e =
          let whole : k ∷ (lines R r).whole ≡ l ∷ ls = sym (ap (λ (x : Lines). x.whole) (lines_by e)) ∙ h.whole in
          let same_line : k ≡ l = head-eq_of_cons-eq whole in
          let q = behind_line k r e in
          let there : r ≡ drop (at + length l + 2) s = q.0 ∙ ap (λ (t : Text). drop (at + length t + 2) s) same_line in
          record {
            line = e ∙ ap₂ a_line same_line there;
            whole = ap (λ (t : Text). (lines R t).whole) (sym there) ∙ tail-eq_of_cons-eq whole;
            left = ap (λ (t : Text). (lines R t).rest) (sym there) ∙ sym (ap (λ (x : Lines). x.rest) (lines_by e)) ∙ h.left;
            within = omega (arith, q.1, ap length same_line);
          }

  pub none_lies : {rest : Text} → Lie [] rest → NoneLies rest
  unfolding on_first_line
  none_lies {rest} h = by (first_line R (drop at s)) refl
    where
      by : (f : FirstLine) → first_line R (drop at s) ≡ f → NoneLies rest
      by no_line e = record { none = e; rest_is = sym (ap (λ (x : Lines). x.rest) (lines_by e)) ∙ h.left }
      by (a_line k r) e = none_is_one (sym h.whole ∙ ap (λ (x : Lines). x.whole) (lines_by e))

-- # The records

-- The answer that accepts so many records, the first of which begins at a place.
abbrev pub accepting : ℕ → ℕ → Heading → Result Accepted Refusal
accepting records first heading = Ok (record { records = records; first = first; heading = heading })

-- What is told at the end of an accepted log.
abbrev pub late_told : ℕ → ℕ → Heading → Reading → Result Accepted Refusal
late_told records first heading (accepted log) = accepting records first heading
late_told records first heading (refused r) = Err r

late_put : (records first : ℕ) (heading : Heading) (due : Due) (l : Text) (r : Reading) → late_told records first heading (put due l r) ≡ late_told records first heading r
unfolding put
late_put records first heading due l (accepted log) = refl
late_put records first heading due l (refused r) = refl

-- One line of the walk.
module _ (R : Rules) (due : Due) (n : ℕ) (l : Text) (ls : List Text) (rest : Text) where
  walk_law : walk R due n (l ∷ ls) rest ≡ on_next (λ next. walk R next (n + 1) ls rest) n due l (step R due l)
  unfolding walk
  walk_law = refl

  pub walk_goes : {next : Due} → step R due l ≡ Ok next → walk R due n (l ∷ ls) rest ≡ put due l (walk R next (n + 1) ls rest)
  unfolding on_next
  walk_goes e = walk_law ∙ ap (on_next (λ next. walk R next (n + 1) ls rest) n due l) e

  pub walk_stops : {f : Fault} → step R due l ≡ Err f → walk R due n (l ∷ ls) rest ≡ refused (refusal f.number n f.field)
  unfolding on_next
  walk_stops e = walk_law ∙ ap (on_next (λ next. walk R next (n + 1) ls rest) n due l) e

-- One line of what is noted.
module _ (R : Rules) (s : Text) (due : Due) (at : ℕ) (l : Text) (ls : List Text) where
  noted_law : noted_from R s due at (l ∷ ls) ≡ noted_next (λ next. noted_from R s next (at + length l + 2) ls) due (contact_at R s at) (step R due l)
  unfolding noted_from
  noted_law = refl

  pub noted_goes : {next : Due} → step R due l ≡ Ok next → noted_from R s due at (l ∷ ls) ≡ noted_line due (contact_at R s at) (noted_from R s next (at + length l + 2) ls)
  unfolding noted_next
  noted_goes e = noted_law ∙ ap (noted_next (λ next. noted_from R s next (at + length l + 2) ls) due (contact_at R s at)) e

  pub noted_stops : {f : Fault} → step R due l ≡ Err f → noted_from R s due at (l ∷ ls) ≡ []
  unfolding noted_next
  noted_stops e = noted_law ∙ ap (noted_next (λ next. noted_from R s next (at + length l + 2) ls) due (contact_at R s at)) e

step_kept : (R : Rules) (j : ℕ) (l : Text) → record_rule R l ≡ keeps → step R (Due.Record (suc j)) l ≡ Ok (records_due j)
unfolding step after_record
step_kept R j l e = let k : suc j - 1 ≡ j = omega arith in ap (after_record (suc j)) e ∙ rw k

step_broken : (R : Rules) (j f : ℕ) (l : Text) → record_rule R l ≡ breaks f → step R (Due.Record (suc j)) l ≡ Err (fault 5 f)
unfolding step after_record
step_broken R j f l e = ap (after_record (suc j)) e

step_ended : (R : Rules) (l : Text) → step R Due.End l ≡ Err (fault 6 0)
unfolding step
step_ended R l = refl

-- The two tellings of so many records agree, on the answer and on what is noted.
module _ (R : Rules) (s : Text) (records first : ℕ) (heading : Heading) where
  pub record Late (j n at : ℕ) (ls : List Text) (rest : Text) : Type 0 where
    pub answer : records_told R s records first heading j n at ≡ late_told records first heading (walk R (records_due j) n ls rest)
    pub contacts : contacts_from R s j at ≡ noted_from R s (records_due j) at ls

  -- Behind the last record.
  pub end_told : (n at : ℕ) {b : Bool} → ltb at (length s) ≡ b → records_told R s records first heading 0 n at ≡ cond b (Err (refusal 6 n 0)) (accepting records first heading)
  unfolding records_told
  end_told n at e = rw e

  end_late : (n at : ℕ) (rest : Text) → at ≤ length s → drop at s ≡ rest → Late 0 n at [] rest
  unfolding records_due walk at_rest contacts_from noted_from
  end_late n at [] h e =
      record { answer = end_told n at (le-ltb at (length s) (omega (arith, ap length e, length-drop at s))); contacts = refl }
  end_late n at (c ∷ rest) h e =
      record { answer = end_told n at (lt-ltb at (length s) (omega (arith, ap length e, length-drop at s))); contacts = refl }

  more_late : (n at : ℕ) (l : Text) (ls : List Text) (rest : Text) → at < length s → Late 0 n at (l ∷ ls) rest
  unfolding records_due contacts_from
  more_late n at l ls rest h =
      record {
        answer = end_told n at (lt-ltb at (length s) h) ∙ ap (late_told records first heading) (sym (walk_stops R Due.End n l ls rest (step_ended R l)));
        contacts = sym (noted_stops R s Due.End at l ls (step_ended R l));
      }

  -- One record more.
  next_told : (j n at : ℕ) {r : Result Contact Fault} → record_at R s at ≡ r → records_told R s records first heading (suc j) n at ≡ record_next (λ c. records_told R s records first heading j (n + 1) (behind c)) n r
  unfolding records_told
  next_told j n at e = ap (record_next (λ c. records_told R s records first heading j (n + 1) (behind c)) n) e

  next_noted : (j at : ℕ) {r : Result Contact Fault} → record_at R s at ≡ r → contacts_from R s (suc j) at ≡ contact_next (λ c. contacts_from R s j (behind c)) r
  unfolding contacts_from
  next_noted j at e = ap (contact_next (λ c. contacts_from R s j (behind c))) e

  pub next_kept : (j n at : ℕ) {c : Contact} → record_at R s at ≡ Ok c → records_told R s records first heading (suc j) n at ≡ records_told R s records first heading j (n + 1) (behind c)
  unfolding record_next
  next_kept j n at e = next_told j n at e

  pub next_stops : (j n at : ℕ) {f : Fault} → record_at R s at ≡ Err f → records_told R s records first heading (suc j) n at ≡ Err (refusal f.number n f.field)
  unfolding record_next
  next_stops j n at e = next_told j n at e

  pub noted_kept : (j at : ℕ) {c : Contact} → record_at R s at ≡ Ok c → contacts_from R s (suc j) at ≡ c ∷ contacts_from R s j (behind c)
  unfolding contact_next
  noted_kept j at e = next_noted j at e

  pub noted_ends : (j at : ℕ) {f : Fault} → record_at R s at ≡ Err f → contacts_from R s (suc j) at ≡ []
  unfolding contact_next
  noted_ends j at e = next_noted j at e

  -- No line stands where a record is due.
  missing_late : (j n at : ℕ) (rest : Text) → at ≤ length s → first_line R (drop at s) ≡ no_line → drop at s ≡ rest → Late (suc j) n at [] rest
  unfolding records_due walk at_rest noted_from due_at lineless
  missing_late j n at [] h g e =
      let r : record_at R s at ≡ Err (fault 6 0) = sym (due_by R s at g) ∙ rw (le-ltb at (length s) (omega (arith, ap length e, length-drop at s))) in
      record { answer = next_stops j n at r; contacts = noted_ends j at r }
  missing_late j n at (c ∷ rest) h g e =
      let r : record_at R s at ≡ Err (fault 2 0) = sym (due_by R s at g) ∙ rw (lt-ltb at (length s) (omega (arith, ap length e, length-drop at s))) in
      record { answer = next_stops j n at r; contacts = noted_ends j at r }

  -- A line stands there.
  module _ (j n at : ℕ) (l : Text) (ls : List Text) (rest : Text) (g : first_line R (drop at s) ≡ a_line l (drop (at + length l + 2) s)) where
    broken_late : (f : ℕ) → record_rule R l ≡ breaks f → Late (suc j) n at (l ∷ ls) rest
    unfolding records_due due_at told_by
    broken_late f e =
        let r : record_at R s at ≡ Err (fault 5 f) = sym (due_by R s at g) ∙ ap (told_by (contact_at R s at)) e in
        record {
          answer = next_stops j n at r ∙ ap (late_told records first heading) (sym (walk_stops R (Due.Record (suc j)) n l ls rest (step_broken R j f l e)));
          contacts = noted_ends j at r ∙ sym (noted_stops R s (Due.Record (suc j)) at l ls (step_broken R j f l e));
        }

    kept_late : record_rule R l ≡ keeps → Late j (n + 1) (at + length l + 2) ls rest → Late (suc j) n at (l ∷ ls) rest
    unfolding records_due due_at told_by noted_line
    kept_late e h =
        let r : record_at R s at ≡ Ok (contact_at R s at) = sym (due_by R s at g) ∙ ap (told_by (contact_at R s at)) e in
        let there : behind (contact_at R s at) ≡ at + length l + 2 = omega (arith, taken_end R s at l (drop (at + length l + 2) s) g e) in
        record {
          answer =
              next_kept j n at r
              ∙ ap (records_told R s records first heading j (n + 1)) there
              ∙ h.answer
              ∙ sym (late_put records first heading (Due.Record (suc j)) l (walk R (records_due j) (n + 1) ls rest))
              ∙ ap (late_told records first heading) (sym (walk_goes R (Due.Record (suc j)) n l ls rest (step_kept R j l e)));
          contacts =
              noted_kept j at r
              ∙ ap (λ (i : ℕ). contact_at R s at ∷ contacts_from R s j i) there
              ∙ ap (λ (cs : List Contact). contact_at R s at ∷ cs) h.contacts
              ∙ sym (noted_goes R s (Due.Record (suc j)) at l ls (step_kept R j l e));
        }

  line_late : (j n at : ℕ) (l : Text) (ls : List Text) (rest : Text) (r : RecordRule) → first_line R (drop at s) ≡ a_line l (drop (at + length l + 2) s) → record_rule R l ≡ r → Late j (n + 1) (at + length l + 2) ls rest → Late (suc j) n at (l ∷ ls) rest
  line_late j n at l ls rest keeps g e h = kept_late j n at l ls rest g e h
  line_late j n at l ls rest (breaks f) g e h = broken_late j n at l ls rest g f e

  pub late : (ls : List Text) (j n at : ℕ) (rest : Text) → at ≤ length s → Lie R s at ls rest → Late j n at ls rest
  late [] zero n at rest h k = end_late n at rest h (none_lies R s at k).rest_is
  late [] (suc j) n at rest h k = missing_late j n at rest h (none_lies R s at k).none (none_lies R s at k).rest_is
  late (l ∷ ls) zero n at rest h k = more_late n at l ls rest (omega (arith, (first_lies R s at k).within))
  late (l ∷ ls) (suc j) n at rest h k =
      let q = first_lies R s at k in
      line_late j n at l ls rest (record_rule R l) q.line refl
      (late ls j (n + 1) (at + length l + 2) rest q.within (record { whole = q.whole; left = q.left }))
