-- What is due, as the state numbers it: by its stage, N and how many records are taken, and what a line in front of the records makes of it.
-- Assumes nothing.
use Prim.Native.Nat.{ℕ, zero, suc, ◌+◌, ◌-◌, ◌≤◌, ◌<◌}
use native.Mathlib.Omega.{arith}
use mathlib.Core.Path.{◌≡◌, refl, sym, ap, subst, ◌∙◌}
use mathlib.Core.Bool.{Bool, true, false, cond, ◌&&◌}
use mathlib.Core.List.{List, [], ◌∷◌, ◌++◌, append-nil}
use lib.Dec.{eqb, leb, ltb}
use lib.ListN.{length, take, drop, length-drop}
use borrow.Author.Tests.{leb-true, leb-false, lt-ltb, eqb-false}
use Rattle.std.specs.Prelude.{Ok}
use Rattle.rules.specs.declared.Refusal.{Refusal}
use Rattle.rules.specs.declared.Due.{Due}
use Rattle.rules.specs.declared.Due.TheVariants.{Identifier, Keyword, Remarks, Remark, Record, End}
use Rattle.rules.specs.Text.{Text, bytes, digit, span, same, begins, value, number, number_from}
use Rattle.rules.specs.Rules.{Rules}
use Rattle.rules.specs.Arguments.{Entry, entries}
use Rattle.rules.specs.Log.{Log, identifier, remarks_line, count_start}
use Rattle.rules.specs.Reading.{records_due, whole, keyword_due, count_rule, step, with_line, accepted, refused, at_rest}
use Rattle.rules.specs.Link.{records_in, announced_by}
use Rattle.rules.proofs.Tests.{and_l, and_r, never, picked}
use Rattle.reader.proofs.DueLaws.{entries_length}
use Rattle.link.specs.declared.Rated.{Rated}
use Rattle.link.specs.Link.{due_at, rated_by}
use Rattle.link.specs.Keeping.{FitsLink}
use Rattle.link.proofs.StateLaws.{due_identifier, due_keyword, due_remarks, due_remark, due_record, due_end}
use Rattle.link.proofs.LogGrows.{records_on, arguments_on}
use Rattle.link.proofs.RatesHeld.{no_stop, Declares, keyword_taken, declares_more}

-- # The stage

-- The state has this stage, N and so many records done where this is due; n records were taken, and N is announced.
abbrev pub Staged : Due → (stage records done n announced : ℕ) → Type 0
Staged Identifier stage records done n announced = (stage ≡ 0) × (n ≡ 0) × (announced ≡ 0)
Staged (Keyword k) stage records done n announced = (stage ≡ k + 1) × (k < 36) × (n ≡ 0) × (announced ≡ 0)
Staged Remarks stage records done n announced = (stage ≡ 37) × (n ≡ 0) × (announced ≡ 0)
Staged Remark stage records done n announced = (stage ≡ 38) × (n ≡ 0) × (announced ≡ 0)
Staged (Record m) stage records done n announced = (stage ≡ 39) × (records ≡ announced) × (done ≡ n) × (0 < m) × (n + m ≡ announced)
Staged End stage records done n announced = (stage ≡ 39) × (records ≡ announced) × (done ≡ n) × (n ≡ announced)

-- So the stage tells what is due.
pub due_told : (due : Due) (stage records done n announced : ℕ) → Staged due stage records done n announced → due_at stage (records - done) ≡ due
due_told Identifier stage records done n announced s = sym (due_identifier stage (records - done) s.0)
due_told (Keyword k) stage records done n announced s =
    let before : stage - 1 ≡ k = omega (arith, s.0) in
    sym (due_keyword stage (records - done) (λ e. omega (arith, s.0, e)) (omega (arith, s.0, s.1))) ∙ ap Keyword before
due_told Remarks stage records done n announced s = sym (due_remarks stage (records - done) (omega (arith, s.0)) s.0)
due_told Remark stage records done n announced s =
    sym (due_remark stage (records - done) (omega (arith, s.0)) (λ e. omega (arith, s.0, e)) s.0)
due_told (Record m) stage records done n announced s =
    let left : records - done ≡ m = omega (arith, s.1, s.2, s.4) in
    sym (due_record stage records done (omega (arith, s.0)) (omega (arith, s.1, s.2, s.3, s.4))) ∙ ap Record left
due_told End stage records done n announced s =
    sym (due_end stage records done (omega (arith, s.0)) (omega (arith, s.1, s.2, s.3)))

-- And N, and that no more records were taken.
pub announced_told : (due : Due) (stage records done n announced : ℕ) → Staged due stage records done n announced → cond (ltb stage 39) 0 records ≡ announced
announced_told Identifier stage records done n announced s = rw s.0 (sym s.2)
announced_told (Keyword k) stage records done n announced s = rw (lt-ltb stage 39 (omega (arith, s.0, s.1))) (sym s.3)
announced_told Remarks stage records done n announced s = rw s.0 (sym s.2)
announced_told Remark stage records done n announced s = rw s.0 (sym s.2)
announced_told (Record m) stage records done n announced s = rw s.0 s.1
announced_told End stage records done n announced s = rw s.0 s.1

pub staged_few : (due : Due) (stage records done n announced : ℕ) → Staged due stage records done n announced → n ≤ announced
staged_few Identifier stage records done n announced s = omega (arith, s.1)
staged_few (Keyword k) stage records done n announced s = omega (arith, s.2)
staged_few Remarks stage records done n announced s = omega (arith, s.1)
staged_few Remark stage records done n announced s = omega (arith, s.1)
staged_few (Record m) stage records done n announced s = omega (arith, s.4)
staged_few End stage records done n announced s = omega (arith, s.3)

-- So many records are left.
pub staged_due : (left stage records done n announced : ℕ) → stage ≡ 39 → records ≡ announced → done ≡ n → n + left ≡ announced → Staged (records_due left) stage records done n announced
unfolding records_due
staged_due zero stage records done n announced a b c d = (a, b, c, omega (arith, d))
staged_due (suc left) stage records done n announced a b c d = (a, b, c, omega arith, d)

-- In front of the records.
abbrev pub is_head : Due → Bool
is_head Identifier = true
is_head (Keyword k) = true
is_head Remarks = true
is_head Remark = true
is_head (Record m) = false
is_head End = false

pub head_stage : (due : Due) (stage records done n announced : ℕ) → is_head due ≡ true → Staged due stage records done n announced → (stage < 39) × (n ≡ 0) × (announced ≡ 0)
head_stage Identifier stage records done n announced h s = (omega (arith, s.0), s.1, s.2)
head_stage (Keyword k) stage records done n announced h s = (omega (arith, s.0, s.1), s.2, s.3)
head_stage Remarks stage records done n announced h s = (omega (arith, s.0), s.1, s.2)
head_stage Remark stage records done n announced h s = (omega (arith, s.0), s.1, s.2)
head_stage (Record m) stage records done n announced h s = never h
head_stage End stage records done n announced h s = never h

-- So it is by the stage.
pub head_due : (stage left : ℕ) → stage < 39 → is_head (due_at stage left) ≡ true
unfolding due_at
head_due stage left early =
    by (eqb stage 0) (leb stage 36) (eqb stage 37) (eqb stage 38) (λ a b c d. omega (arith, early, leb-false stage 36 b, eqb-false stage 37 c, eqb-false stage 38 d))
  where
    by : (a b c d : Bool) → (a ≡ false → b ≡ false → c ≡ false → d ≡ false → ⊥) → is_head (cond a Identifier (cond b (Keyword (stage - 1)) (cond c Remarks (cond d Remark (records_due left))))) ≡ true
    by true b c d n = refl
    by false true c d n = refl
    by false false true d n = refl
    by false false false true n = refl
    by false false false false n = absurd (n refl refl refl refl)

-- # A line in front of the records

pub head_records : (due : Due) (l : Text) → is_head due ≡ true → records_on due l ≡ []
unfolding records_on with_line
head_records Identifier l h = refl
head_records (Keyword k) l h = refl
head_records Remarks l h = refl
head_records Remark l h = refl
head_records (Record m) l h = never h
head_records End l h = never h

pub head_announces : (due next : Due) (n : ℕ) → is_head due ≡ true → announced_by due next n ≡ records_in next
unfolding announced_by
head_announces Identifier next n h = refl
head_announces (Keyword k) next n h = refl
head_announces Remarks next n h = refl
head_announces Remark next n h = refl
head_announces (Record m) next n h = never h
head_announces End next n h = never h

unaccepted : {A : Type 0} {r : Refusal} {log : Log} → refused r ≡ accepted log → A
unaccepted e = let z : ◌≡◌ {A = ℕ} 0 1 = cc in absurd (omega arith)

module _ (R : Rules) where
  -- So many arguments came where this is due, and there are no more records than there may be.
  abbrev pub Ahead : Due → ℕ → Type 0
  Ahead Identifier arguments = arguments ≡ 0
  Ahead (Keyword k) arguments = (k < 36) × (arguments ≡ k)
  Ahead Remarks arguments = arguments ≡ 36
  Ahead Remark arguments = arguments ≡ 36
  Ahead (Record m) arguments = (0 < m) × (m ≤ R.most_records) × (arguments ≡ 36)
  Ahead End arguments = arguments ≡ 36

  pub ahead_due : (m arguments : ℕ) → m ≤ R.most_records → arguments ≡ 36 → Ahead (records_due m) arguments
  unfolding records_due
  ahead_due zero arguments h e = e
  ahead_due (suc m) arguments h e = (omega arith, h, e)

  pub ahead_few : (due : Due) (arguments : ℕ) → Ahead due arguments → records_in due ≤ R.most_records
  unfolding records_in
  ahead_few Identifier arguments a = omega arith
  ahead_few (Keyword k) arguments a = omega arith
  ahead_few Remarks arguments a = omega arith
  ahead_few Remark arguments a = omega arith
  ahead_few (Record m) arguments a = a.1
  ahead_few End arguments a = omega arith

  -- A log ends well where nothing more is due, and then all arguments came.
  pub ahead_end : (due : Due) (line : ℕ) (rest : Text) (log : Log) (arguments : ℕ) → at_rest due line rest ≡ accepted log → Ahead due arguments → arguments ≡ 36
  unfolding at_rest
  ahead_end Identifier line rest log arguments e a = unaccepted e
  ahead_end (Keyword k) line rest log arguments e a = unaccepted e
  ahead_end Remarks line rest log arguments e a = a
  ahead_end Remark line rest log arguments e a = a
  ahead_end (Record m) line rest log arguments e a = a.2
  ahead_end End line rest log arguments e a = a

  -- The line that is due goes on to what it should.
  whole_goes : (due l : Text) (then next : Due) → whole due l then ≡ Ok next → then ≡ next
  unfolding whole
  whole_goes due l then next e =
      let p = picked (same l due) e (no_stop 3 0 next) in
      let g : then ≡ next = cc in g

  keyword_goes : (k : ℕ) (l : Text) (next : Due) → step R (Keyword k) l ≡ Ok next → Ahead next (k + 1)
  unfolding step
  keyword_goes k l next e = by (drop k entries) (length-drop k entries) e
    where
      by : (es : List Entry) → length es ≡ length entries - k → keyword_due R es k l ≡ Ok next → Ahead next (k + 1)
      by [] n g = absurd (no_stop 3 0 next (unfold keyword_due in g))
      by (d ∷ []) n g =
          let then : Remarks ≡ next = (keyword_taken R d l Remarks next (unfold keyword_due in g)).1 in
          subst (λ (due : Due). Ahead due (k + 1)) then (omega (arith, n, entries_length))
      by (d ∷ f ∷ es) n g =
          let then : Keyword (k + 1) ≡ next = (keyword_taken R d l (Keyword (k + 1)) next (unfold keyword_due in g)).1 in
          subst (λ (due : Due). Ahead due (k + 1)) then (omega (arith, n, entries_length), refl)

  count_goes : (t : Text) (next : Due) (arguments : ℕ) → count_rule R t ≡ Ok next → arguments ≡ 36 → Ahead next arguments
  unfolding count_rule number_from
  count_goes t next arguments e a =
      let n = span digit t in
      let ruled = number_from 0 R.most_records (take n t) in
      let p = picked (ruled && same (drop n t) (bytes "]")) e (no_stop 4 0 next) in
      let v = value (take n t) in
      let few = leb-true v R.most_records (and_r (number (take n t) && leb 0 v) (leb v R.most_records) (and_l ruled (same (drop n t) (bytes "]")) p.0)) in
      let then : records_due v ≡ next = let q = p.1 in cc in
      subst (λ (due : Due). Ahead due arguments) then (ahead_due v arguments few a)

  pub ahead_next : (due : Due) (l : Text) (next : Due) (arguments : ℕ) → is_head due ≡ true → Ahead due arguments → step R due l ≡ Ok next → Ahead next (arguments + length (arguments_on due l))
  unfolding arguments_on with_line step
  ahead_next Identifier l next arguments h a e =
      subst (λ (due : Due). Ahead due (arguments + 0)) (whole_goes identifier l (Keyword 0) next e) (omega arith, omega (arith, a))
  ahead_next (Keyword k) l next arguments h a e = subst (λ (n : ℕ). Ahead next (n + 1)) (sym a.1) (keyword_goes k l next e)
  ahead_next Remarks l next arguments h a e =
      subst (λ (due : Due). Ahead due (arguments + 0)) (whole_goes remarks_line l Remark next e) (omega (arith, a))
  ahead_next Remark l next arguments h a e = by (begins count_start l) e
    where
      by : (b : Bool) → cond b (count_rule R (drop (length count_start) l)) (Ok Remark) ≡ Ok next → Ahead next (arguments + 0)
      by true g = count_goes (drop (length count_start) l) next (arguments + 0) g (omega (arith, a))
      by false g =
          let then : Remark ≡ next = cc in
          subst (λ (due : Due). Ahead due (arguments + 0)) then (omega (arith, a))
  ahead_next (Record m) l next arguments h a e = never h
  ahead_next End l next arguments h a e = never h

  -- A keyword that is due next is one of the 36.
  pub keyword_next : (due : Due) (l : Text) (k : ℕ) → is_head due ≡ true → step R due l ≡ Ok (Keyword k) → k < 36
  keyword_next Identifier l k h e = (ahead_next Identifier l (Keyword k) 0 h refl e).0
  keyword_next (Keyword j) l k h e = (keyword_goes j l (Keyword k) e).0
  keyword_next Remarks l k h e = (ahead_next Remarks l (Keyword k) 36 h refl e).0
  keyword_next Remark l k h e = (ahead_next Remark l (Keyword k) 36 h refl e).0
  keyword_next (Record m) l k h e = never h
  keyword_next End l k h e = never h

  -- What is declared behind it.
  pub declares_next : FitsLink R → (due : Due) (l : Text) (next : Due) (ts : List Text) (r : Rated) → is_head due ≡ true → Ahead due (length ts) → step R due l ≡ Ok next → Declares R ts r → Declares R (ts ++ arguments_on due l) (rated_by R due l r)
  unfolding arguments_on with_line rated_by
  declares_next F Identifier l next ts r h a e d = rw (append-nil ts) d
  declares_next F (Keyword k) l next ts r h a e d = declares_more R F ts r d k a.1 l next e
  declares_next F Remarks l next ts r h a e d = rw (append-nil ts) d
  declares_next F Remark l next ts r h a e d = rw (append-nil ts) d
  declares_next F (Record m) l next ts r h a e d = never h
  declares_next F End l next ts r h a e d = never h
