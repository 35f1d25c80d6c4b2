-- Laws of what a line leads to: whole lines, keywords with their arguments, remarks and records.
-- Assumes nothing.
use Prim.Native.Nat.{ℕ, suc, ◌+◌, ◌-◌, ◌≤◌, ◌<◌}
use native.Mathlib.Omega.{arith}
use native.Mathlib.Decide.{dec_lt}
use mathlib.Core.Path.{◌≡◌, refl, sym, ap, ap₂, ◌∙◌}
use mathlib.Core.Bool.{Bool, true, false, cond, true≢false}
use mathlib.Core.List.{[], ◌∷◌}
use lib.Dec.{ltb}
use lib.ListN.{length, take, drop, get_or, length-append, length-drop, get_or-map, drop_of_length-le}
use lib.Seq.{drop-cons, take_all}
use Rattle.std.specs.Prelude.{Ok, Err, Result}
use Rattle.rules.specs.declared.Fault.{Fault}
use Rattle.rules.specs.Text.{Text, same, begins}
use Rattle.rules.specs.Rules.{Rules}
use Rattle.rules.specs.declared.Due.{Due}
use Rattle.rules.specs.Arguments.{Entry, entries, anything, meets}
use Rattle.rules.specs.Log.{identifier, remarks_line, keyword_start, keywords_of, count_start}
use Rattle.rules.specs.Reading.{RecordRule, keeps, breaks, record_rule, records_due, whole, spelling_on, argument_on, has_keyword, keyword_line, keyword_due, count_rule, after_record, step, fault}
use borrow.Author.Tests.{le-ltb, lt-ltb}
use Rattle.rules.proofs.SpellingLaws.{case_length, length_start, keyword_has, listed_has, listed_spelt}
use Rattle.header.specs.declared.KeywordRead.{KeywordRead}
use Rattle.header.specs.Header.{first_keyword, keyword_at, first_argument, argument_of}
use Rattle.header.proofs.WordLaws.{begins_short}
use Rattle.header.proofs.TableLaws.{word_length, keyword_beyond}
use Rattle.reader.specs.declared.Contact.{Contact}
use Rattle.reader.specs.Contact.{contact_at}
use Rattle.reader.specs.Record.{record_on, told_by}
use Rattle.reader.specs.Read.{after_argument, says_respelt, respelt_by, step_of}
use Rattle.reader.specs.declared.Stepped.{Stepped}

-- A line that has to be these words.
module _ (words line : Text) (next : Due) where
  pub whole_same : same line words ≡ true → Ok next ≡ whole words line next
  unfolding whole
  whole_same e = rw e

  pub whole_other : same line words ≡ false → Err (fault 3 0) ≡ whole words line next
  unfolding whole
  whole_other e = rw e

-- What begins with a word is as long.
pub begins_long : (w s : Text) → begins w s ≡ true → length w ≤ length s
begins_long w s e = by (dec_lt (length s) (length w))
  where
    by : Dec (length s < length w) → length w ≤ length s
    by (yes h) = absurd (true≢false (sym e ∙ sym (begins_short w s h)))
    by (no h) = omega arith

-- All that stands behind a front, as a part of the slice.
pub behind : (n : ℕ) (s : Text) → take (length s - n) (drop n s) ≡ drop n s
behind n s = take_all (length s - n) (drop n s) (omega (arith, length-drop n s))

-- The entry that is due after k keywords.
abbrev none : Entry
none = record { keyword = []; rule = anything }

abbrev pub entry_at : ℕ → Entry
entry_at k = get_or entries k none

pub entries_length : length entries ≡ 36
unfolding entries
entries_length = refl

pub entry_due : (k : ℕ) → k < 36 → drop k entries ≡ entry_at k ∷ drop (suc k) entries
entry_due k h = drop-cons entries k none (omega (arith, entries_length))

start_six : (k : ℕ) → k < 36 → length (keyword_start (entry_at k).keyword) ≡ 6
unfolding entries keywords_of keyword_start
start_six k h =
    ap (λ (w : Text). length (keyword_start w)) (sym (get_or-map (λ (e : Entry). e.keyword) entries k none))
    ∙ ap length (sym (get_or-map keyword_start (keywords_of entries) k []))
    ∙ sym (word_length k (keyword_start []) h)

-- What the matcher tells, by a test of the bytes and one of the letters.
keyword_by : (k : ℕ) (line : Text) →
    k < 36 →
    keyword_at k line
    ≡ cond (begins (keyword_start (entry_at k).keyword) line) KeywordRead.Listed (cond (has_keyword (entry_at k) line) KeywordRead.Respelt KeywordRead.Differs)
unfolding keyword_at first_keyword
keyword_by k line h = rw (entry_due k h)

-- A keyword stands on the line, in the listed spelling or in another.
pub record Stands (k : ℕ) (line : Text) : Type 0 where
  pub within : k < 36
  pub has : has_keyword (entry_at k) line ≡ true

-- The three cases, by their numbers.
abbrev case_of : KeywordRead → ℕ
case_of KeywordRead.Listed = 0
case_of KeywordRead.Respelt = 1
case_of KeywordRead.Differs = 2

module _ (k : ℕ) (line : Text) where
  abbrev word : Text
  word = keyword_start (entry_at k).keyword

  stands_by : (a b : Bool) → begins word line ≡ a → has_keyword (entry_at k) line ≡ b → (case_of (cond a KeywordRead.Listed (cond b KeywordRead.Respelt KeywordRead.Differs)) ≡ 2 → ⊥) → has_keyword (entry_at k) line ≡ true
  stands_by true b e f h = listed_has (entry_at k) line e
  stands_by false true e f h = f
  stands_by false false e f h = absurd (h refl)

  stands : {r : KeywordRead} → keyword_at k line ≡ r → (case_of r ≡ 2 → ⊥) → Stands k line
  stands {r} e h = by (dec_lt k 36)
    where
      by : Dec (k < 36) → Stands k line
      by (yes w) =
          record {
            within = w;
            has = stands_by (begins word line) (has_keyword (entry_at k) line) refl refl (λ q. h (ap case_of (sym e ∙ keyword_by k line w) ∙ q));
          }
      by (no w) = absurd (h (sym (ap case_of (keyword_beyond k line (omega arith) ∙ e))))

  pub stands_listed : keyword_at k line ≡ KeywordRead.Listed → Stands k line
  stands_listed e = stands e (λ q. omega arith)

  pub stands_respelt : keyword_at k line ≡ KeywordRead.Respelt → Stands k line
  stands_respelt e = stands e (λ q. omega arith)

  no_keyword : keyword_at k line ≡ KeywordRead.Differs → k < 36 → has_keyword (entry_at k) line ≡ false
  no_keyword e w = by (begins word line) (has_keyword (entry_at k) line) refl (ap case_of (sym (keyword_by k line w) ∙ e))
    where
      by : (a b : Bool) → has_keyword (entry_at k) line ≡ b → case_of (cond a KeywordRead.Listed (cond b KeywordRead.Respelt KeywordRead.Differs)) ≡ 2 → has_keyword (entry_at k) line ≡ false
      by true b f q = absurd (omega arith)
      by false true f q = absurd (omega arith)
      by false false f q = f

  -- How it is spelt, where it stands there.
  pub respelt_told : Stands k line → ◌≡◌ {A = ℕ} (cond (says_respelt (keyword_at k line)) 1 0) (cond (same (entry_at k).keyword (spelling_on (entry_at k) line)) 0 1)
  respelt_told s =
      ap {B = ℕ} (λ (r : KeywordRead). cond (says_respelt r) 1 0) (keyword_by k line s.within ∙ told)
      ∙ by (same (entry_at k).keyword (spelling_on (entry_at k) line))
    where
      told : cond (begins word line) KeywordRead.Listed (cond (has_keyword (entry_at k) line) KeywordRead.Respelt KeywordRead.Differs) ≡ cond (same (entry_at k).keyword (spelling_on (entry_at k) line)) KeywordRead.Listed KeywordRead.Respelt
      told = rw (listed_spelt (entry_at k) line s.has, s.has)

      by : (b : Bool) → ◌≡◌ {A = ℕ} (cond (says_respelt (cond b KeywordRead.Listed KeywordRead.Respelt)) 1 0) (cond b 0 1)
      by true = refl
      by false = refl

-- A line that has its keyword is longer than that and its `=`.
has_long : (e : Entry) (line : Text) → has_keyword e line ≡ true → length (keyword_start e.keyword) ≤ length line
has_long e line h =
    let k = keyword_has e line h in
    omega (
      arith,
      ap length k.line,
      length-append (keyword_start (spelling_on e line)) (argument_on e line),
      length_start (spelling_on e line),
      length_start e.keyword,
      case_length e.keyword (spelling_on e line) k.spelt,
    )

module _ (R : Rules) where
  argument_by : (k : ℕ) (t : Text) → k < 36 → argument_of R k t ≡ meets R (entry_at k).rule t
  unfolding argument_of first_argument
  argument_by k t h = rw (entry_due k h)

  due_one : (k : ℕ) (line : Text) → 35 ≤ k → k < 36 → keyword_due R (drop k entries) k line ≡ keyword_line R (entry_at k) line Due.Remarks
  unfolding keyword_due
  due_one k line l h = rw (entry_due k h, drop_of_length-le entries {i = suc k} (omega (arith, entries_length)))

  due_more : (k : ℕ) (line : Text) → k < 35 → keyword_due R (drop k entries) k line ≡ keyword_line R (entry_at k) line (Due.Keyword (k + 1))
  unfolding keyword_due
  due_more k line h = rw (entry_due k (omega arith), entry_due (suc k) (omega arith))

  -- What is due behind a keyword.
  abbrev behind_keyword : ℕ → Due
  behind_keyword k = cond (ltb k 35) (Due.Keyword (k + 1)) Due.Remarks

  due_by : (k : ℕ) (line : Text) → k < 36 → keyword_due R (drop k entries) k line ≡ keyword_line R (entry_at k) line (behind_keyword k)
  due_by k line h = by (dec_lt k 35)
    where
      by : Dec (k < 35) → keyword_due R (drop k entries) k line ≡ keyword_line R (entry_at k) line (behind_keyword k)
      by (yes l) = due_more k line l ∙ ap (λ (b : Bool). keyword_line R (entry_at k) line (cond b (Due.Keyword (k + 1)) Due.Remarks)) (sym (lt-ltb k 35 l))
      by (no l) = due_one k line (omega arith) h ∙ ap (λ (b : Bool). keyword_line R (entry_at k) line (cond b (Due.Keyword (k + 1)) Due.Remarks)) (sym (le-ltb k 35 (omega arith)))

  -- A keyword's line by its two tests.
  line_law : (e : Entry) (line : Text) (next : Due) →
      keyword_line R e line next
      ≡ cond (has_keyword e line) (cond (meets R e.rule (drop (length (keyword_start e.keyword)) line)) (Ok next) (Err (fault 4 0))) (Err (fault 3 0))
  unfolding keyword_line argument_on
  line_law e line next = refl

  module _ (k : ℕ) (line : Text) where
    none_left : 36 ≤ k → Err (fault 3 0) ≡ keyword_due R (drop k entries) k line
    unfolding keyword_due
    none_left h = rw (drop_of_length-le entries {i = k} (omega (arith, entries_length)))

    keyword_differs : keyword_at k line ≡ KeywordRead.Differs → Err (fault 3 0) ≡ keyword_due R (drop k entries) k line
    keyword_differs e = by (dec_lt k 36)
      where
        by : Dec (k < 36) → Err (fault 3 0) ≡ keyword_due R (drop k entries) k line
        by (yes h) = sym (due_by k line h ∙ line_law (entry_at k) line (behind_keyword k) ∙ rw (no_keyword k line e h))
        by (no h) = none_left (omega arith)

    module _ (s : Stands k line) where
      pub keyword_long : 6 ≤ length line
      keyword_long = omega (arith, start_six k s.within, has_long (entry_at k) line s.has)

      -- What follows is what follows from the argument.
      argument_leads : after_argument k (argument_of R k (take (length line - 6) (drop 6 line))) ≡ keyword_due R (drop k entries) k line
      unfolding after_argument
      argument_leads =
          ap (λ (t : Text). after_argument k (argument_of R k t)) (behind 6 line)
          ∙ ap (after_argument k) (argument_by k (drop 6 line) s.within)
          ∙ by (meets R (entry_at k).rule (drop 6 line))
          ∙ ap (λ (n : ℕ). cond (meets R (entry_at k).rule (drop n line)) (Ok (behind_keyword k)) (Err (fault 4 0))) (sym (start_six k s.within))
          ∙ sym (due_by k line s.within ∙ line_law (entry_at k) line (behind_keyword k) ∙ rw s.has)
        where
          by : (b : Bool) → after_argument k b ≡ cond b (Ok (behind_keyword k)) (Err (fault 4 0))
          by true = refl
          by false = refl

    -- A line that is taken has its keyword.
    pub keyword_stands : {next : Due} → step R (Due.Keyword k) line ≡ Ok next → Stands k line
    unfolding step
    keyword_stands {next} q = by (keyword_at k line) refl
      where
        by : (r : KeywordRead) → keyword_at k line ≡ r → Stands k line
        by KeywordRead.Listed e = stands_listed k line e
        by KeywordRead.Respelt e = stands_respelt k line e
        by KeywordRead.Differs e = let z : Err (fault 3 0) ≡ Ok next = keyword_differs e ∙ q in let y : ◌≡◌ {A = ℕ} 0 1 = cc in absurd (omega arith)

    -- The step's answer in each of the three cases.
    at_due_keyword : step R (Due.Keyword k) line ≡ keyword_due R (drop k entries) k line
    unfolding step
    at_due_keyword = refl

    module _ (before : ℕ) where
      stepped_by : {next : Result Due Fault} {r : KeywordRead} {count : ℕ} → keyword_at k line ≡ r → next ≡ keyword_due R (drop k entries) k line → count ≡ before + cond (says_respelt r) 1 0 → record { next = next; respelt = count } ≡ step_of R before (Due.Keyword k) line
      unfolding step_of respelt_by
      stepped_by e q n =
          ap₂ (λ (x : Result Due Fault) (c : ℕ). record { next = x; respelt = c }) (q ∙ sym at_due_keyword) (n ∙ ap (λ (x : KeywordRead). before + cond (says_respelt x) 1 0) (sym e))

      pub step_differs : keyword_at k line ≡ KeywordRead.Differs → record { next = Err (fault 3 0); respelt = before } ≡ step_of R before (Due.Keyword k) line
      step_differs e = stepped_by e (keyword_differs e) (omega arith)

      pub step_listed : {next : Result Due Fault} {count : ℕ} → keyword_at k line ≡ KeywordRead.Listed → next ≡ after_argument k (argument_of R k (take (length line - 6) (drop 6 line))) → count ≡ before → record { next = next; respelt = count } ≡ step_of R before (Due.Keyword k) line
      step_listed e q n = stepped_by e (q ∙ argument_leads (stands_listed k line e)) (omega arith)

      pub step_respelt : {next : Result Due Fault} {count : ℕ} → keyword_at k line ≡ KeywordRead.Respelt → next ≡ after_argument k (argument_of R k (take (length line - 6) (drop 6 line))) → count ≡ before + 1 → record { next = next; respelt = count } ≡ step_of R before (Due.Keyword k) line
      step_respelt e q n = stepped_by e (q ∙ argument_leads (stands_respelt k line e)) n

-- The argument's two cases.
module _ (k : ℕ) where
  pub argument_breaks : {kept : Bool} → kept ≡ false → Err (fault 4 0) ≡ after_argument k kept
  unfolding after_argument
  argument_breaks e = ap (after_argument k) (sym e)

  pub keyword_follows : {kept : Bool} → kept ≡ true → k < 35 → Ok (Due.Keyword (k + 1)) ≡ after_argument k kept
  unfolding after_argument
  keyword_follows e h =
      ap (λ (b : Bool). Ok (cond b (Due.Keyword (k + 1)) Due.Remarks)) (sym (lt-ltb k 35 h)) ∙ ap (after_argument k) (sym e)

  pub remarks_follow : {kept : Bool} → kept ≡ true → 35 ≤ k → Ok Due.Remarks ≡ after_argument k kept
  unfolding after_argument
  remarks_follow e h =
      ap (λ (b : Bool). Ok (cond b (Due.Keyword (k + 1)) Due.Remarks)) (sym (le-ltb k 35 h)) ∙ ap (after_argument k) (sym e)

-- Among the remarks.
start_length : length count_start ≡ 12
unfolding count_start
start_length = refl

remark_law : (R : Rules) (line : Text) → step R Due.Remark line ≡ cond (begins count_start line) (count_rule R (drop (length count_start) line)) (Ok Due.Remark)
unfolding step
remark_law R line = refl

module _ (R : Rules) (line : Text) where
  pub count_long : begins count_start line ≡ true → 12 ≤ length line
  count_long e = omega (arith, start_length, begins_long count_start line e)

  pub count_line : {r : Result Due Fault} → begins count_start line ≡ true → r ≡ count_rule R (take (length line - 12) (drop 12 line)) → r ≡ step R Due.Remark line
  count_line e q =
      q
      ∙ ap (count_rule R) (behind 12 line)
      ∙ ap (λ (n : ℕ). count_rule R (drop n line)) (sym start_length)
      ∙ ap (λ (b : Bool). cond b (count_rule R (drop (length count_start) line)) (Ok Due.Remark)) (sym e)
      ∙ sym (remark_law R line)

  pub a_remark : begins count_start line ≡ false → Ok Due.Remark ≡ step R Due.Remark line
  a_remark e =
      ap (λ (b : Bool). cond b (count_rule R (drop (length count_start) line)) (Ok Due.Remark)) (sym e) ∙ sym (remark_law R line)

-- What is told of a record says whether it keeps its rules.
pub kept_told : (c : Contact) (r : RecordRule) {d : Contact} → told_by c r ≡ Ok d → r ≡ keeps
unfolding told_by
kept_told c keeps e = refl
kept_told c (breaks f) e = let z : ◌≡◌ {A = ℕ} 0 1 = cc in absurd (omega arith)

pub stops_told : (c : Contact) (r : RecordRule) {f : Fault} → told_by c r ≡ Err f → (f.number ≡ 5) × (r ≡ breaks f.field)
unfolding told_by
stops_told c keeps e = let z : ◌≡◌ {A = ℕ} 0 1 = cc in absurd (omega arith)
stops_told c (breaks g) {f} e = let h : fault 5 g ≡ f = cc in (ap (λ (x : Fault). x.number) (sym h), ap (λ (x : Fault). breaks x.field) h)

-- A record.
module _ (R : Rules) (n : ℕ) (line : Text) where
  record_law : step R (Due.Record n) line ≡ after_record n (record_rule R line)
  unfolding step
  record_law = refl

  told_law : record_on R line ≡ told_by (contact_at R line 0) (record_rule R line)
  unfolding record_on
  told_law = refl

  kept_goes : {c : Contact} → record_on R line ≡ Ok c → step R (Due.Record n) line ≡ Ok (records_due (n - 1))
  unfolding after_record
  kept_goes e =
      record_law ∙ ap (after_record n) (kept_told (contact_at R line 0) (record_rule R line) (sym told_law ∙ e))

  pub record_next_lem : {c : Contact} {d : Due} → record_on R line ≡ Ok c → d ≡ records_due (n - 1) → Ok d ≡ step R (Due.Record n) line
  record_next_lem e q = ap Ok q ∙ sym (kept_goes e)

  pub record_bad : {f : Fault} → record_on R line ≡ Err f → Err f ≡ step R (Due.Record n) line
  unfolding after_record
  record_bad {f} e =
      let q = stops_told (contact_at R line 0) (record_rule R line) (sym told_law ∙ e) in
      ap (λ (k : ℕ). Err (fault k f.field)) q.0 ∙ sym (record_law ∙ ap (after_record n) q.1)

-- The step goes by what is due; only a keyword has a spelling.
module _ (R : Rules) (before : ℕ) (line : Text) where
  abbrev plainly : Result Due Fault → Stepped
  plainly next = record { next = next; respelt = before }

  no_more_respelt : (next : Result Due Fault) → plainly next ≡ record { next = next; respelt = before + 0 }
  no_more_respelt next = let none : before ≡ before + 0 = omega arith in ap (λ (n : ℕ). record { next = next; respelt = n }) none

  module _ {r : Result Due Fault} where
    pub at_identifier : (due : Due) → due ≡ Due.Identifier → r ≡ whole identifier line (Due.Keyword 0) → plainly r ≡ step_of R before due line
    unfolding step step_of respelt_by
    at_identifier due e q = ap plainly q ∙ no_more_respelt (whole identifier line (Due.Keyword 0)) ∙ ap (λ (d : Due). step_of R before d line) (sym e)

    pub at_remarks : (due : Due) → due ≡ Due.Remarks → r ≡ whole remarks_line line Due.Remark → plainly r ≡ step_of R before due line
    unfolding step step_of respelt_by
    at_remarks due e q = ap plainly q ∙ no_more_respelt (whole remarks_line line Due.Remark) ∙ ap (λ (d : Due). step_of R before d line) (sym e)

    pub at_remark : (due : Due) → due ≡ Due.Remark → r ≡ step R Due.Remark line → plainly r ≡ step_of R before due line
    unfolding step_of respelt_by
    at_remark due e q = ap plainly q ∙ no_more_respelt (step R Due.Remark line) ∙ ap (λ (d : Due). step_of R before d line) (sym e)

    pub at_record : {n : ℕ} (due : Due) → due ≡ Due.Record n → r ≡ step R (Due.Record n) line → plainly r ≡ step_of R before due line
    unfolding step_of respelt_by
    at_record {n} due e q = ap plainly q ∙ no_more_respelt (step R (Due.Record n) line) ∙ ap (λ (d : Due). step_of R before d line) (sym e)

    pub at_end_lem : (due : Due) → due ≡ Due.End → r ≡ Err (fault 6 0) → plainly r ≡ step_of R before due line
    unfolding step step_of respelt_by
    at_end_lem due e q = ap plainly q ∙ no_more_respelt (Err (fault 6 0)) ∙ ap (λ (d : Due). step_of R before d line) (sym e)
