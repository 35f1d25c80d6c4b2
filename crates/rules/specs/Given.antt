-- "When the desk says no": the table of document 01, row by row, each number given exactly when its row says. A text is looked at as lines
-- with a rest behind them: the lines before are right as they are due, and this one is the first that is not.
-- Assumes nothing.
use Rattle.std.specs.Prelude.{ℕ, ◌+◌, ◌-◌, ◌≤◌, ◌<◌, ◌≡◌, ◌⊎◌, ◌↔◌, false, List, [], ◌∷◌, ◌++◌, map, T, length, take, drop, get_or}
use Rattle.rules.specs.declared.Refusal.{Refusal}
use Rattle.rules.specs.declared.Due.{Due}
use Rattle.rules.specs.declared.Due.TheVariants.{Identifier, Keyword, Remarks, Remark, Record, End}
use Rattle.rules.specs.Text.{Text, bytes, same_but_case, parts, digits}
use Rattle.rules.specs.Rules.{Rules}
use Rattle.rules.specs.Fields.{Qso, qso_of, field_rules}
use Rattle.rules.specs.Arguments.{Entry, entries, meets, every}
use Rattle.rules.specs.Log.{Log, identifier, remarks_line, count_start, count_line, keyword_start, keyword_lines, record_line, crlf, ended, line_rule, keyword_rules, argument_rules, remark_rule, record_rules, render, IsWrittenAs, FollowsTheFormat}
use Rattle.rules.specs.Writing.{written_back}
use Rattle.rules.specs.Reading.{refused, refusal, records_due, read}
use Rattle.rules.specs.Answers.{unseen, view, unjudged, judge, unwritten, write, refusal_of_reading, refusal_of_view, refusal_of_judgement, refusal_of_writing}

-- # The lines so far

-- The lines in front of the count line.
abbrev pub head_lines : List Text → List Text → List Text → List Text
head_lines keywords arguments remarks = identifier ∷ keyword_lines keywords arguments ++ remarks_line ∷ remarks

-- The lines at the front of a log, each right as it is due, and what is due behind them. "In order: `[REG1TEST;1]`; the 36 keyword lines ..;
-- `[Remarks]`; zero or more remark lines; `[QSORecords;N]`; N records; nothing more."
pub data Front (R : Rules) : List Text → Due → Type 0 where
  -- no line yet: the identifier is due
  no_lines : Front R [] Identifier
  -- the identifier and k keyword lines, each keyword in either letter case, whose arguments keep their rules: the next keyword is due
  keywords_so_far :
      (k : ℕ) (keywords arguments : List Text) →
      k < length entries →
      T (keyword_rules (take k entries) keywords) →
      T (argument_rules R (take k entries) arguments) →
      Front R (identifier ∷ keyword_lines keywords arguments) (Keyword k)
  -- all of them: `[Remarks]` is due
  all_keywords :
      (keywords arguments : List Text) →
      T (keyword_rules entries keywords) →
      T (argument_rules R entries arguments) →
      Front R (identifier ∷ keyword_lines keywords arguments) Remarks
  -- `[Remarks]` and remark lines, none of which begins as the count line does: another, or the count line, is due
  remarks_so_far :
      (keywords arguments remarks : List Text) →
      T (keyword_rules entries keywords) →
      T (argument_rules R entries arguments) →
      T (every remark_rule remarks) →
      Front R (head_lines keywords arguments remarks) Remark
  -- the count line and as many of its N records, which keep their rules, as leave so many due: after the last nothing more is
  records_so_far :
      (keywords arguments remarks : List Text) (records : List Qso) (left : ℕ) →
      T (keyword_rules entries keywords) →
      T (argument_rules R entries arguments) →
      T (every remark_rule remarks) →
      length records + left ≤ R.most_records →
      T (record_rules R records) →
      Front R (head_lines keywords arguments remarks ++ count_line (length records + left) ∷ map record_line records) (records_due left)

-- "Order: .. 1, then line by line": the text is short enough, and the lines in front of the one of this number are right; this is due there,
-- and this is left of the text. "Line numbers start at 1".
pub record ComesTo (R : Rules) (s : Text) (n : ℕ) (due : Due) (rest : Text) : Type 0 where
  pub short : length s ≤ R.longest_log
  pub before : List Text
  pub text : s ≡ ended before ++ rest
  pub line_rules : T (every (line_rule R) before)
  pub front : Front R before due
  pub number : n ≡ length before + 1

-- At the line of this number the text has this fault, which depends on what is due there and on what is left of the text.
abbrev pub AtLine : Rules → Text → ℕ → (Due → Text → Type 0) → Type 0
AtLine R s n Fault = (due : Due) × (rest : Text) × ComesTo R s n due rest × Fault due rest

-- A line is there, "CR LF after at most 75 allowed characters", and has this fault.
abbrev pub OfTheLine : Rules → (Due → Text → Type 0) → Due → Text → Type 0
OfTheLine R Fault due rest =
    (l : Text) × (after : Text) × (rest ≡ l ++ crlf ++ after) × T (line_rule R l) × Fault due l

-- No line is there.
abbrev pub NoLine : Rules → Text → Type 0
NoLine R rest = (l after : Text) → T (line_rule R l) → rest ≡ l ++ crlf ++ after → ⊥

-- # The rows of the table

-- 6: "the log ends where a record line is due to begin, or goes on after the last"
abbrev pub EndsOrGoesOn : Due → Text → Type 0
EndsOrGoesOn due rest =
    ((left : ℕ) × (due ≡ Record left) × (rest ≡ [])) ⊎ ((due ≡ End) × (rest ≡ [] → ⊥))

-- 2: "the line due has no CR LF after at most 75 allowed characters, but see 6"
abbrev pub HasNoEnd : Rules → Due → Text → Type 0
HasNoEnd R due rest = (due ≡ End → ⊥) × NoLine R rest × (EndsOrGoesOn due rest → ⊥)

-- The keyword that comes after k others.
abbrev pub IsKeywordAfter : ℕ → Entry → Type 0
IsKeywordAfter k e = (others : List Entry) × (drop k entries ≡ e ∷ others)

-- The line is a keyword, spelt as it is listed but for the case of its letters, its `=` and this argument.
abbrev pub IsKeywordLine : Entry → Text → Text → Type 0
IsKeywordLine e l argument = (keyword : Text) × T (same_but_case e.keyword keyword) × (l ≡ keyword_start keyword ++ argument)

-- 3: "the line is not the identifier, does not begin with the keyword and its `=`, or is not the `[Remarks]`, whichever is due there"; W1: "a
-- keyword now gives 3 only if letters differ by more than case or `=` is missing"
abbrev pub IsNotTheLineDue : Due → Text → Type 0
IsNotTheLineDue Identifier l = l ≡ identifier → ⊥
IsNotTheLineDue (Keyword k) l =
    (e : Entry) × IsKeywordAfter k e × ((argument : Text) → IsKeywordLine e l argument → ⊥)
IsNotTheLineDue Remarks l = l ≡ remarks_line → ⊥
IsNotTheLineDue Remark l = ⊥
IsNotTheLineDue (Record left) l = ⊥
IsNotTheLineDue End l = ⊥

-- 4: "a forced argument, or the number and `]` of the count line, breaks its rule; N is 0 to 999"
abbrev pub BreaksItsRule : Rules → Due → Text → Type 0
BreaksItsRule R Identifier l = ⊥
BreaksItsRule R (Keyword k) l =
    (e : Entry)
    × IsKeywordAfter k e
    × (argument : Text)
    × IsKeywordLine e l argument
    × (T (meets R e.rule argument) → ⊥)
BreaksItsRule R Remarks l = ⊥
BreaksItsRule R Remark l =
    (t : Text) × (l ≡ count_start ++ t) × ((n : ℕ) → n ≤ R.most_records → t ≡ digits n ++ bytes "]" → ⊥)
BreaksItsRule R (Record left) l = ⊥
BreaksItsRule R End l = ⊥

-- The field of this number, 1 to 15, keeps its rule.
abbrev pub FieldKeeps : Rules → Text → ℕ → Type 0
FieldKeeps R l f = T (get_or (field_rules R (qso_of (parts l))) (f - 1) false)

-- 5: "a record breaks a rule: field 0 for a wrong number of semicolons, else the first bad field, 1 to 15". Fourteen semicolons make fifteen
-- parts.
abbrev pub FirstBadField : Rules → Text → ℕ → Type 0
FirstBadField R l f =
    ((f ≡ 0) × (length (parts l) ≡ 15 → ⊥))
    ⊎ ((length (parts l) ≡ 15)
    × (1 ≤ f)
    × (f ≤ 15)
    × (FieldKeeps R l f → ⊥)
    × ((earlier : ℕ) → 1 ≤ earlier → earlier < f → FieldKeeps R l earlier))

abbrev pub BreaksField : Rules → ℕ → Due → Text → Type 0
BreaksField R f due l = (left : ℕ) × (due ≡ Record left) × FirstBadField R l f

-- # The table

-- 1 to 6 of reading, and no other number. "In 1 .. line and field are 0; in 2, 3, 4 and 6 the field is 0."
pub record GivenByReading (R : Rules) : Type 0 where
  -- 1: "the log is longer than 65,535 bytes"
  pub one :
      (s : Text) (n f : ℕ) → (read R s ≡ refused (refusal 1 n f)) ↔ ((n ≡ 0) × (f ≡ 0) × (R.longest_log < length s))
  pub two : (s : Text) (n f : ℕ) → (read R s ≡ refused (refusal 2 n f)) ↔ ((f ≡ 0) × AtLine R s n (HasNoEnd R))
  pub three :
      (s : Text) (n f : ℕ) →
      (read R s ≡ refused (refusal 3 n f)) ↔ ((f ≡ 0) × AtLine R s n (OfTheLine R IsNotTheLineDue))
  pub four :
      (s : Text) (n f : ℕ) →
      (read R s ≡ refused (refusal 4 n f)) ↔ ((f ≡ 0) × AtLine R s n (OfTheLine R (BreaksItsRule R)))
  pub five :
      (s : Text) (n f : ℕ) → (read R s ≡ refused (refusal 5 n f)) ↔ AtLine R s n (OfTheLine R (BreaksField R f))
  pub six : (s : Text) (n f : ℕ) → (read R s ≡ refused (refusal 6 n f)) ↔ ((f ≡ 0) × AtLine R s n EndsOrGoesOn)
  pub no_other : (s : Text) (r : Refusal) → read R s ≡ refused r → (1 ≤ r.number) × (r.number ≤ 6)

-- 7, 8 and 9 of the other calls, each with line and field 0, and in every other case what reading gives: "Order: 9, 1, then line by line ..,
-- then 7 or 8."
pub record GivenByTheOthers (R : Rules) : Type 0 where
  -- "judging: the verdict slice is shorter than N"
  pub seven :
      (s : Text) (room n f : ℕ) →
      (judge R room s ≡ unjudged (refusal 7 n f))
      ↔ ((n ≡ 0) × (f ≡ 0) × (log : Log) × IsWrittenAs R s log × (room < length log.records))
  -- "writing: the result exceeds 65,535 bytes or the output slice"
  pub eight :
      (s : Text) (room n f : ℕ) →
      (write R room s ≡ unwritten (refusal 8 n f))
      ↔ ((n ≡ 0)
      × (f ≡ 0)
      × (log : Log)
      × IsWrittenAs R s log
      × ((R.longest_log < length (render (written_back R log))) ⊎ (room < length (render (written_back R log)))))
  -- "view: the keyword number is not 1 to 36"
  pub nine :
      (s : Text) (k n f : ℕ) →
      (view R k s ≡ unseen (refusal 9 n f)) ↔ ((n ≡ 0) × (f ≡ 0) × ((1 ≤ k) × (k ≤ 36) → ⊥))
  pub judging_else :
      (s : Text) (room : ℕ) (r : Refusal) →
      (r.number ≡ 7 → ⊥) →
      (judge R room s ≡ unjudged r) ↔ (read R s ≡ refused r)
  pub writing_else :
      (s : Text) (room : ℕ) (r : Refusal) →
      (r.number ≡ 8 → ⊥) →
      (write R room s ≡ unwritten r) ↔ (read R s ≡ refused r)
  pub viewing_else :
      (s : Text) (k : ℕ) (r : Refusal) →
      (r.number ≡ 9 → ⊥) →
      (view R k s ≡ unseen r) ↔ ((1 ≤ k) × (k ≤ 36) × (read R s ≡ refused r))

pub record GivenExactlyWhen (R : Rules) : Type 0 where
  pub reading : GivenByReading R
  pub others : GivenByTheOthers R

-- # What every call is told

-- "In 1, 7, 8, 9 and every number that is added later, line and field are 0; in 2, 3, 4 and 6 the field is 0", and where nothing is refused
-- both are. "Line numbers start at 1".
pub record LineAndField (r : Refusal) : Type 0 where
  pub no_line : (r.number ≤ 1) ⊎ (7 ≤ r.number) → r.line ≡ 0
  pub a_line : (2 ≤ r.number) × (r.number ≤ 6) → 1 ≤ r.line
  pub no_field : (r.number ≡ 5 → ⊥) → r.field ≡ 0
  pub a_field : r.field ≤ 15

-- Number 0 says that nothing is refused: it is told exactly where the call is accepted.
pub record ZeroWhenAccepted (R : Rules) : Type 0 where
  pub reading : (s : Text) → ((refusal_of_reading (read R s)).number ≡ 0) ↔ FollowsTheFormat R s
  pub viewing :
      (s : Text) (k : ℕ) →
      ((refusal_of_view (view R k s)).number ≡ 0) ↔ ((1 ≤ k) × (k ≤ 36) × FollowsTheFormat R s)
  pub judging :
      (s : Text) (room : ℕ) →
      ((refusal_of_judgement (judge R room s)).number ≡ 0)
      ↔ ((log : Log) × IsWrittenAs R s log × (length log.records ≤ room))
  pub writing :
      (s : Text) (room : ℕ) →
      ((refusal_of_writing (write R room s)).number ≡ 0)
      ↔ ((log : Log)
      × IsWrittenAs R s log
      × (length (render (written_back R log)) ≤ R.longest_log)
      × (length (render (written_back R log)) ≤ room))

pub record LineAndFieldToldRightly (R : Rules) : Type 0 where
  pub reading : (s : Text) → LineAndField (refusal_of_reading (read R s))
  pub viewing : (s : Text) (k : ℕ) → LineAndField (refusal_of_view (view R k s))
  pub judging : (s : Text) (room : ℕ) → LineAndField (refusal_of_judgement (judge R room s))
  pub writing : (s : Text) (room : ℕ) → LineAndField (refusal_of_writing (write R room s))
