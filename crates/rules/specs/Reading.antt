-- "When the desk says no": the refusals 1 to 6, line by line, and the log that an accepted text is.
-- Assumes nothing.
use Rattle.std.specs.Prelude.{ℕ, zero, suc, ◌+◌, ◌-◌, Bool, cond, ◌&&◌, List, [], ◌∷◌, leb, ltb, eqb, length, take, drop, Result, Ok, Err}
use Rattle.rules.specs.declared.Refusal.{Refusal}
use Rattle.rules.specs.declared.Fault.{Fault}
use Rattle.rules.specs.declared.Due.{Due}
use Rattle.rules.specs.declared.Due.TheVariants.{Identifier, Keyword, Remarks, Remark, Record, End}
use Rattle.rules.specs.Text.{Text, bytes, allowed, digit, span, same, same_but_case, begins, parts, value, number_from}
use Rattle.rules.specs.Rules.{Rules}
use Rattle.rules.specs.Fields.{qso_of, field_rules}
use Rattle.rules.specs.Arguments.{Entry, entries, meets}
use Rattle.rules.specs.Log.{Log, identifier, remarks_line, count_start, keyword_start, crlf}

-- A refusal in numbers.
abbrev pub refusal : ℕ → ℕ → ℕ → Refusal
refusal number line field = record { number = number; line = line; field = field }

-- Why a line is refused, in numbers.
abbrev pub fault : ℕ → ℕ → Fault
fault number field = record { number = number; field = field }

-- The lines at the front of a text, and what is left behind the last of them: its front is no line.
pub record Lines : Type 0 where
  pub whole : List Text
  pub rest : Text

pub data FirstLine : Type 0 where
  a_line : Text → Text → FirstLine
  no_line : FirstLine

-- A line is "CR LF after at most 75 allowed characters".
unfoldable pub first_line : Rules → Text → FirstLine
unfolding span begins crlf
first_line R s =
    let n = span allowed s in
    cond (leb n R.longest_line && begins crlf (drop n s)) (a_line (take n s) (drop (n + 2) s)) no_line

unfoldable pub on_first_line : (Text → Lines) → Text → FirstLine → Lines
on_first_line more s no_line = record { whole = []; rest = s }
on_first_line more s (a_line l rest) =
    let ls = more rest in
    record { whole = l ∷ ls.whole; rest = ls.rest }

-- No text has more lines than bytes, so the count of bytes serves to end the recursion.
unfoldable pub lines_within : Rules → ℕ → Text → Lines
unfolding first_line on_first_line
lines_within R zero s = record { whole = []; rest = s }
lines_within R (suc n) s = on_first_line (lines_within R n) s (first_line R s)

unfoldable pub lines : Rules → Text → Lines
unfolding lines_within
lines R s = lines_within R (length s) s

-- Whether a record line keeps the rules, or the field that breaks one: "field 0 for a wrong number of semicolons, else the first bad field,
-- 1 to 15".
pub data RecordRule : Type 0 where
  keeps : RecordRule
  breaks : ℕ → RecordRule

unfoldable pub first_broken : ℕ → List Bool → RecordRule
first_broken n [] = keeps
first_broken n (b ∷ bs) =
    let later = first_broken (suc n) bs in
    cond b later (breaks n)

unfoldable pub record_rule : Rules → Text → RecordRule
unfolding parts qso_of field_rules first_broken
record_rule R l =
    let fields = first_broken 1 (field_rules R (qso_of (parts l))) in
    cond (eqb (length (parts l)) 15) fields (breaks 0)

-- So many records are due.
unfoldable pub records_due : ℕ → Due
records_due zero = End
records_due (suc n) = Record (suc n)

-- 3: "the line is not the identifier, does not begin with the keyword and its `=`, or is not the `[Remarks]`, whichever is due there"
unfoldable pub whole : Text → Text → Due → Result Due Fault
unfolding same
whole due line next = cond (same line due) (Ok next) (Err (fault 3 0))

-- The keyword as a line spells it, and what stands behind it and its `=`.
unfoldable pub spelling_on : Entry → Text → Text
spelling_on e line = take (length e.keyword) line

unfoldable pub argument_on : Entry → Text → Text
unfolding keyword_start
argument_on e line = drop (length (keyword_start e.keyword)) line

-- W1: "a keyword now gives 3 only if letters differ by more than case or `=` is missing"
unfoldable pub has_keyword : Entry → Text → Bool
unfolding same_but_case spelling_on begins
has_keyword e line =
    same_but_case e.keyword (spelling_on e line) && begins (bytes "=") (drop (length e.keyword) line)

-- 3 as above; 4: "a forced argument .. breaks its rule"
unfoldable pub keyword_line : Rules → Entry → Text → Due → Result Due Fault
unfolding has_keyword meets argument_on
keyword_line R e line next =
    let ruled = cond (meets R e.rule (argument_on e line)) (Ok next) (Err (fault 4 0)) in
    cond (has_keyword e line) ruled (Err (fault 3 0))

-- The first of the keywords that are left is due, after k of them; behind the last of them comes `[Remarks]`.
unfoldable pub keyword_due : Rules → List Entry → ℕ → Text → Result Due Fault
unfolding keyword_line
keyword_due R [] k line = Err (fault 3 0)
keyword_due R (e ∷ []) k line = keyword_line R e line Remarks
keyword_due R (e ∷ f ∷ es) k line = keyword_line R e line (Keyword (k + 1))

-- 4: "the number and `]` of the count line, breaks its rule; N is 0 to 999"
unfoldable pub count_rule : Rules → Text → Result Due Fault
unfolding span number_from value records_due same
count_rule R t =
    let n = span digit t in
    cond (number_from 0 R.most_records (take n t) && same (drop n t) (bytes "]")) (Ok (records_due (value (take n t)))) (Err (fault 4 0))

-- 5: "a record breaks a rule"
unfoldable pub after_record : ℕ → RecordRule → Result Due Fault
unfolding records_due
after_record n keeps = Ok (records_due (n - 1))
after_record n (breaks field) = Err (fault 5 field)

-- What follows from a line where this is due.
unfoldable pub step : Rules → Due → Text → Result Due Fault
unfolding whole identifier remarks_line keyword_due entries begins count_start count_rule after_record record_rule
step R Identifier l = whole identifier l (Keyword 0)
step R (Keyword k) l = keyword_due R (drop k entries) k l
step R Remarks l = whole remarks_line l Remark
step R Remark l = cond (begins count_start l) (count_rule R (drop (length count_start) l)) (Ok Remark)
step R (Record n) l = after_record n (record_rule R l)
step R End l = Err (fault 6 0)

-- What reading a text gives.
pub data Reading : Type 0 where
  accepted : Log → Reading
  refused : Refusal → Reading

-- 2: "the line due has no CR LF ..., but see 6"; 6: "the log ends where a record line is due to begin, or goes on after the last"
unfoldable pub at_rest : Due → ℕ → Text → Reading
at_rest Identifier n s = refused (refusal 2 n 0)
at_rest (Keyword k) n s = refused (refusal 2 n 0)
at_rest Remarks n s = refused (refusal 2 n 0)
at_rest Remark n s = refused (refusal 2 n 0)
at_rest (Record m) n [] = refused (refusal 6 n 0)
at_rest (Record m) n (c ∷ s) = refused (refusal 2 n 0)
at_rest End n [] = accepted (record { keywords = []; arguments = []; remarks = []; records = [] })
at_rest End n (c ∷ s) = refused (refusal 6 n 0)

-- The spelling and the argument that the line of the first keyword brings.
unfoldable pub spelling_due : List Entry → Text → Text
unfolding spelling_on
spelling_due [] line = []
spelling_due (e ∷ es) line = spelling_on e line

unfoldable pub argument_due : List Entry → Text → Text
unfolding argument_on
argument_due [] line = []
argument_due (e ∷ es) line = argument_on e line

-- The log with what a line brings in front.
unfoldable pub with_line : Due → Text → Log → Log
unfolding entries spelling_due argument_due begins count_start qso_of parts
with_line Identifier l log = log
with_line (Keyword k) l log =
    record {
      keywords = spelling_due (drop k entries) l ∷ log.keywords;
      arguments = argument_due (drop k entries) l ∷ log.arguments;
      remarks = log.remarks;
      records = log.records;
    }
with_line Remarks l log = log
with_line Remark l log =
    record {
      keywords = log.keywords;
      arguments = log.arguments;
      remarks = cond (begins count_start l) log.remarks (l ∷ log.remarks);
      records = log.records;
    }
with_line (Record n) l log =
    record {
      keywords = log.keywords;
      arguments = log.arguments;
      remarks = log.remarks;
      records = qso_of (parts l) ∷ log.records;
    }
with_line End l log = log

unfoldable pub put : Due → Text → Reading → Reading
unfolding with_line
put due l (accepted log) = accepted (with_line due l log)
put due l (refused r) = refused r

unfoldable pub on_next : (Due → Reading) → ℕ → Due → Text → Result Due Fault → Reading
unfolding put
on_next more n due l (Ok next) = put due l (more next)
on_next more n due l (Err e) = refused (refusal e.number n e.field)

-- "line by line": from the line of this number on, where this is due.
unfoldable pub walk : Rules → Due → ℕ → List Text → Text → Reading
unfolding at_rest step on_next
walk R due n [] rest = at_rest due n rest
walk R due n (l ∷ ls) rest = on_next (λ next. walk R next (n + 1) ls rest) n due l (step R due l)

-- "Order: .. 1, then line by line"; "Line numbers start at 1"; "In 1 .. line and field are 0"
unfoldable pub read : Rules → Text → Reading
unfolding lines walk
read R s =
    let ls = lines R s in
    let by_line = walk R Identifier 1 ls.whole ls.rest in
    cond (ltb R.longest_log (length s)) (refused (refusal 1 0 0)) by_line
