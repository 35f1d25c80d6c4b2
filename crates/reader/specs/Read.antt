-- What is answered of a log as a whole, and of its two parts: what stands in front of the records, and the records.
-- Assumes nothing.
use Rattle.std.specs.Prelude.{ℕ, zero, suc, ◌+◌, ◌-◌, Bool, true, false, cond, List, [], ◌∷◌, map, eqb, ltb, length, take, Result, Ok, Err, Option, None, Some}
use Rattle.rules.specs.declared.Fault.{Fault}
use Rattle.rules.specs.declared.Due.{Due}
use Rattle.rules.specs.declared.Due.TheVariants.{Identifier, Keyword, Remarks, Remark, Record, End}
use Rattle.rules.specs.declared.Refusal.{Refusal}
use Rattle.rules.specs.Text.{Text}
use Rattle.rules.specs.Rules.{Rules}
use Rattle.rules.specs.Arguments.{entries}
use Rattle.rules.specs.Log.{Log, lines_of, ended, record_line, respelt}
use Rattle.rules.specs.Reading.{Reading, accepted, lines, read, refusal, refused, step, fault}
use Rattle.reader.specs.declared.Contact.{Contact}
use Rattle.header.specs.declared.KeywordRead.{KeywordRead}
use Rattle.header.specs.Header.{keyword_at}
use Rattle.reader.specs.declared.Head.{Head}
use Rattle.reader.specs.declared.Accepted.{Accepted}
use Rattle.reader.specs.declared.Heading.{Heading}
use Rattle.reader.specs.declared.Stepped.{Stepped}
use Rattle.reader.specs.Contact.{behind}
use Rattle.reader.specs.Record.{record_at}

-- # A line

-- The matcher says that a keyword is spelt otherwise than it is listed.
abbrev pub says_respelt : KeywordRead → Bool
says_respelt KeywordRead.Listed = false
says_respelt KeywordRead.Respelt = true
says_respelt KeywordRead.Differs = false

-- A line where this is due has its keyword so.
unfoldable pub respelt_by : Due → Text → Bool
unfolding keyword_at
respelt_by Identifier l = false
respelt_by (Keyword k) l = says_respelt (keyword_at k l)
respelt_by Remarks l = false
respelt_by Remark l = false
respelt_by (Record n) l = false
respelt_by End l = false

-- What follows from a line, and how many keywords are respelt behind it, where so many were in front of it.
unfoldable pub step_of : Rules → ℕ → Due → Text → Stepped
unfolding step respelt_by
step_of R before due l = record { next = step R due l; respelt = before + cond (respelt_by due l) 1 0 }

-- The argument behind a keyword after so many: the next keyword is due, or `[Remarks]` behind the last.
unfoldable pub after_argument : ℕ → Bool → Result Due Fault
after_argument k kept = cond kept (Ok (cond (ltb k 35) (Keyword (k + 1)) Remarks)) (Err (fault 4 0))

-- # A log

-- Where the nine claims begin: their lines stand behind 27, the identifier's and those of 26 keywords.
unfoldable pub claims_start : Log → ℕ
unfolding ended lines_of
claims_start log = length (ended (take 27 (lines_of log)))

-- Of the header besides how many of its keywords are not spelt as they are listed.
unfoldable pub heading_of : Log → Heading
unfolding claims_start respelt entries
heading_of log = record { claims = claims_start log; respelt = respelt entries log.keywords }

-- The code's word for each case: of an accepted log, how many records there are, where the first begins, which is as far from the end as the
-- records are long, and its heading.
unfoldable pub read_told : ℕ → Reading → Result Accepted Refusal
unfolding ended record_line heading_of
read_told end (accepted log) =
    Ok
    (record {
      records = length log.records;
      first = end - length (ended (map record_line log.records));
      heading = heading_of log;
    })
read_told end (refused r) = Err r

unfoldable pub read_of : Rules → Text → Result Accepted Refusal
unfolding read_told read
read_of R s = read_told (length s) (read R s)

-- # In front of the records

-- Something is due that stands in front of them.
abbrev pub early : Due → Bool
early Identifier = true
early (Keyword k) = true
early Remarks = true
early Remark = true
early (Record n) = false
early End = false

-- The count line says how many records there are, and no line in front of it does.
unfoldable pub counted_by : Due → Option ℕ
counted_by Identifier = None
counted_by (Keyword k) = None
counted_by Remarks = None
counted_by Remark = None
counted_by (Record n) = Some n
counted_by End = Some 0

-- The claims begin behind the line of the keyword that comes after 25, and else where they were found to begin.
unfoldable pub claims_by : Due → ℕ → ℕ → ℕ
claims_by Identifier claims at = claims
claims_by (Keyword k) claims at = cond (eqb k 25) at claims
claims_by Remarks claims at = claims
claims_by Remark claims at = claims
claims_by (Record n) claims at = claims
claims_by End claims at = claims

-- What is known of the header behind a line.
unfoldable pub heading_by : Due → Text → Heading → ℕ → Heading
unfolding claims_by respelt_by
heading_by due l heading at =
    record {
      claims = claims_by due heading.claims at;
      respelt = heading.respelt + cond (respelt_by due l) 1 0;
    }

unfoldable pub no_heading : Heading
no_heading = record { claims = 0; respelt = 0 }

-- A line that is taken, behind which the next begins at a place: the count line is the last of the head.
unfoldable pub head_count : Result Head Refusal → ℕ → ℕ → Heading → Option ℕ → Result Head Refusal
head_count more n at heading (Some records) = Ok (record { records = records; first = at; heading = heading; line = n + 1 })
head_count more n at heading None = more

unfoldable pub head_next : (Due → Result Head Refusal) → ℕ → ℕ → Heading → Result Due Fault → Result Head Refusal
unfolding head_count counted_by
head_next more n at heading (Ok next) = head_count (more next) n at heading (counted_by next)
head_next more n at heading (Err e) = Err (refusal e.number n e.field)

-- What is told of these lines, the first of which has this number, begins at a place and is due as said.
unfoldable pub head_from : Rules → Due → ℕ → ℕ → Heading → List Text → Result Head Refusal
unfolding head_next heading_by step
head_from R due n at heading [] = Err (refusal 2 n 0)
head_from R due n at heading (l ∷ ls) =
    head_next (λ next. head_from R next (n + 1) (at + length l + 2) (heading_by due l heading (at + length l + 2)) ls) n (at + length l + 2) heading (step R due l)

unfoldable pub head_of : Rules → Text → Result Head Refusal
unfolding head_from no_heading lines
head_of R s =
    let by_line = head_from R Identifier 1 0 no_heading (lines R s).whole in
    cond (ltb R.longest_log (length s)) (Err (refusal 1 0 0)) by_line

-- # The records

-- Where the first record begins, and the heading; then of so many records from the line of this number on, that begins at a place.
unfoldable pub record_next : (Contact → Result Accepted Refusal) → ℕ → Result Contact Fault → Result Accepted Refusal
record_next more n (Ok c) = more c
record_next more n (Err e) = Err (refusal e.number n e.field)

unfoldable pub records_told : Rules → Text → ℕ → ℕ → Heading → ℕ → ℕ → ℕ → Result Accepted Refusal
unfolding record_next record_at
records_told R s records first heading zero n at =
    cond (ltb at (length s)) (Err (refusal 6 n 0)) (Ok (record { records = records; first = first; heading = heading }))
records_told R s records first heading (suc left) n at =
    record_next (λ c. records_told R s records first heading left (n + 1) (behind c)) n (record_at R s at)
