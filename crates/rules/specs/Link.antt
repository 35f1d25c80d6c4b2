-- W7: "Bytes come bit by bit, zero at times. The reading state is lent by the caller and updated as bytes arrive; verdicts lie in one lent slice,
-- worked calls, squares and exchanges in another of 24 bytes a record, both lent unaltered to each call." The state is a value here, and a call
-- gives the state behind it.
-- Assumes nothing.
use Rattle.std.specs.Prelude.{ℕ, ◌+◌, ◌*◌, Bool, true, false, cond, ◌&&◌, ◌||◌, List, [], ◌∷◌, ◌++◌, map, ltb, eqb, length, Result, Ok, Err}
use Rattle.rules.specs.declared.Fault.{Fault}
use Rattle.rules.specs.declared.Refusal.{Refusal}
use Rattle.rules.specs.declared.Totals.{Totals}
use Rattle.rules.specs.declared.Due.{Due}
use Rattle.rules.specs.declared.Due.TheVariants.{Identifier, Keyword, Remarks, Remark, Record, End}
use Rattle.rules.specs.Text.{Text, allowed}
use Rattle.rules.specs.Rules.{Rules}
use Rattle.rules.specs.Log.{Log}
use Rattle.rules.specs.Judging.{verdict_number, verdicts_of_log, totals_of_log, zero_totals}
use Rattle.rules.specs.Reading.{refusal, step, Reading, accepted, refused, at_rest, with_line}
use Rattle.rules.specs.Answers.{no_refusal}

-- # The state

-- A line that was taken, and what was due there.
pub record Finished : Type 0 where
  pub due : Due
  pub line : Text

-- What the link knows between two calls.
pub record Link : Type 0 where
  -- the refusal that is kept; its number is 0 as long as there is none
  pub refusal : Refusal
  -- what is due at the line that is coming
  pub due : Due
  -- the lines that were taken, the last one first
  pub finished : List Finished
  -- the characters of the line that is not finished, and whether its CR came
  pub begun : Text
  pub returned : Bool
  -- how many bytes came
  pub count : ℕ
  -- N, once the count line is read
  pub announced : ℕ

unfoldable pub opened : Link
unfolding no_refusal
opened =
    record {
      refusal = no_refusal;
      due = Identifier;
      finished = [];
      begun = [];
      returned = false;
      count = 0;
      announced = 0;
    }

-- No refusal is kept.
abbrev pub is_open : Link → Bool
is_open k = eqb k.refusal.number 0

-- The number of the line that is coming: "Line numbers start at 1".
abbrev pub line_of : Link → ℕ
line_of k = length k.finished + 1

-- "After a refusal all further calls repeat it": it is kept. What was taken before stays.
unfoldable pub stopped : Link → Refusal → Link
stopped k r =
    record {
      refusal = r;
      due = k.due;
      finished = k.finished;
      begun = k.begun;
      returned = k.returned;
      count = k.count;
      announced = k.announced;
    }

-- # What is lent

-- How long the slices of a call are: so many verdicts, and so many bytes for what is worked.
pub record Lent : Type 0 where
  pub verdicts : ℕ
  pub worked : ℕ

-- "24 bytes a record"
abbrev pub worked_bytes : ℕ
worked_bytes = 24

-- "a short slice": one of them is, for so many records.
unfoldable pub is_short : Lent → ℕ → Bool
is_short lent n = ltb lent.verdicts n || ltb lent.worked (n * worked_bytes)

-- # One byte

-- N as the count line says it, by what is due behind it.
unfoldable pub records_in : Due → ℕ
records_in Identifier = 0
records_in (Keyword k) = 0
records_in Remarks = 0
records_in Remark = 0
records_in (Record n) = n
records_in End = 0

-- In front of the records N is what the next line announces; among them it stays.
unfoldable pub announced_by : Due → Due → ℕ → ℕ
unfolding records_in
announced_by Identifier next n = records_in next
announced_by (Keyword k) next n = records_in next
announced_by Remarks next n = records_in next
announced_by Remark next n = records_in next
announced_by (Record m) next n = n
announced_by End next n = n

-- The line is taken, and the next one is due.
unfoldable pub goes_on : Link → Text → Due → Link
unfolding announced_by
goes_on k l next =
    record {
      refusal = k.refusal;
      due = next;
      finished = record { due = k.due; line = l } ∷ k.finished;
      begun = [];
      returned = false;
      count = k.count;
      announced = announced_by k.due next k.announced;
    }

-- "a short slice is refused when the count line is read, before any record"
unfoldable pub if_long : Lent → Link → Link
unfolding is_short stopped
if_long lent k = cond (is_short lent k.announced) (stopped k (refusal 7 0 0)) k

-- What follows from a finished line: 3, 4 and 5 as document 01 says.
unfoldable pub after_line : Lent → Link → Text → Result Due Fault → Link
unfolding goes_on if_long stopped
after_line lent k l (Ok next) = if_long lent (goes_on k l next)
after_line lent k l (Err e) = stopped k (refusal e.number (line_of k) e.field)

unfoldable pub finishes : Rules → Lent → Link → Link
unfolding after_line step
finishes R lent k = after_line lent k k.begun (step R k.due k.begun)

-- One character more, and the CR.
unfoldable pub holding : Link → Text → Bool → Link
holding k begun returned =
    record {
      refusal = k.refusal;
      due = k.due;
      finished = k.finished;
      begun = begun;
      returned = returned;
      count = k.count;
      announced = k.announced;
    }

-- "2: the line due has no CR LF after at most 75 allowed characters": so it is from the first byte on that no line can have there.
unfoldable pub no_line_here : Link → Link
unfolding stopped
no_line_here k = stopped k (refusal 2 (line_of k) 0)

-- Behind the CR only LF can come.
unfoldable pub behind_return : Rules → Lent → Link → ℕ → Link
unfolding finishes no_line_here
behind_return R lent k b = cond (eqb b 10) (finishes R lent k) (no_line_here k)

-- In front of it an allowed character, as long as there are not 75, or the CR.
unfoldable pub in_line : Rules → Link → ℕ → Link
unfolding holding no_line_here
in_line R k b =
    cond (eqb b 13) (holding k k.begun true)
    (cond (allowed b && ltb (length k.begun) R.longest_line) (holding k (k.begun ++ (b ∷ [])) false) (no_line_here k))

unfoldable pub of_line : Rules → Lent → Link → ℕ → Link
unfolding behind_return in_line
of_line R lent k b = cond k.returned (behind_return R lent k b) (in_line R k b)

-- 6: the log "goes on after the last".
unfoldable pub placed : Rules → Lent → Due → Link → ℕ → Link
unfolding of_line stopped
placed R lent Identifier k b = of_line R lent k b
placed R lent (Keyword n) k b = of_line R lent k b
placed R lent Remarks k b = of_line R lent k b
placed R lent Remark k b = of_line R lent k b
placed R lent (Record n) k b = of_line R lent k b
placed R lent End k b = stopped k (refusal 6 (line_of k) 0)

unfoldable pub counted : Link → Link
counted k =
    record {
      refusal = k.refusal;
      due = k.due;
      finished = k.finished;
      begun = k.begun;
      returned = k.returned;
      count = k.count + 1;
      announced = k.announced;
    }

-- "number 1 comes at the 65,536th byte, unless the bytes before it already settle a refusal"
unfoldable pub taken : Rules → Lent → Link → ℕ → Link
unfolding placed counted stopped
taken R lent k b =
    cond (ltb k.count R.longest_log) (placed R lent k.due (counted k) b) (stopped k (refusal 1 0 0))

-- "After a refusal all further calls repeat it and change nothing."
unfoldable pub byte_in : Rules → Lent → Link → ℕ → Link
unfolding taken
byte_in R lent k b = cond (is_open k) (taken R lent k b) k

-- # The calls

-- 7, "before any byte is taken, when a later call, the closing too, lends too little for N"
unfoldable pub asked : Lent → Link → Link
unfolding if_long
asked lent k = cond (is_open k) (if_long lent k) k

unfoldable pub bytes_in : Rules → Lent → Link → Text → Link
unfolding byte_in
bytes_in R lent k [] = k
bytes_in R lent k (b ∷ s) = bytes_in R lent (byte_in R lent k b) s

-- Feeding: what is answered is the refusal that is kept afterwards, or that there is none.
unfoldable pub feed : Rules → Lent → Link → Text → Link
unfolding bytes_in asked
feed R lent k s = bytes_in R lent (asked lent k) s

-- The log that the lines make which were taken.
unfoldable pub log_from : List Finished → Log → Log
unfolding with_line
log_from [] log = log
log_from (f ∷ before) log = log_from before (with_line f.due f.line log)

unfoldable pub log_of : Link → Log
unfolding log_from
log_of k = log_from k.finished (record { keywords = []; arguments = []; remarks = []; records = [] })

-- What the closing call answers, and the state behind it.
pub record Closed : Type 0 where
  pub link : Link
  pub refusal : Refusal
  pub totals : Totals

abbrev unclosed : Link → Closed
unclosed k = record { link = k; refusal = k.refusal; totals = zero_totals }

-- The bytes behind the last finished line.
abbrev pub rest_of : Link → Text
rest_of k = k.begun ++ cond k.returned (13 ∷ []) []

-- "13 a call after a closing that accepted": it is what every further call finds. Else the closing says what the reader says at the end of a log.
unfoldable pub closed_by : Rules → Link → Reading → Closed
unfolding stopped no_refusal totals_of_log log_of zero_totals
closed_by R k (accepted log) =
    record { link = stopped k (refusal 13 0 0); refusal = no_refusal; totals = totals_of_log R (log_of k) }
closed_by R k (refused r) = unclosed (stopped k r)

unfoldable pub closed_if : Rules → Link → Closed
unfolding closed_by at_rest zero_totals
closed_if R k = cond (is_open k) (closed_by R k (at_rest k.due (line_of k) (rest_of k))) (unclosed k)

unfoldable pub close : Rules → Lent → Link → Closed
unfolding closed_if asked
close R lent k = closed_if R (asked lent k)

-- "classes": the numbers of the verdicts that are written so far, in front of the verdict slice.
unfoldable pub link_verdicts : Rules → Link → List ℕ
unfolding verdict_number verdicts_of_log log_of
link_verdicts R k = map verdict_number (verdicts_of_log R (log_of k))

-- Pieces, one behind the other.
unfoldable pub fed_all : Rules → Lent → Link → List Text → Link
unfolding feed
fed_all R lent k [] = k
fed_all R lent k (p ∷ ps) = fed_all R lent (feed R lent k p) ps
