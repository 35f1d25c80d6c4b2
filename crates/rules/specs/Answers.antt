-- "When the desk says no": the refusals 7 to 9, what is answered to each call, and what a lent slice holds afterwards.
-- Assumes nothing.
use Rattle.std.specs.Prelude.{ℕ, ◌+◌, ◌-◌, Bool, false, cond, ◌&&◌, List, [], ◌∷◌, ◌++◌, map, leb, ltb, length, get_or, take, drop}
use Rattle.rules.specs.declared.Refusal.{Refusal}
use Rattle.rules.specs.declared.Totals.{Totals}
use Rattle.rules.specs.Text.{Text, same}
use Rattle.rules.specs.Rules.{Rules}
use Rattle.rules.specs.Arguments.{Entry, entries}
use Rattle.rules.specs.Log.{Log, argument, lines_of, ended, render, keyword_start, respelt}
use Rattle.rules.specs.Judging.{verdict_number, verdicts_of_log, totals_of_log, zero_totals}
use Rattle.rules.specs.Writing.{written_back}
use Rattle.rules.specs.Reading.{Reading, accepted, refused, refusal, read}

-- Nothing is refused.
unfoldable pub no_refusal : Refusal
no_refusal = refusal 0 0 0

-- Reading: the refusal, how many records an accepted log has, and how many of its keywords are not spelt as they are listed.
unfoldable pub refusal_of_reading : Reading → Refusal
unfolding no_refusal
refusal_of_reading (accepted log) = no_refusal
refusal_of_reading (refused r) = r

unfoldable pub records_of_reading : Reading → ℕ
records_of_reading (accepted log) = length log.records
records_of_reading (refused r) = 0

unfoldable pub respelt_of_reading : Reading → ℕ
unfolding respelt entries
respelt_of_reading (accepted log) = respelt entries log.keywords
respelt_of_reading (refused r) = 0

-- "A view is the named argument's part of the log, and is given only of an accepted log": where it starts, the argument, and whether its keyword
-- is spelt as it is listed.
pub data Viewing : Type 0 where
  seen : ℕ → Text → Bool → Viewing
  unseen : Refusal → Viewing

-- The bytes in front of a keyword's argument: the identifier, the lines of the keywords before it, and the keyword itself.
unfoldable pub argument_start : Log → ℕ → Entry → ℕ
unfolding ended lines_of keyword_start
argument_start log k e = length (ended (take k (lines_of log))) + length (keyword_start e.keyword)

-- The k-th keyword of the log is spelt as it is listed.
unfoldable pub is_listed : Log → ℕ → Entry → Bool
unfolding same
is_listed log k e = same e.keyword (get_or log.keywords (k - 1) [])

-- 9: "the keyword number is not 1 to 36"; "Order: 9, 1, then line by line"
unfoldable pub view_of_reading : ℕ → List Entry → Reading → Viewing
unfolding argument_start argument is_listed
view_of_reading k [] r = unseen (refusal 9 0 0)
view_of_reading k (e ∷ es) (accepted log) =
    seen (argument_start log k e) (argument log e.keyword) (is_listed log k e)
view_of_reading k (e ∷ es) (refused r) = unseen r

unfoldable pub view : Rules → ℕ → Text → Viewing
unfolding view_of_reading entries read
view R k s = cond (leb 1 k) (view_of_reading k (drop (k - 1) entries) (read R s)) (unseen (refusal 9 0 0))

unfoldable pub refusal_of_view : Viewing → Refusal
unfolding no_refusal
refusal_of_view (seen start t listed) = no_refusal
refusal_of_view (unseen r) = r

unfoldable pub start_of_view : Viewing → ℕ
start_of_view (seen start t listed) = start
start_of_view (unseen r) = 0

unfoldable pub viewed : Viewing → Text
viewed (seen start t listed) = t
viewed (unseen r) = []

unfoldable pub listed_of_view : Viewing → Bool
listed_of_view (seen start t listed) = listed
listed_of_view (unseen r) = false

-- Judging with a verdict slice of so many bytes. 7: "the verdict slice is shorter than N"
pub data Judgement : Type 0 where
  judged : Totals → List ℕ → Judgement
  unjudged : Refusal → Judgement

unfoldable pub judge_log : Rules → ℕ → Log → Judgement
unfolding totals_of_log verdict_number verdicts_of_log
judge_log R room log =
    let fits = judged (totals_of_log R log) (map verdict_number (verdicts_of_log R log)) in
    cond (ltb room (length log.records)) (unjudged (refusal 7 0 0)) fits

unfoldable pub judge_reading : Rules → ℕ → Reading → Judgement
unfolding judge_log
judge_reading R room (accepted log) = judge_log R room log
judge_reading R room (refused r) = unjudged r

unfoldable pub judge : Rules → ℕ → Text → Judgement
unfolding judge_reading read
judge R room s = judge_reading R room (read R s)

unfoldable pub refusal_of_judgement : Judgement → Refusal
unfolding no_refusal
refusal_of_judgement (judged t vs) = no_refusal
refusal_of_judgement (unjudged r) = r

-- "A refusal gives zero totals, an empty view, length 0"
unfoldable pub totals_of_judgement : Judgement → Totals
unfolding zero_totals
totals_of_judgement (judged t vs) = t
totals_of_judgement (unjudged r) = zero_totals

unfoldable pub numbers_of_judgement : Judgement → List ℕ
numbers_of_judgement (judged t vs) = vs
numbers_of_judgement (unjudged r) = []

-- Writing to an output slice of so many bytes. 8: "the result exceeds 65,535 bytes or the output slice"
pub data Writing : Type 0 where
  written : Text → Writing
  unwritten : Refusal → Writing

unfoldable pub write_log : Rules → ℕ → Log → Writing
unfolding render written_back
write_log R room log =
    let result = render (written_back R log) in
    cond (leb (length result) R.longest_log && leb (length result) room) (written result) (unwritten (refusal 8 0 0))

unfoldable pub write_reading : Rules → ℕ → Reading → Writing
unfolding write_log
write_reading R room (accepted log) = write_log R room log
write_reading R room (refused r) = unwritten r

unfoldable pub write : Rules → ℕ → Text → Writing
unfolding write_reading read
write R room s = write_reading R room (read R s)

unfoldable pub refusal_of_writing : Writing → Refusal
unfolding no_refusal
refusal_of_writing (written t) = no_refusal
refusal_of_writing (unwritten r) = r

unfoldable pub bytes_of_writing : Writing → Text
bytes_of_writing (written t) = t
bytes_of_writing (unwritten r) = []

-- "no byte of a lent slice is changed. Acceptance writes N verdicts, or the result's bytes; the rest of the slice keeps its contents": what
-- a slice holds after so much was written to its front. On a refusal nothing is.
unfoldable pub over : List ℕ → List ℕ → List ℕ
over new slice = new ++ drop (length new) slice
