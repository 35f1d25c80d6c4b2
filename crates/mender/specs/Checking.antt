-- What reading the mended lines tells, line by line: a mended text need not be put together to be read.
-- Assumes nothing.
use Rattle.std.specs.Prelude.{ℕ, ◌+◌, cond, List, [], ◌∷◌, length, Result, Ok, Err}
use Rattle.rules.specs.declared.Fault.{Fault}
use Rattle.rules.specs.declared.Due.{Due}
use Rattle.rules.specs.declared.Due.TheVariants.{Identifier, Keyword, Remarks, Remark, Record, End}
use Rattle.rules.specs.declared.Refusal.{Refusal}
use Rattle.rules.specs.Text.{Text}
use Rattle.rules.specs.Rules.{Rules}
use Rattle.rules.specs.Log.{ended, line_rule}
use Rattle.rules.specs.Reading.{Reading, accepted, fault, refused, step, at_rest, on_next}
use Rattle.rules.specs.Mending.{MendedLine, texts_of, mended_lines, changes_from}
use Rattle.mender.specs.declared.Mended.{Mended}

-- Where this is due, something stands that is no line of a log: 2, but 6 where nothing more is due.
unfoldable pub no_line_due : Due → Fault
no_line_due Identifier = fault 2 0
no_line_due (Keyword k) = fault 2 0
no_line_due Remarks = fault 2 0
no_line_due Remark = fault 2 0
no_line_due (Record n) = fault 2 0
no_line_due End = fault 6 0

-- What follows from a text that CR LF stand behind, where this is due.
unfoldable pub line_next : Rules → Due → Text → Result Due Fault
unfolding step line_rule no_line_due
line_next R due l =
    let taken = step R due l in
    cond (line_rule R l) taken (Err (no_line_due due))

-- From the line of this number on.
unfoldable pub walk_lines : Rules → Due → ℕ → List Text → Reading
unfolding at_rest on_next line_next
walk_lines R due n [] = at_rest due n []
walk_lines R due n (l ∷ ls) = on_next (λ next. walk_lines R next (n + 1) ls) n due l (line_next R due l)

-- How long the mended text is, and its list, or why it is refused.
unfoldable pub checked_by : ℕ → ℕ → Reading → Result Mended Refusal
checked_by long listed (accepted log) = Ok (record { length = long; changes = listed })
checked_by long listed (refused r) = Err r

-- The lines end where this is due: "the log ends where a record line is due to begin" is 6.
unfoldable pub rest_told : Due → ℕ → ℕ → ℕ → Result Mended Refusal
unfolding checked_by at_rest
rest_told due n long listed = checked_by long listed (at_rest due n [])

-- From the line of this number on, where so much is in front of it.
unfoldable pub checked_from : Rules → Due → ℕ → ℕ → ℕ → List MendedLine → Result Mended Refusal
unfolding checked_by ended texts_of changes_from walk_lines
checked_from R due n long listed ls =
    checked_by (long + length (ended (texts_of ls))) (listed + length (changes_from n ls)) (walk_lines R due n (texts_of ls))

unfoldable pub checked_of : Rules → Text → Result Mended Refusal
unfolding checked_from mended_lines
checked_of R s = checked_from R Identifier 1 0 0 (mended_lines s)
