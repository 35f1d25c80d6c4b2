-- What the judge answers: the totals, or why there are none, by the definitions of document 01.
-- Assumes nothing.
use Rattle.std.specs.Prelude.{ℕ, ◌-◌, List, map, length, Result, Ok, Err}
use Rattle.rules.specs.Text.{Text}
use Rattle.rules.specs.Rules.{Rules}
use Rattle.rules.specs.Log.{record_line, ended}
use Rattle.rules.specs.Reading.{Reading, accepted, refused, read}
use Rattle.rules.specs.declared.Refusal.{Refusal}
use Rattle.rules.specs.declared.Totals.{Totals}
use Rattle.rules.specs.Answers.{Judgement, judged, unjudged, judge, records_of_reading, numbers_of_judgement, over}
use Rattle.reader.specs.Read.{heading_of, no_heading}
use Rattle.reader.specs.declared.Heading.{Heading}
use Rattle.judge.specs.declared.Weighed.{Weighed}

-- Where the first record of an accepted log begins: its records stand last.
unfoldable pub first_of : Text → Reading → ℕ
unfolding ended
first_of s (accepted log) = length s - length (ended (map record_line log.records))
first_of s (refused r) = 0

-- The heading of an accepted log.
unfoldable pub heading_in : Reading → Heading
unfolding heading_of no_heading
heading_in (accepted log) = heading_of log
heading_in (refused r) = no_heading

-- The totals, with how many records there are, where the first begins and the heading; or the refusal.
unfoldable pub weighed_by : Judgement → ℕ → ℕ → Heading → Result Weighed Refusal
weighed_by (judged t vs) records first heading =
    Ok (record { totals = t; records = records; first = first; heading = heading })
weighed_by (unjudged r) records first heading = Err r

unfoldable pub weighed_of : Rules → ℕ → Text → Result Weighed Refusal
unfolding weighed_by judge records_of_reading first_of heading_in
weighed_of R room s =
    weighed_by (judge R room s) (records_of_reading (read R s)) (first_of s (read R s)) (heading_in (read R s))

-- The totals alone, or the refusal.
unfoldable pub judged_by : Judgement → Result Totals Refusal
judged_by (judged t vs) = Ok t
judged_by (unjudged r) = Err r

unfoldable pub judged_of : Rules → ℕ → Text → Result Totals Refusal
unfolding judged_by judge
judged_of R room s = judged_by (judge R room s)

-- What the verdict slice holds afterwards: on a refusal, what it held.
abbrev pub verdicts_afterwards : Rules → Text → List ℕ → List ℕ
verdicts_afterwards R s slice = over (numbers_of_judgement (judge R (length slice) s)) slice
