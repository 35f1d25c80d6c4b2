-- What the table of cases asks, and how an answer is put in numbers.
-- Assumes nothing.
use Rattle.std.specs.Prelude.{ℕ, ◌+◌, Bool, true, false, length, set, replicate, Result, Ok, Err}
use Prim.Native.String.{String}
use mathlib.Core.List.{List, [], ◌∷◌, ◌++◌, map, flat_map}
use Rattle.rules.specs.declared.Fault.{Fault}
use Rattle.rules.specs.declared.Refusal.{Refusal}
use Rattle.rules.specs.declared.Totals.{Totals}
use Rattle.rules.specs.declared.Due.{Due}
use Rattle.rules.specs.Text.{Text, bytes, same_but_case}
use Rattle.rules.specs.Rules.{base}
use Rattle.rules.specs.Fields.{day_exists, full_year, qso_of}
use Rattle.rules.specs.Arguments.{Rule, meets}
use Rattle.rules.specs.Log.{Log, render, valid}
use Rattle.rules.specs.Judging.{Declared, declared, verdict_number, verdicts_of_log, mode_numbers, modes_together, totals_of_log}
use Rattle.rules.specs.Writing.{written_back, unclaimed}
use Rattle.rules.specs.Reading.{FirstLine, a_line, no_line, first_line, RecordRule, keeps, breaks, record_rule, Reading, accepted, refused, read, step}
use Rattle.rules.specs.Answers.{view, refusal_of_view, start_of_view, viewed, listed_of_view, judge, refusal_of_judgement, totals_of_judgement, numbers_of_judgement, write, refusal_of_writing, bytes_of_writing, refusal_of_reading, records_of_reading, respelt_of_reading, over}
use Rattle.rules.specs.Mending.{mended_text, Change, changes, Rooms, mend, refusal_of_mending, bytes_of_mending, kinds_of_mending, lines_of_mending}
use Rattle.rules.specs.Session.{Session, session, Call, Reply, session_verdicts, session_totals, has_place, session_after, replies_to}
use Rattle.rules.specs.Link.{Link, opened, Lent, feed, close, link_verdicts}
use Rattle.rules.specs.Striking.{Places, strike, place_after, struck_worth, strike_out}
use Rattle.rules.specs.Desk.{desk}

-- A call of the link, with slices of so many verdicts and so many bytes.
pub data LinkCall : Type 0 where
  feeds : ℕ → ℕ → Text → LinkCall
  closes : ℕ → ℕ → LinkCall

pub data Question : Type 0 where
  -- of a text: whether a line stands at its front, as 1 and the line's length, else 0
  has_line : Text → Question
  -- of a line where this is due: 0 where it is taken, else the number and the field of the refusal
  leads : Due → Text → Question
  -- of two digits: the year; of a year, a month and a day: 1 where the day is in the calendar, else 0
  is_year : ℕ → Question
  has_day : ℕ → ℕ → ℕ → Question
  -- of two texts: 1 where they are the same but for the case of their letters, else 0
  spells_alike : Text → Text → Question
  -- of an argument: 1 where it keeps its rule, else 0
  meets_rule : Rule → Text → Question
  -- of a record line: 0 where it is taken, else 5 and the field
  is_record : Text → Question
  -- of a log: number, line and field, and the number of records
  is_read : Text → Question
  -- of a log: how many of its keywords are not spelt as they are listed; and of a keyword's number besides: 1 where that one is, else 0
  respells : Text → Question
  spells_as_listed : ℕ → Text → Question
  -- of an accepted log: whether it is valid and written as the text
  is_log : Text → Question
  -- of an accepted log: 1 where it is valid after this change, else 0
  is_valid_with : (Log → Log) → Text → Question
  -- of a log and a slice of so many bytes: number, line, field and verdicts
  is_judged : ℕ → Text → Question
  -- of a log: the twelve totals; the eleven counts of modes, and all of them together; what the desk program writes
  comes_to : Text → Question
  comes_by : Text → Question
  is_shown : Text → Question
  -- of a log and a slice of so many bytes: number, line, field, and the bytes written
  is_written : ℕ → Text → Question
  -- of a log and a slice that holds this: what the slice holds after judging, and after writing
  leaves_judging : List ℕ → Text → Question
  leaves_writing : List ℕ → Text → Question
  -- of an accepted log: its bytes with nothing in the places that writing back may change
  is_unclaimed : Text → Question
  -- of a log and a keyword's number: number, line, field, start, and the argument
  is_viewed : ℕ → Text → Question
  -- of a log with records struck: its total, and its verdicts; of a log written back and then struck
  is_struck : Places → Text → Question
  is_written_and_struck : Places → Text → Question
  -- of a log with records struck: its bytes, and what the struck records are worth at the most
  is_struck_to : Places → Text → Question
  is_worth : Places → Text → Question
  -- of struck places and a place: the place that the record there has afterwards
  comes_to_stand : Places → ℕ → Question
  -- of a log, marks and a slice of so many bytes: number, line, field, and the bytes written; of a slice that holds this: what it holds afterwards
  strikes_out : ℕ → List ℕ → Text → Question
  leaves_striking : List ℕ → List ℕ → Text → Question
  -- of a text: what it is mended to, whatever the reader says of it; the kind and the line of each thing that was changed
  mends_to : Text → Question
  mends_in : Text → Question
  -- of a text and slices so long for the mended log, the kinds and the lines: number, line, field, the kind and the line of each change, the bytes
  is_mended : ℕ → ℕ → ℕ → Text → Question
  -- of a text and slices that hold this: what the three hold after mending, one behind the other
  leaves_mending : List ℕ → List ℕ → List ℕ → Text → Question
  -- of calls of a session with room for so many records, one behind the other: of each call number, line and field, and then the total and the
  -- verdicts
  plays : ℕ → List Call → Question
  -- the same: at the end the twelve totals and the eleven counts of modes
  ends_with : ℕ → List Call → Question
  -- of so many records present and room for so many: 1 where there is a place for one more, else 0
  has_place_after : ℕ → ℕ → Question
  -- of a link that was opened, to which so many bytes came before the first that is told here, and of calls: of a piece number, line, field and how
  -- many verdicts are written; of a closing number, line, field, the total and the verdicts
  links : ℕ → List LinkCall → Question

abbrev truth : Bool → List ℕ
truth true = 1 ∷ []
truth false = 0 ∷ []

abbrev paper : Refusal → List ℕ
paper r = r.number ∷ r.line ∷ r.field ∷ []

abbrev sums : Totals → List ℕ
sums t =
    t.credited
    ∷ t.voids
    ∷ t.duplicates
    ∷ t.errors
    ∷ t.points
    ∷ t.squares
    ∷ t.exchanges
    ∷ t.countries
    ∷ t.squarebonus
    ∷ t.exchangebonus
    ∷ t.countrybonus
    ∷ t.total
    ∷ []

abbrev line_in : FirstLine → List ℕ
line_in (a_line l rest) = 1 ∷ length l ∷ []
line_in no_line = 0 ∷ []

abbrev next_in : Result Due Fault → List ℕ
next_in (Ok due) = 0 ∷ []
next_in (Err e) = e.number ∷ e.field ∷ []

abbrev record_in : RecordRule → List ℕ
record_in keeps = 0 ∷ []
record_in (breaks field) = 5 ∷ field ∷ []

abbrev changes_in_numbers : List Change → List ℕ
changes_in_numbers [] = []
changes_in_numbers (c ∷ cs) = c.kind ∷ c.line ∷ changes_in_numbers cs

-- The kinds and the lines of a list, each kind in front of its line. Of two lists that are not as long as each other, the rest stands behind.
unfoldable pub paired : List ℕ → List ℕ → List ℕ
paired [] ls = ls
paired (k ∷ ks) [] = k ∷ ks
paired (k ∷ ks) (l ∷ ls) = k ∷ l ∷ paired ks ls

abbrev rooms_for : ℕ → ℕ → ℕ → Rooms
rooms_for out kinds lines = record { out = out; kinds = kinds; lines = lines }

-- What is asked of a log that has to be accepted; a refused one answers with its refusal.
abbrev of_log : (Log → List ℕ) → Reading → List ℕ
of_log f (accepted log) = f log
of_log f (refused r) = paper r

-- A session that was not started, and one with so many records.
abbrev undeclared : Declared
undeclared =
    record {
      square_bonus = 0;
      square_multiplier = 0;
      exchange_bonus = 0;
      exchange_multiplier = 0;
      country_bonus = 0;
      country_multiplier = 0;
    }

abbrev unstarted : Session
unstarted = session undeclared []

abbrev reply_in : Reply → List ℕ
reply_in r =
    paper r.refusal ++ (session_totals base r.session).total ∷ session_verdicts base r.session

abbrev judged_in : Log → List ℕ
judged_in log = (totals_of_log base log).total ∷ map verdict_number (verdicts_of_log base log)

abbrev lent_of : ℕ → ℕ → Lent
lent_of verdicts worked = record { verdicts = verdicts; worked = worked }

unfoldable pub opened_after : ℕ → Link
unfolding opened
opened_after count =
    record {
      refusal = opened.refusal;
      due = opened.due;
      finished = opened.finished;
      begun = opened.begun;
      returned = opened.returned;
      count = opened.count + count;
      announced = opened.announced;
    }

-- The answers to calls of a link.
unfoldable pub link_answers : Link → List LinkCall → List ℕ
unfolding feed close link_verdicts base
link_answers k [] = []
link_answers k (feeds verdicts worked s ∷ cs) =
    let j = feed base (lent_of verdicts worked) k s in
    paper j.refusal ++ length (link_verdicts base j) ∷ link_answers j cs
link_answers k (closes verdicts worked ∷ cs) =
    let c = close base (lent_of verdicts worked) k in
    paper c.refusal ++ c.totals.total ∷ link_verdicts base c.link ++ link_answers c.link cs

-- The struck log is written, and read again.
unfoldable pub after_strike : Places → Log → List ℕ
unfolding read base render strike totals_of_log verdicts_of_log verdict_number
after_strike struck log = of_log judged_in (read base (render (strike struck log)))

unfoldable pub answer : Question → List ℕ
unfolding first_line step day_exists full_year same_but_case meets record_rule read refusal_of_reading records_of_reading respelt_of_reading valid render judge refusal_of_judgement numbers_of_judgement totals_of_judgement mode_numbers modes_together desk write refusal_of_writing bytes_of_writing over unclaimed view refusal_of_view start_of_view viewed listed_of_view after_strike written_back strike struck_worth declared verdicts_of_log place_after strike_out mended_text changes mend refusal_of_mending bytes_of_mending kinds_of_mending lines_of_mending paired session_totals session_verdicts replies_to session_after has_place link_answers opened_after flat_map base
answer (has_line s) = line_in (first_line base s)
answer (leads due l) = next_in (step base due l)
answer (is_year yy) = full_year yy ∷ []
answer (has_day year month day) = truth (day_exists year month day)
answer (spells_alike s t) = truth (same_but_case s t)
answer (meets_rule rule t) = truth (meets base rule t)
answer (is_record l) = record_in (record_rule base l)
answer (is_read s) = let r = read base s in paper (refusal_of_reading r) ++ records_of_reading r ∷ []
answer (respells s) = respelt_of_reading (read base s) ∷ []
answer (spells_as_listed k s) = truth (listed_of_view (view base k s))
answer (is_log s) = of_log (λ log. truth (valid base log) ++ render log) (read base s)
answer (is_valid_with change s) = of_log (λ log. truth (valid base (change log))) (read base s)
answer (is_judged room s) = let j = judge base room s in paper (refusal_of_judgement j) ++ numbers_of_judgement j
answer (comes_to s) = sums (totals_of_judgement (judge base 999 s))
answer (comes_by s) =
    let m = (totals_of_judgement (judge base 999 s)).modes in mode_numbers m ++ modes_together m ∷ []
answer (is_shown s) = desk base s
answer (is_written room s) = let w = write base room s in paper (refusal_of_writing w) ++ bytes_of_writing w
answer (leaves_judging slice s) = over (numbers_of_judgement (judge base (length slice) s)) slice
answer (leaves_writing slice s) = over (bytes_of_writing (write base (length slice) s)) slice
answer (is_unclaimed s) = of_log (λ log. render (unclaimed log)) (read base s)
answer (is_viewed k s) = let v = view base k s in paper (refusal_of_view v) ++ start_of_view v ∷ viewed v
answer (is_struck struck s) = of_log (λ log. after_strike struck log) (read base s)
answer (is_written_and_struck struck s) = of_log (λ log. after_strike struck (written_back base log)) (read base s)
answer (is_struck_to struck s) = of_log (λ log. render (strike struck log)) (read base s)
answer (is_worth struck s) =
    of_log (λ log. struck_worth (declared log) struck log.records (verdicts_of_log base log) ∷ []) (read base s)
answer (comes_to_stand struck n) = place_after struck n ∷ []
answer (strikes_out room marks s) =
    let w = strike_out base room marks s in paper (refusal_of_writing w) ++ bytes_of_writing w
answer (leaves_striking slice marks s) = over (bytes_of_writing (strike_out base (length slice) marks s)) slice
answer (mends_to s) = mended_text s
answer (mends_in s) = changes_in_numbers (changes s)
answer (is_mended out kinds lines s) =
    let m = mend base (rooms_for out kinds lines) s in
    paper (refusal_of_mending m) ++ paired (kinds_of_mending m) (lines_of_mending m) ++ bytes_of_mending m
answer (leaves_mending out kinds lines s) =
    let m = mend base (rooms_for (length out) (length kinds) (length lines)) s in
    over (bytes_of_mending m) out ++ over (kinds_of_mending m) kinds ++ over (lines_of_mending m) lines
answer (plays room cs) = flat_map reply_in (replies_to base room unstarted cs)
answer (ends_with room cs) =
    let t = session_totals base (session_after base room unstarted cs) in sums t ++ mode_numbers t.modes
answer (has_place_after n room) = truth (has_place base room (session undeclared (replicate n (qso_of []))))
answer (links count cs) = link_answers (opened_after count) cs

-- A question and what is to be answered.
pub record Case : Type 0 where
  pub asked : Question
  pub says : List ℕ

abbrev pub case : Question → List ℕ → Case
case asked says = record { asked = asked; says = says }

-- The same answer to a question of each of these texts.
abbrev pub ask : (Text → Question) → List ℕ → List Text → List Case
ask question says ts = map (λ t. case (question t) says) ts

abbrev pub texts : List String → List Text
texts ss = map bytes ss

-- The text with each of these characters at each of these places, the first of which is 0.
unfoldable pub varied : Text → List ℕ → List ℕ → List Text
unfolding flat_map
varied t places codes = flat_map (λ place. map (λ c. set t place c) codes) places
