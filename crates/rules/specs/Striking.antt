-- Demand 3: "Strike any set of records from an accepted log and correct the count line."
-- Assumes nothing.
use Rattle.std.specs.Prelude.{ℕ, zero, suc, ◌+◌, Bool, cond, not, ◌&&◌, List, [], ◌∷◌, eqb, leb, ltb, length, get_or}
use Rattle.rules.specs.declared.Class.TheVariants.{Credited}
use Rattle.rules.specs.declared.Verdict.{Verdict}
use Rattle.rules.specs.Text.{Text, value}
use Rattle.rules.specs.Rules.{Rules}
use Rattle.rules.specs.Fields.{Qso}
use Rattle.rules.specs.Log.{Log, render}
use Rattle.rules.specs.Judging.{Declared, is}
use Rattle.rules.specs.Reading.{Reading, accepted, refused, refusal, read}
use Rattle.rules.specs.Answers.{Writing, written, unwritten}

-- A set of records is given by their places, the first of which is 0.
abbrev pub Places : Type 0
Places = ℕ → Bool

abbrev pub later : Places → Places
later struck n = struck (suc n)

-- What is left of a list.
unfoldable pub kept : {A : Type 0} → Places → List A → List A
kept struck [] = []
kept struck (a ∷ l) = cond (struck 0) (kept (later struck) l) (a ∷ kept (later struck) l)

-- The log without those records. Its count line is that of the records that are left, since the count line is written from them.
unfoldable pub strike : Places → Log → Log
unfolding kept
strike struck log =
    record {
      keywords = log.keywords;
      arguments = log.arguments;
      remarks = log.remarks;
      records = kept struck log.records;
    }

-- The place that a record has once those before it are struck.
unfoldable pub place_after : Places → ℕ → ℕ
place_after struck zero = 0
place_after struck (suc n) = cond (struck 0) 0 1 + place_after (later struck) n

-- "the struck credited records' points plus one bonus of each of the three kinds for each"
unfoldable pub struck_worth : Declared → Places → List Qso → List Verdict → ℕ
unfolding is value
struck_worth d struck [] vs = 0
struck_worth d struck (q ∷ qs) [] = 0
struck_worth d struck (q ∷ qs) (v ∷ vs) =
    cond (struck 0 && is Credited v.class) (value q.points + d.square_bonus + d.exchange_bonus + d.country_bonus) 0
    + struck_worth d (later struck) qs vs

-- # Striking as a call

-- The set as it is lent: a byte for each record, 0 for one that is kept.
abbrev pub marked : List ℕ → Places
marked marks n = not (eqb (get_or marks n 0) 0)

-- The log without those records, to an output slice of so many bytes. 7: the marks are fewer than the N records. 8: the output slice is too short; no
-- result is longer than the log.
unfoldable pub strike_log : ℕ → List ℕ → Log → Writing
unfolding render strike
strike_log room marks log =
    let result = render (strike (marked marks) log) in
    let fits = cond (leb (length result) room) (written result) (unwritten (refusal 8 0 0)) in
    cond (ltb (length marks) (length log.records)) (unwritten (refusal 7 0 0)) fits

unfoldable pub strike_reading : ℕ → List ℕ → Reading → Writing
unfolding strike_log
strike_reading room marks (accepted log) = strike_log room marks log
strike_reading room marks (refused r) = unwritten r

-- Reading's refusals come first, then 7, then 8.
unfoldable pub strike_out : Rules → ℕ → List ℕ → Text → Writing
unfolding strike_reading read
strike_out R room marks s = strike_reading room marks (read R s)
