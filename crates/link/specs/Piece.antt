-- A piece of a log as the code takes it: run by run of characters, each up to the end of a line or of the piece. And the end, as it finds it.
-- Assumes nothing.
use Rattle.std.specs.Prelude.{ℕ, ◌+◌, ◌-◌, Bool, cond, not, ◌&&◌, ◌||◌, List, [], ◌∷◌, eqb, leb, ltb, length, drop, get_or}
use Rattle.rules.specs.Text.{Text, allowed, span, begins}
use Rattle.rules.specs.Rules.{Rules}
use Rattle.rules.specs.Log.{crlf, conjunction}
use Rattle.rules.specs.Reading.{refusal, Reading, accepted, refused}
use Rattle.reader.specs.Contact.{between}
use Rattle.writer.specs.Written.{written}
use Rattle.link.specs.declared.Link.{Link}
use Rattle.link.specs.Link.{stopped_by, line_of, due_of, due_at, is_end, held_as}

-- The line of CWWLs, CExcs or CDXCs is due.
unfoldable pub declares : ℕ → Bool
declares stage = eqb stage 29 || (eqb stage 31 || eqb stage 33)

-- Where the characters end that come behind those that are held: none do behind a CR.
unfoldable pub run_end : ℕ → Text → ℕ → ℕ
unfolding span
run_end returned s at = cond (eqb returned 0) (at + span allowed (drop at s)) at

-- A line ends there, of which so many characters are held, and the CR or not.
unfoldable pub is_ended : Rules → ℕ → ℕ → Text → ℕ → ℕ → Bool
unfolding begins crlf
is_ended R held returned s at end =
    cond (eqb returned 0) (leb (held + (end - at)) R.longest_line && begins crlf (drop end s)) (eqb (get_or s at 0) 10)

-- Where the next line begins.
unfoldable pub next_place : ℕ → ℕ → ℕ
next_place returned end = end + cond (eqb returned 0) 2 1

-- The rest of the piece may be a part of a line: characters, and behind them a CR or nothing.
unfoldable pub may_come : Rules → ℕ → Text → ℕ → ℕ → Bool
may_come R held s at end =
    leb (held + (end - at)) R.longest_line
    && (eqb end (length s) || eqb (get_or s end 0) 13 && eqb (end + 1) (length s))

-- It is held, or it is refused. Bytes that are too many for the log may be behind it.
unfoldable pub held_on : Rules → Link → Text → ℕ → ℕ → Bool → Link
unfolding may_come written stopped_by
held_on R s t at end over =
    let held = held_as (s.held + (end - at)) (cond (eqb end (length t)) 0 1) (written s.line s.held (between t at end)) s in
    let kept = cond over (stopped_by (refusal 1 0 0)) held in
    cond (eqb s.returned 0 && may_come R s.held t at end) kept (stopped_by (refusal 2 (line_of s) 0))

-- One byte is put behind those that are held.
abbrev pub byte_tests : Rules → Link → ℕ → List Bool
byte_tests R s b =
    ltb s.count R.longest_log
    ∷ not (is_end (due_of s))
    ∷ eqb s.returned 0
    ∷ ltb s.held R.longest_line
    ∷ allowed b
    ∷ []

unfoldable pub takes_byte : Rules → Link → ℕ → Bool
unfolding conjunction due_at
takes_byte R s b = conjunction (byte_tests R s b)

-- The state at the end of the bytes: as it is where all is there, and else with what the reader refuses there.
unfoldable pub rested_by : Link → Reading → Link
unfolding stopped_by
rested_by s (accepted log) = s
rested_by s (refused r) = stopped_by r
