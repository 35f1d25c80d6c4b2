-- A session as a caller keeps it: its numbers, and what the lent slices hold for them. Every session and every slice gets an answer.
-- Assumes nothing.
use Rattle.std.specs.Prelude.{ℕ, ◌+◌, ◌-◌, ◌*◌, ◌/◌, Bool, cond, ◌&&◌, List, [], ◌∷◌, leb, ltb, length, drop, get_or, set}
use Rattle.rules.specs.declared.Class.TheVariants.{Credited, Void, Duplicate, Error}
use Rattle.rules.specs.declared.Totals.{Totals}
use Rattle.rules.specs.declared.Verdict.{Verdict}
use Rattle.rules.specs.Text.{Text}
use Rattle.rules.specs.Rules.{Rules}
use Rattle.rules.specs.Log.{conjunction}
use Rattle.rules.specs.Judging.{is, mode_numbers}
use Rattle.rules.specs.Reading.{refusal, RecordRule, keeps, breaks, record_rule}
use Rattle.rules.specs.Session.{declared_rule}
use Rattle.places.specs.declared.Declared.{Declared}
use Rattle.judge.specs.declared.Tally.{Tally}
use Rattle.judge.specs.Count.{worth_if, mode_place, modes_in, as_declared}
use Rattle.judge.specs.Sums.{records_counted, no_sums, sound_sums, verdict_in, more_sums, totals_kept}
use Rattle.session.specs.declared.Session.{Session}
use Rattle.session.specs.declared.Replied.{Replied}
use Rattle.session.specs.Entry.{points_in, is_kept, told_line, verdicts_kept, bytes_kept}

-- # The numbers

-- A run of calls can come to these numbers: what is declared keeps its rules, and there are records that come to such sums. Every other session is
-- one that no start has made.
unfoldable pub reachable : Rules → Session → Bool
unfolding declared_rule as_declared sound_sums
reachable R s = sound_sums R s.sums && declared_rule R (as_declared s.declared)

-- How many records are present.
abbrev pub present : Session → ℕ
present s = records_counted s.sums.tally

-- The totals: of a session that no start has made they are zero.
unfoldable pub totals_now : Rules → Session → Totals
unfolding totals_kept
totals_now R s = totals_kept R s.sums s.declared

-- The session after a call, and a refusal by its number and field; with number 0 nothing is refused.
unfoldable pub refused_by : Session → ℕ → ℕ → Replied
refused_by s number field = record { session = s; refusal = refusal number 0 field }

abbrev pub accepted : Session → Replied
accepted s = refused_by s 0 0

-- # Starting

unfoldable pub fresh_session : Declared → Session
unfolding no_sums
fresh_session d = record { declared = d; sums = no_sums }

unfoldable pub started : Rules → Session → Declared → Replied
unfolding declared_rule as_declared fresh_session refused_by
started R s d = cond (declared_rule R (as_declared d)) (accepted (fresh_session d)) (refused_by s 4 0)

-- # Taking a line

-- How many lent bytes a record has.
abbrev pub kept_bytes : ℕ
kept_bytes = 28

-- The session has a place for one record more.
unfoldable pub is_ready : Rules → Session → Bool
unfolding reachable
is_ready R s = reachable R s && ltb (present s) R.most_records

-- The line is taken: so do the slices, and it is a record.
unfoldable pub is_taken : Rules → Session → Text → List ℕ → List ℕ → Bool
unfolding is_ready is_kept
is_taken R s l verdicts kept = is_ready R s && is_kept R l (present s) kept_bytes verdicts kept

unfoldable pub with_record : Rules → Session → ℕ → ℕ → ℕ → Session
unfolding more_sums
with_record R s worth mode number =
    record { declared = s.declared; sums = more_sums R s.sums worth mode number }

-- The session with the record on the line, after those that are kept.
unfoldable pub with_taken : Rules → Session → Text → List ℕ → Session
unfolding with_record told_line
with_taken R s l kept =
    let k = told_line R l (present s) kept_bytes kept in
    with_record R s k.worth k.mode k.number

-- "5 bad record; then 11 session full"
unfoldable pub not_taken_by : Session → RecordRule → Replied
unfolding refused_by
not_taken_by s (breaks field) = refused_by s 5 field
not_taken_by s keeps = refused_by s 11 0

unfoldable pub taken : Rules → Session → Text → List ℕ → List ℕ → Replied
unfolding is_taken with_taken not_taken_by record_rule refused_by
taken R s l verdicts kept =
    cond (is_taken R s l verdicts kept) (accepted (with_taken R s l kept)) (not_taken_by s (record_rule R l))

-- Where the next record is kept; where the session has no place for one, behind all that the slice holds.
unfoldable pub next_place : Rules → Session → ℕ → ℕ
unfolding is_ready
next_place R s verdicts = cond (is_ready R s) (present s) verdicts

unfoldable pub verdicts_taken : Rules → Session → Text → List ℕ → List ℕ → List ℕ
unfolding is_ready verdicts_kept
verdicts_taken R s l verdicts kept =
    cond (is_ready R s) (verdicts_kept R l (present s) kept_bytes verdicts kept) verdicts

unfoldable pub kept_taken : Rules → Session → Text → List ℕ → List ℕ → List ℕ
unfolding is_ready bytes_kept
kept_taken R s l verdicts kept =
    cond (is_ready R s) (bytes_kept R l (present s) kept_bytes verdicts kept) kept

-- # Giving back

-- What a record brought to the sums, by its verdict and what it is worth.
unfoldable pub brought_by : ℕ → Verdict → Tally
unfolding is
brought_by worth v =
    record {
      credited = worth_if (is Credited v.class) 1;
      voids = worth_if (is Void v.class) 1;
      duplicates = worth_if (is Duplicate v.class) 1;
      errors = worth_if (is Error v.class) 1;
      points = worth_if (is Credited v.class) worth;
      squares = worth_if v.square 1;
      exchanges = worth_if v.exchange 1;
      countries = worth_if v.country 1;
    }

-- The sums hold as much; and what is left of them.
abbrev pub holds_tests : Tally → Tally → List Bool
holds_tests b t =
    leb b.credited t.credited
    ∷ leb b.voids t.voids
    ∷ leb b.duplicates t.duplicates
    ∷ leb b.errors t.errors
    ∷ leb b.points t.points
    ∷ leb b.squares t.squares
    ∷ leb b.exchanges t.exchanges
    ∷ leb b.countries t.countries
    ∷ []

unfoldable pub holds_tally : Tally → Tally → Bool
unfolding conjunction
holds_tally b t = conjunction (holds_tests b t)

unfoldable pub less_tally : Tally → Tally → Tally
less_tally b t =
    record {
      credited = t.credited - b.credited;
      voids = t.voids - b.voids;
      duplicates = t.duplicates - b.duplicates;
      errors = t.errors - b.errors;
      points = t.points - b.points;
      squares = t.squares - b.squares;
      exchanges = t.exchanges - b.exchanges;
      countries = t.countries - b.countries;
    }

-- What the slices say of the last record: its verdict, what it is worth, and its mode.
abbrev pub last_at : Session → ℕ
last_at s = (present s - 1) * kept_bytes

unfoldable pub last_verdict : Session → List ℕ → Verdict
unfolding verdict_in
last_verdict s verdicts = verdict_in (get_or verdicts (present s - 1) 0)

unfoldable pub last_worth : Session → List ℕ → ℕ
unfolding points_in
last_worth s kept = points_in (drop (last_at s + 24) kept)

unfoldable pub last_mode : Session → List ℕ → ℕ
last_mode s kept = mode_place (get_or kept (last_at s + 27) 0)

unfoldable pub last_brought : Session → List ℕ → List ℕ → Tally
unfolding brought_by last_worth last_verdict
last_brought s verdicts kept = brought_by (last_worth s kept) (last_verdict s verdicts)

-- How many credited records have this mode.
unfoldable pub mode_count : Session → ℕ → ℕ
unfolding mode_numbers
mode_count s mode = get_or (mode_numbers s.sums.modes) mode 0

-- There is a last record, and the slices reach to it.
abbrev pub reach_tests : Rules → Session → ℕ → ℕ → List Bool
reach_tests R s verdicts kept =
    reachable R s ∷ ltb 0 (present s) ∷ leb (present s) verdicts ∷ leb (present s) (kept / kept_bytes) ∷ []

unfoldable pub slices_reach : Rules → Session → ℕ → ℕ → Bool
unfolding conjunction reachable
slices_reach R s verdicts kept = conjunction (reach_tests R s verdicts kept)

-- It is given back where the numbers hold what the slices say of it: "12 nothing to give back".
unfoldable pub holds_record : Session → Tally → ℕ → Bool
unfolding holds_tally mode_count
holds_record s brought mode = holds_tally brought s.sums.tally && leb brought.credited (mode_count s mode)

unfoldable pub less_record : Session → Tally → ℕ → Session
unfolding less_tally modes_in mode_numbers mode_count
less_record s brought mode =
    record {
      declared = s.declared;
      sums = record {
        tally = less_tally brought s.sums.tally;
        modes = modes_in (set (mode_numbers s.sums.modes) mode (mode_count s mode - brought.credited));
      };
    }

unfoldable pub taken_off : Session → Tally → ℕ → Replied
unfolding holds_record less_record refused_by
taken_off s brought mode = cond (holds_record s brought mode) (accepted (less_record s brought mode)) (refused_by s 12 0)

unfoldable pub given_back : Rules → Session → List ℕ → List ℕ → Replied
unfolding slices_reach taken_off last_brought last_mode refused_by
given_back R s verdicts kept =
    cond (slices_reach R s (length verdicts) (length kept)) (taken_off s (last_brought s verdicts kept) (last_mode s kept)) (refused_by s 12 0)
