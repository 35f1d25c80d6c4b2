-- What the weighing of a log's records asks and promises.
-- Assumes nothing.
use Rattle.std.specs.Prelude.{ℕ, ◌≤◌, ◌≡◌, true, List, [], map, length, take}
use Rattle.rules.specs.Text.{Text}
use Rattle.rules.specs.Rules.{Rules}
use Rattle.rules.specs.Fields.{Qso}
use Rattle.rules.specs.Log.{Log, record_rules}
use Rattle.rules.specs.Judging.{verdicts, verdict_number, zero_totals}
use Rattle.rules.specs.Reading.{Reading, accepted, refused, read}
use Rattle.rules.specs.Answers.{over}
use Rattle.reader.specs.declared.Contact.{Contact}
use Rattle.reader.specs.Contact.{contacts_at, Holds}
use Rattle.judge.specs.Bounds.{Counts}
use Rattle.judge.specs.declared.Tally.{Tally}
use Rattle.judge.specs.Count.{add_records, tallied}
use Rattle.reader.specs.declared.Heading.{Heading}
use Rattle.judge.specs.Judge.{first_of, heading_in}

-- The records of a log; none where it is refused.
abbrev pub records_in : Reading → List Qso
records_in (accepted log) = log.records
records_in (refused r) = []

unfoldable pub records_of : Rules → Text → List Qso
unfolding read
records_of R s = records_in (read R s)

-- The numbers of the verdicts of these records.
abbrev pub numbers_of : Rules → List Qso → List ℕ
numbers_of R qs = map verdict_number (verdicts R qs)

-- In front of a list stands this place of each of so many records, the first of which begins at a place of the log.
pub record Listed (R : Rules) (s : Text) (first n : ℕ) (place : Contact → ℕ) (list : List ℕ) : Type 0 where
  pub long : n ≤ length list
  pub places : take n list ≡ map place (contacts_at R s first n)

-- Four places of each record are noted so.
pub record Listings (R : Rules) (s : Text) (first n : ℕ) (calls exchanges points pointsends : List ℕ) : Type 0 where
  pub calls_listed : Listed R s first n (λ c. c.call) calls
  pub exchanges_listed : Listed R s first n (λ c. c.exchange) exchanges
  pub points_listed : Listed R s first n (λ c. c.points) points
  pub ends_listed : Listed R s first n (λ c. c.pointsend) pointsends

-- The log holds so many records, their places are noted, and the slice has room for their verdicts.
pub record Weighable (R : Rules) (s : Text) (n : ℕ) (slice calls exchanges points pointsends : List ℕ) : Type 0 where
  pub first : ℕ
  pub held : Holds R s first (records_of R s)
  pub rules : record_rules R (records_of R s) ≡ true
  pub all : n ≡ length (records_of R s)
  pub few : n ≤ R.most_records
  pub room : n ≤ length slice
  pub listings : Listings R s first n calls exchanges points pointsends

-- The totals are those of the records, and their verdicts are written.
pub record Weighs (R : Rules) (s : Text) (slice : List ℕ) (r : Tally) (slice' modes' : List ℕ) : Type 0 where
  pub totals : tallied r modes' ≡ add_records zero_totals (records_of R s) (verdicts R (records_of R s))
  pub few : Counts R R.most_records (tallied r modes')
  pub written : slice' ≡ over (numbers_of R (records_of R s)) slice

-- The log was read, and has so many records, the first at this place, and this heading.
pub record Accepts (R : Rules) (s : Text) (records first : ℕ) (heading : Heading) : Type 0 where
  pub log : Log
  pub is_read : read R s ≡ accepted log
  pub count : records ≡ length log.records
  pub place : first ≡ first_of s (accepted log)
  pub headed : heading ≡ heading_in (accepted log)
