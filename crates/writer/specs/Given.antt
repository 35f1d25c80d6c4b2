-- What the functions under `write` are given: places in order within the log, and a log that was judged.
-- Assumes nothing.
use Rattle.std.specs.Prelude.{ℕ, ◌+◌, ◌-◌, ◌≤◌, ◌<◌, List, map, ◌≡◌, length, get_or}
use Rattle.reader.specs.Contact.{contacts_at}
use Rattle.reader.specs.Read.{heading_of}
use Rattle.reader.specs.declared.Heading.{Heading}
use Rattle.reader.specs.declared.Contact.{Contact}
use Rattle.rules.specs.Judging.{verdict_number, verdicts_of_log, totals_of_log}
use Rattle.rules.specs.Log.{Log, record_line, ended}
use Rattle.rules.specs.Reading.{read, accepted}
use Rattle.rules.specs.Rules.{Rules}
use Rattle.rules.specs.Text.{Text}
use Rattle.rules.specs.declared.Totals.{Totals}
use Rattle.writer.specs.ClaimsText.{claim_start}
use Rattle.writer.specs.Written.{start_of}

-- The numbers of so many claims begin within the text.
abbrev pub ClaimsBegin : Text → ℕ → ℕ → Type 0
ClaimsBegin s line n = (i : ℕ) → i < n → claim_start s line i ≤ length s

-- A claimed number begins and ends behind what was copied last, in front of the first record.
pub record ClaimLies (from start end first : ℕ) : Type 0 where
  pub order : from ≤ start
  pub rise : start ≤ end
  pub inside : end ≤ first

pub record ClaimsLie (s : Text) (first : ℕ) (starts ends : List ℕ) (n : ℕ) : Type 0 where
  pub many_starts : n ≤ length starts
  pub many_ends : n ≤ length ends
  pub lies : (i : ℕ) → i < n → ClaimLies (start_of 0 0 ends i) (get_or starts i 0) (get_or ends i 0) first
  pub within : first ≤ length s

-- The parts of a record stand in order, and CR LF behind it.
pub record RecordLies (s : Text) (start points pointsend end : ℕ) : Type 0 where
  pub order : start ≤ points
  pub rise : points ≤ pointsend
  pub close : pointsend ≤ end
  pub inside : end + 2 ≤ length s

pub record RecordsLie (s : Text) (first : ℕ) (points pointsends ends : List ℕ) (n : ℕ) : Type 0 where
  pub many_points : n ≤ length points
  pub many_pointsends : n ≤ length pointsends
  pub many_ends : n ≤ length ends
  pub lies : (i : ℕ) → i < n → RecordLies s (start_of 2 first ends i) (get_or points i 0) (get_or pointsends i 0) (get_or ends i 0)
  pub within : first ≤ length s

-- The log was judged: these are its totals, where its first record begins, its heading, where the points of each record begin and end and the
-- record ends, and the numbers of its verdicts.
pub record Writable (R : Rules) (s : Text) (t : Totals) (first : ℕ) (heading : Heading) (points pointsends ends numbers : List ℕ) : Type 0 where
  pub log : Log
  pub is_read : read R s ≡ accepted log
  pub totals : t ≡ totals_of_log R log
  pub place : first ≡ length s - length (ended (map record_line log.records))
  pub headed : heading ≡ heading_of log
  pub points_begin : points ≡ map (λ (c : Contact). c.points) (contacts_at R s first (length log.records))
  pub points_end : pointsends ≡ map (λ (c : Contact). c.pointsend) (contacts_at R s first (length log.records))
  pub records_end : ends ≡ map (λ (c : Contact). c.end) (contacts_at R s first (length log.records))
  pub verdicts : numbers ≡ map verdict_number (verdicts_of_log R log)
