-- What the functions under `strike` are given: lines in order within the log, and a log that was read.
-- Assumes nothing.
use Rattle.std.specs.Prelude.{ℕ, ◌+◌, ◌-◌, ◌≤◌, ◌<◌, List, map, ◌≡◌, length, get_or}
use Rattle.reader.specs.Contact.{contacts_at}
use Rattle.reader.specs.declared.Contact.{Contact}
use Rattle.rules.specs.Log.{Log, record_line, ended}
use Rattle.rules.specs.Reading.{read, accepted}
use Rattle.rules.specs.Rules.{Rules}
use Rattle.rules.specs.Text.{Text}
use Rattle.writer.specs.Written.{start_of}

-- A record ends behind its beginning, and CR LF stand behind it.
pub record LineLies (s : Text) (start end : ℕ) : Type 0 where
  pub order : start ≤ end
  pub inside : end + 2 ≤ length s

pub record LinesLie (s : Text) (first : ℕ) (ends : List ℕ) : Type 0 where
  pub lies : (i : ℕ) → i < length ends → LineLies s (start_of 2 first ends i) (get_or ends i 0)
  pub within : first ≤ length s

-- The log was read: this is where its first record begins, and where its records end.
pub record Strikable (R : Rules) (s : Text) (first : ℕ) (ends : List ℕ) : Type 0 where
  pub log : Log
  pub is_read : read R s ≡ accepted log
  pub place : first ≡ length s - length (ended (map record_line log.records))
  pub records_end : ends ≡ map (λ (c : Contact). c.end) (contacts_at R s first (length log.records))
