-- The loops over the records: the record of a turn lies in order, and what is measured stays small.
-- Assumes nothing.
use Prim.Native.Nat.{ℕ, zero, suc, ◌^◌, ◌≤◌, ◌<◌}
use native.Mathlib.Omega.{arith}
use mathlib.Core.List.{List}
use mathlib.Core.Path.{◌≡◌}
use lib.ListN.{length, get_or}
use Rattle.rules.specs.Rules.{base}
use Rattle.rules.specs.Text.{Text}
use Rattle.writer.specs.Given.{RecordLies, RecordsLie}
use Rattle.writer.specs.RecordText.{record_text, numbered_text, records_text}
use Rattle.writer.specs.Written.{texts, start_of}

-- A log is so short that no sum of its parts runs over.
pub log_small : base.longest_log < 2 ^ 32
unfolding base
log_small = omega arith

module _ {s : Text} {first : ℕ} {points pointsends ends : List ℕ} {n : ℕ} (lie : RecordsLie s first points pointsends ends n) where
  -- Each record begins within the log.
  pub begins_inside : (i : ℕ) → i ≤ n → start_of 2 first ends i ≤ length s
  unfolding start_of
  begins_inside zero h = lie.within
  begins_inside (suc i) h = (lie.lies i h).inside

  pub lies_here : (i : ℕ) {start : ℕ} → i < n → start ≡ start_of 2 first ends i → RecordLies s start (get_or points i 0) (get_or pointsends i 0) (get_or ends i 0)
  lies_here i h e = rw e (lie.lies i h)

-- The text of the record of a turn, and of all records.
module _ (s : Text) (first : ℕ) (points pointsends ends numbers : List ℕ) where
  pub record_here : (i : ℕ) {start : ℕ} → start ≡ start_of 2 first ends i
      → record_text s start (get_or points i 0) (get_or pointsends i 0) (get_or numbers i 0) ≡ numbered_text s first points pointsends ends numbers i
  record_here i e = rw e

  pub records_are : (i : ℕ) → i ≡ length numbers → texts (numbered_text s first points pointsends ends numbers) i ≡ records_text s first points pointsends ends numbers
  unfolding records_text
  records_are i e = rw e
