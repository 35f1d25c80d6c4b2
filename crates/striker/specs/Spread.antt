-- What judging the result tells, at the places that the records have in the log.
-- Assumes nothing.
use Rattle.std.specs.Prelude.{ℕ, ◌<◌, cond, List, ◌≡◌, length, get_or}
use Rattle.rules.specs.Striking.{Places, marked, place_after}
use Rattle.rules.specs.StrikingDemands.{IsKept, told_after}
use Rattle.writer.specs.Written.{row}

-- At a place of the log: what stood there, where its record is struck; else what is told of the record that is left.
abbrev pub spread_at : Places → List ℕ → List ℕ → ℕ → ℕ
spread_at struck told among j = cond (struck j) (get_or among j 0) (get_or told (place_after struck j) 0)

unfoldable pub spread_over : Places → List ℕ → List ℕ → List ℕ
spread_over struck told among = row (spread_at struck told among) (length among)

-- So at the place of each record that is kept stands the number by which demand 3 over the bytes speaks of it afterwards.
abbrev pub SpreadIsToldAfter : Type 0
SpreadIsToldAfter =
    (marks told among : List ℕ) (j : ℕ) →
    j < length among →
    IsKept marks j →
    get_or (spread_over (marked marks) told among) j 0 ≡ told_after marks told j

-- At the place of a struck record all stays as it was, and the slice stays as long as it was.
abbrev pub SpreadLeavesTheStruck : Type 0
SpreadLeavesTheStruck =
    (marks told among : List ℕ) (j : ℕ) →
    j < length among →
    (IsKept marks j → ⊥) →
    get_or (spread_over (marked marks) told among) j 0 ≡ get_or among j 0

abbrev pub SpreadIsAsLong : Type 0
SpreadIsAsLong =
    (marks told among : List ℕ) → length (spread_over (marked marks) told among) ≡ length among
