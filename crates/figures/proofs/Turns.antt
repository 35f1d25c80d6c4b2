-- The days of a month by its turn, as the code reckons them. They stand in a file of their own, so that an edit which bends them leaves the laws as they
-- are, and the computed test of the twelve months is what refuses it.
-- Assumes nothing.
use Prim.Native.Nat.{ℕ, ◌+◌, ◌-◌, ◌/◌, ◌%◌}
use mathlib.Core.Bool.{cond}
use lib.Dec.{eqb}

abbrev pub turn : ℕ → ℕ
turn month = 30 + (month + month / 8) % 2

-- A month of a common year.
unfoldable pub common : ℕ → ℕ
common month = turn month - cond (eqb month 2) 2 0

-- February of a common year, as the code reckons it from its turn.
abbrev pub february : ℕ → ℕ
february month = turn month - 2
