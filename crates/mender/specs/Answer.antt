-- What is answered to mending: how long the mended log and the list are, or why nothing is handed over, by the definitions of W2.
-- Assumes nothing.
use Rattle.std.specs.Prelude.{ℕ, ◌≡◌, cond, List, ltb, length, Result, Ok, Err}
use Rattle.rules.specs.declared.Refusal.{Refusal}
use Rattle.rules.specs.Answers.{over}
use Rattle.rules.specs.Mending.{Rooms, Mending, mended, unmended, mend, bytes_of_mending, kinds_of_mending, lines_of_mending}
use Rattle.rules.specs.Reading.{refusal}
use Rattle.rules.specs.Rules.{Rules}
use Rattle.rules.specs.Text.{Text}
use Rattle.mender.specs.declared.Mended.{Mended}

-- The lengths of three lent slices.
abbrev pub rooms_of : List ℕ → List ℕ → List ℕ → Rooms
rooms_of out kinds lines = record { out = length out; kinds = length kinds; lines = length lines }

unfoldable pub mended_by : Mending → Result Mended Refusal
mended_by (mended t cs) = Ok (record { length = length t; changes = length cs })
mended_by (unmended r) = Err r

-- A log that is accepted as it is: the answer, and what the slice holds afterwards.
unfoldable pub kept_as : Text → List ℕ → Result Mended Refusal
kept_as s out = cond (ltb (length out) (length s)) (Err (refusal 8 0 0)) (Ok (record { length = length s; changes = 0 }))

unfoldable pub kept_in : Text → List ℕ → List ℕ
unfolding over
kept_in s out = cond (ltb (length out) (length s)) out (over s out)

-- The answer, and what each of the slices holds afterwards: on a refusal, what it held.
pub record Mends (R : Rules) (s : Text) (answer : Result Mended Refusal) (out kinds lines out' kinds' lines' : List ℕ) : Type 0 where
  pub told : answer ≡ mended_by (mend R (rooms_of out kinds lines) s)
  pub text_told : out' ≡ over (bytes_of_mending (mend R (rooms_of out kinds lines) s)) out
  pub kinds_told : kinds' ≡ over (kinds_of_mending (mend R (rooms_of out kinds lines) s)) kinds
  pub lines_told : lines' ≡ over (lines_of_mending (mend R (rooms_of out kinds lines) s)) lines
