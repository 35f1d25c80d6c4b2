-- What writing answers for an accepted log: the result, or 8 where it is too long for a log or for the slice.
-- Assumes nothing.
use Prim.Native.Nat.{ℕ}
use mathlib.Core.Path.{◌≡◌}
use mathlib.Core.Bool.{Bool, cond, ◌&&◌}
use lib.Dec.{leb}
use lib.ListN.{length}
use Rattle.rules.specs.Text.{Text}
use Rattle.rules.specs.Rules.{Rules}
use Rattle.rules.specs.Log.{Log, render}
use Rattle.rules.specs.Writing.{written_back}
use Rattle.rules.specs.Reading.{accepted, refusal, read}
use Rattle.rules.specs.Answers.{written, unwritten, write_log, write_reading, write}

module _ (R : Rules) where
  -- A text fits a log and the slice.
  abbrev pub fitting : ℕ → Text → Bool
  fitting room t = leb (length t) R.longest_log && leb (length t) room

  -- What is answered for an accepted log.
  pub write_law : (room : ℕ) (s : Text) (log : Log) → read R s ≡ accepted log →
      write R room s
      ≡ cond (fitting room (render (written_back R log))) (written (render (written_back R log))) (unwritten (refusal 8 0 0))
  unfolding write write_reading write_log
  write_law room s log e = rw e
