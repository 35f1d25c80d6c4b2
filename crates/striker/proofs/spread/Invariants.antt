-- The first places are done, and it is known how many records in front of the next are left.
use Rattle.std.specs.Prelude.{◌≡◌, ◌≤◌}
use Rattle.rules.specs.Striking.{marked, place_after}
use Rattle.writer.specs.Written.{row, written}
use Rattle.striker.specs.Spread.{spread_at}
use Rattle.striker.proofs.spread.Given as goal

abbrev pub invariant-loop-i : goal.invariant-loop-i
invariant-loop-i l =
    (l.left ≡ place_after (marked l.struck) l.i)
    × (l.left ≤ l.i)
    × (l.among ≡ written l.fn.among 0 (row (spread_at (marked l.struck) l.told l.fn.among) l.i))
