-- The digits that are left are read as those from the first place on, and what was read fits.
use Prim.Native.Nat.{◌-◌, ◌^◌, ◌≤◌, ◌<◌, max}
use mathlib.Core.Path.{◌≡◌}
use lib.ListN.{length}
use Rattle.figures.specs.Figure.{digits_at, digits_from}
use Rattle.figures.proofs.read_digits.Given as goal

abbrev pub invariant-loop-i : goal.invariant-loop-i
invariant-loop-i l =
    (l.left ≤ l.most)
    × (l.value < 10 ^ (l.most - l.left))
    × (digits_at l.most l.s l.at ≡ digits_from l.left l.value l.s l.i)
    × (l.i ≤ max l.at (length l.s))
