-- A line begins behind the one in front of it, or at the end.
use Rattle.std.proofs.Common.{◌≡◌, min, length}
use Rattle.places.specs.Places.{line_start}
use Rattle.places.proofs.line_start.Given as goal

abbrev pub invariant-loop : goal.invariant-loop
invariant-loop l = l.at ≡ min (line_start l.fn.s l.counter) (length l.fn.s)
