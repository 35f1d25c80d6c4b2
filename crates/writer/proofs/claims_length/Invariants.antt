-- The first claims are measured, none of them is longer than what stands in front of it and twenty digits, and it is known where the last one ended.
use Rattle.std.specs.Prelude.{◌≡◌, ◌≤◌, ◌+◌, ◌*◌, length}
use Rattle.writer.specs.Written.{texts, start_of}
use Rattle.writer.proofs.ClaimLoops.{claim}
use Rattle.writer.proofs.claims_length.Given as goal

abbrev pub invariant-loop-i : goal.invariant-loop-i
invariant-loop-i l =
    (l.from ≡ start_of 0 0 l.ends l.i)
    × (l.sum ≡ length (texts (claim l.s l.first l.starts l.ends l.claims) l.i))
    × (l.sum ≤ l.from + 20 * l.i)
