-- The first claims are written, and it is known where the last of them ended.
use Rattle.std.specs.Prelude.{◌≡◌}
use Rattle.writer.specs.Written.{texts, start_of, Puts}
use Rattle.writer.proofs.ClaimLoops.{claim}
use Rattle.writer.proofs.put_claims.Given as goal

abbrev pub invariant-loop-i : goal.invariant-loop-i
invariant-loop-i l =
    (l.from ≡ start_of 0 0 l.ends l.i)
    × Puts l.fn.out 0 (texts (claim l.s l.first l.starts l.ends l.claims) l.i) l.out l.at
