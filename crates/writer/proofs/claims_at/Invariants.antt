-- The places of the first claims are laid over both lists, and the line of the next one is known.
use Rattle.std.specs.Prelude.{◌≡◌}
use Rattle.writer.specs.ClaimsText.{claim_line, claim_starts, claim_ends}
use Rattle.writer.specs.Written.{written}
use Rattle.writer.proofs.claims_at.Given as goal

abbrev pub invariant-loop-i : goal.invariant-loop-i
invariant-loop-i l =
    (l.next ≡ claim_line l.s l.line l.i)
    × (l.starts ≡ written l.fn.starts 0 (claim_starts l.s l.line l.i))
    × (l.ends ≡ written l.fn.ends 0 (claim_ends l.s l.line l.i))
