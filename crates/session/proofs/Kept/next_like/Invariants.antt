-- The search goes on from eight records to the next eight.
-- Assumes nothing.
use Rattle.std.proofs.Common.{◌-◌, ◌≤◌}
use Rattle.session.proofs.LookLaws.{Past}
use Rattle.session.proofs.Kept.next_like.Given as goal

abbrev pub invariant-loop-k : goal.invariant-loop-k
invariant-loop-k g l = (l.k ≤ l.self.n) × Past l.self.bytes.now g.row.WIDTH l.at l.from l.self.n l.four l.k

abbrev pub decreases-loop-k : goal.decreases-loop-k
decreases-loop-k g l = l.self.n - l.k
