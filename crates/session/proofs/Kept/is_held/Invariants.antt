-- The search goes on from record to record, and what is left to look at gives the same answer.
-- Assumes nothing.
use Rattle.std.proofs.Common.{◌+◌, ◌-◌, ◌≤◌}
use Rattle.session.proofs.LookLaws.{Onward}
use Rattle.session.proofs.Kept.is_held.Given as goal

abbrev pub invariant-look : goal.invariant-look
invariant-look l = (l.k ≤ l.self.n) × Onward l.self.bytes.now l.part l.self.width l.self.n l.at l.k

abbrev pub decreases-look : goal.decreases-look
decreases-look l = l.self.n + 1 - l.k
