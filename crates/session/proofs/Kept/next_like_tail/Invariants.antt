-- The search goes on from record to record, and what is left to look at gives the same answer.
-- Assumes nothing.
use Rattle.session.proofs.LookLaws.{Past}
use Rattle.session.proofs.Kept.next_like_tail.Given as goal

abbrev pub invariant-loop-k : goal.invariant-loop-k
invariant-loop-k l = Past l.self.bytes.now l.self.width l.at l.from l.self.n l.four l.k
