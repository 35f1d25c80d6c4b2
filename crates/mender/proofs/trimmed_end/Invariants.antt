-- The spaces are passed over from the last one on.
-- Assumes nothing.
use Rattle.mender.proofs.CutLaws.{Trimming}
use Rattle.mender.proofs.trimmed_end.Given as goal

abbrev pub invariant-loop-i : goal.invariant-loop-i
invariant-loop-i l = Trimming l.s l.at l.end l.i
