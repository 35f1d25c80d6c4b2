-- What is left of the records so far is measured.
use Rattle.rules.specs.Striking.{marked}
use Rattle.striker.proofs.LineLoops.{Measured}
use Rattle.striker.proofs.measure.Given as goal

abbrev pub invariant-loop-i : goal.invariant-loop-i
invariant-loop-i l = Measured l.log l.first l.ends (marked l.struck) l.records l.bytes l.start l.i
