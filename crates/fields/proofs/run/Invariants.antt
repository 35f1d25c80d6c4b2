-- The run from the first place on ends where the run from the present place on does.
use Rattle.fields.proofs.FieldLaws.{Within}
use Rattle.fields.proofs.run.Given as goal

abbrev pub invariant-loop-i : goal.invariant-loop-i
invariant-loop-i g l = Within (g.K.Kind.holds l.kind) l.s l.at l.i
