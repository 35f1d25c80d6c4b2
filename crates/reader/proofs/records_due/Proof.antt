-- So many records are due, or the end.
use Rattle.reader.proofs.StepLaws.{none_due, some_due}
use Rattle.reader.proofs.records_due.Statement.{statement}
use Rattle.reader.proofs.records_due.Tie as tie

returns : tie.Need-returns-then-n-eq0
returns c = none_due _ c.if-n-eq0.true

returns_2 : tie.Need-returns
returns_2 c = some_due _ c.if-n-eq0.false

pub records_due_spec : {M : Type 1} → statement M
records_due_spec = tie.close (tie.spec returns returns_2)
