-- Where the record is no duplicate, nothing is written.
use native.Mathlib.Omega.{arith}
use Rattle.writer.proofs.RecordWritten.{no_zero_lem}
use Rattle.writer.proofs.WrittenLaws.{puts_nothing}
use Rattle.writer.proofs.put_zero.Goals as goal

pub returns-else-duplicate : goal.returns-else-duplicate
returns-else-duplicate c = puts_nothing (no_zero_lem c.args.duplicate c.if-duplicate.false) (omega (arith, c.requires))
