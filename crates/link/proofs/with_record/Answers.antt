-- A record is worth so little that four bytes hold it.
-- Assumes nothing.
use Rattle.std.proofs.Common.{rules}
use Rattle.link.proofs.TestLaws.{worth_fits}
use Rattle.link.proofs.with_record.Goals as goal

pub overflow_cast-k : goal.overflow_cast-k
overflow_cast-k c = let small = worth_fits c.args.k.worth c.requires.2 in search rules
