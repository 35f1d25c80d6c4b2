-- Eleven numbers of two bytes, one behind the other.
use Rattle.std.proofs.Common.{arith}
use Rattle.judge.specs.Narrow.{modes_of}
use Rattle.judge.proofs.NarrowLaws.{small_cons, small_none}
use Rattle.judge.proofs.modes_of.Goals as goal

pub returns : goal.returns
unfolding modes_of
returns c = (cc, small_cons (omega arith) (small_cons (omega arith) (small_cons (omega arith) (small_cons (omega arith) (small_cons (omega arith) (small_cons (omega arith) (small_cons (omega arith) (small_cons (omega arith) (small_cons (omega arith) (small_cons (omega arith) (small_cons (omega arith) small_none)))))))))))
