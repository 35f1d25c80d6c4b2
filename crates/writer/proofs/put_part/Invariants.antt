-- The part so far is laid over the slice as it was.
use Rattle.std.specs.Prelude.{◌≡◌, ◌≤◌}
use Rattle.reader.specs.Contact.{between}
use Rattle.writer.specs.Written.{written}
use Rattle.writer.proofs.put_part.Given as goal

abbrev pub invariant-loop-i : goal.invariant-loop-i
invariant-loop-i l = (l.from ≤ l.i) × (l.out ≡ written l.fn.out l.at (between l.s l.from l.i))
