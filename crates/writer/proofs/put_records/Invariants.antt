-- The first records are written, and it is known where the next one begins.
use Rattle.std.specs.Prelude.{◌≡◌}
use Rattle.writer.specs.RecordText.{numbered_text}
use Rattle.writer.specs.Written.{texts, start_of, Puts}
use Rattle.writer.proofs.put_records.Given as goal

abbrev pub invariant-loop-i : goal.invariant-loop-i
invariant-loop-i l =
    (l.start ≡ start_of 2 l.first l.ends l.i)
    × Puts l.fn.out l.at (texts (numbered_text l.s l.first l.points l.pointsends l.ends l.numbers) l.i) l.out l.end
