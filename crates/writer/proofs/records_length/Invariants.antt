-- The first records are measured, they are no longer than seven times where the next one begins, and that is known.
use Rattle.std.specs.Prelude.{◌≡◌, ◌≤◌, ◌*◌, length}
use Rattle.writer.specs.RecordText.{numbered_text}
use Rattle.writer.specs.Written.{texts, start_of}
use Rattle.writer.proofs.records_length.Given as goal

abbrev pub invariant-loop-i : goal.invariant-loop-i
invariant-loop-i l =
    (l.start ≡ start_of 2 l.first l.ends l.i)
    × (l.sum ≡ length (texts (numbered_text l.s l.first l.points l.pointsends l.ends l.numbers) l.i))
    × (l.sum ≤ 7 * l.start)
