-- What is left of the records so far is laid, and it is known where the next one begins.
use Rattle.std.specs.Prelude.{◌≡◌}
use Rattle.rules.specs.Striking.{marked}
use Rattle.writer.specs.Written.{texts, start_of, Puts}
use Rattle.striker.specs.KeptText.{numbered_line}
use Rattle.striker.proofs.put_lines.Given as goal

abbrev pub invariant-loop-i : goal.invariant-loop-i
invariant-loop-i l =
    (l.start ≡ start_of 2 l.first l.ends l.i)
    × Puts l.fn.out l.at (texts (numbered_line l.log l.first l.ends (marked l.struck)) l.i) l.out l.to
