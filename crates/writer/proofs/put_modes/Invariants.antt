-- The lines of the first modes are written, each in 28 characters at the most.
use Rattle.std.specs.Prelude.{◌≤◌, ◌+◌, ◌*◌}
use Rattle.writer.specs.Shown.{mode_line_at}
use Rattle.writer.specs.Written.{texts, Puts}
use Rattle.writer.proofs.put_modes.Given as goal

abbrev pub invariant-loop-i : goal.invariant-loop-i
invariant-loop-i l =
    (l.end ≤ l.at + 28 * l.i)
    × Puts l.fn.out l.at (texts (mode_line_at l.modes) l.i) l.out l.end
