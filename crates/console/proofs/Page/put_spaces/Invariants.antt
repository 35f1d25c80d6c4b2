-- So many spaces stand behind what was laid before.
use Rattle.std.proofs.Common.{◌≡◌}
use Rattle.console.specs.Words.{spaced}
use Rattle.console.proofs.Page.put_spaces.Given as goal

abbrev pub invariant-loop : goal.invariant-loop
invariant-loop g l = l.self ≡ spaced g.row.N l.counter l.initial.self
