-- What is put of the keywords that are left is put of all, and each of their lines has room.
use Rattle.std.specs.Prelude.{◌≡◌, drop}
use Rattle.rules.specs.Arguments.{entries}
use Rattle.writer.specs.Respelling.{respelled, KeywordsLie}
use Rattle.writer.proofs.respell.Given as goal

abbrev pub invariant-loop-k : goal.invariant-loop-k
invariant-loop-k l =
    KeywordsLie (drop l.k entries) l.at l.out
    × (respelled entries 14 l.fn.out ≡ respelled (drop l.k entries) l.at l.out)
