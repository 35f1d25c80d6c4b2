-- The word is the keyword that is left of the table, behind those that it was compared with.
use Rattle.std.proofs.Common.{◌≡◌, ◌+◌, drop}
use Rattle.rules.specs.Arguments.{entries}
use Rattle.words.specs.Words.{keyword_from}
use Rattle.words.proofs.keyword_number.Given as goal

abbrev pub invariant-loop-k : goal.invariant-loop-k
invariant-loop-k l = keyword_from 1 entries l.fn.word ≡ keyword_from (l.k + 1) (drop l.k entries) l.fn.word
