-- The semicolon, and the mark where there is one.
use mathlib.Core.Path.{refl}
use native.Mathlib.Omega.{arith}
use Rattle.rules.specs.Fields.{new_mark, duplicate_mark}
use Rattle.writer.specs.RecordText.{mark_text}
use Rattle.writer.proofs.mark_length.Goals as goal

pub returns-then-marked : goal.returns-then-marked
unfolding mark_text new_mark duplicate_mark
returns-then-marked c = rw c.if-marked.true (refl, refl, omega arith)

pub returns-else-marked : goal.returns-else-marked
unfolding mark_text new_mark duplicate_mark
returns-else-marked c = rw c.if-marked.false (refl, refl, omega arith)
