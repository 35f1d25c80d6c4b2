-- A part of another length is another text.
use mathlib.Core.Path.{◌∙◌}
use borrow.Author.Tests.{ne_eqb}
use Rattle.rules.specs.Fields.{error_call}
use Rattle.judge.proofs.PartLaws.{error_short}
use Rattle.judge.proofs.is_error.Goals as goal

pub returns-then-e-a-eq5 : goal.returns-then-e-a-eq5
unfolding error_call
returns-then-e-a-eq5 c = c.same_text.ensures

pub returns-else-e-a-eq5 : goal.returns-else-e-a-eq5
returns-else-e-a-eq5 c =
    let a = c.args in
    ne_eqb _ 5 c.if-e-a-eq5.false ∙ error_short a.s.now a.a a.e c.requires.0 c.requires.1 c.if-e-a-eq5.false
