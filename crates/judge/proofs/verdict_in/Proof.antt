-- The bits of a number tell the class and the marks of its verdict.
use Prim.Native.Nat.{◌/◌, ◌%◌}
use mathlib.Core.Path.{ap, ◌∙◌}
use lib.Dec.{eqb}
use borrow.Author.Rules.{rules}
use Rattle.rules.specs.declared.Class.{Class}
use Rattle.judge.specs.Said.{verdict_by}
use Rattle.judge.specs.Sums.{verdict_in}
use Rattle.judge.proofs.verdict_in.Statement.{statement}
use Rattle.judge.proofs.verdict_in.Tie as tie

class_in_requires : tie.Need-class_in-requires
class_in_requires c κs = search rules

verdict_by_requires : tie.Need-verdict_by-requires
verdict_by_requires c κs = search rules

returns : tie.Need-returns
unfolding verdict_in
returns c =
    let n = c.args.number in
    c.verdict_by.ensures
    ∙ ap (λ (k : Class). verdict_by k (eqb (n / 16 % 2) 1) (eqb (n / 32 % 2) 1) (eqb (n / 64 % 2) 1)) c.class_in.ensures

pub verdict_in_spec : {M : Type 1} → statement M
verdict_in_spec = tie.close (tie.spec class_in_requires verdict_by_requires returns)
