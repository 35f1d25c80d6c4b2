-- Each count is small when they are added up.
use native.Mathlib.Omega.{arith}
use Rattle.rules.specs.Rules.{base}
use Rattle.judge.proofs.are_few.Goals as goal

pub overflow_add-result : goal.overflow_add-result
unfolding base
overflow_add-result c = let few = c.if-t-most-4.true in omega (arith, few.0, few.1, c.most_records-most.ensures)

pub overflow_add-result-then-t-most-4 : goal.overflow_add-result-then-t-most-4
unfolding base
overflow_add-result-then-t-most-4 c =
    let few = c.if-t-most-4.true in
    omega (arith, few.0, few.1, few.2, c.most_records-most.ensures)

pub overflow_add-result-then-t-most-4-2 : goal.overflow_add-result-then-t-most-4-2
unfolding base
overflow_add-result-then-t-most-4-2 c =
    let few = c.if-t-most-4.true in
    omega (arith, few.0, few.1, few.2, few.3, c.most_records-most.ensures)
