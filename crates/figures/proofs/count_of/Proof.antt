-- A count is read between the bounds that the rules give.
use native.Mathlib.Omega.{arith}
use Rattle.rules.specs.Arguments.{count}
use Rattle.figures.proofs.LimitLaws.{readable, bound_read}
use Rattle.figures.proofs.count_of.Statement.{statement}
use Rattle.figures.proofs.count_of.Tie as tie

most_count_requires : tie.Need-most_count-requires
most_count_requires c κs = tt

number_from_requires : tie.Need-number_from-requires
number_from_requires c κs = omega (arith, c.most_count.ensures, readable.count)

returns : tie.Need-returns
unfolding count
returns c = bound_read _ _ 0 c.most_count.ensures c.number_from.ensures

pub count_of_spec : {M : Type 1} → statement M
count_of_spec = tie.close (tie.spec most_count_requires number_from_requires returns)
