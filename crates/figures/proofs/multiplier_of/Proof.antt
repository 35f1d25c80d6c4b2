-- A multiplier is read between the bounds that the rules give.
use native.Mathlib.Omega.{arith}
use Rattle.rules.specs.Arguments.{multiplier}
use Rattle.figures.proofs.LimitLaws.{readable, bound_read}
use Rattle.figures.proofs.multiplier_of.Statement.{statement}
use Rattle.figures.proofs.multiplier_of.Tie as tie

most_multiplier_requires : tie.Need-most_multiplier-requires
most_multiplier_requires c κs = tt

number_from_requires : tie.Need-number_from-requires
number_from_requires c κs = omega (arith, c.most_multiplier.ensures, readable.multiplier)

returns : tie.Need-returns
unfolding multiplier
returns c = bound_read _ _ 1 c.most_multiplier.ensures c.number_from.ensures

pub multiplier_of_spec : {M : Type 1} → statement M
multiplier_of_spec = tie.close (tie.spec most_multiplier_requires number_from_requires returns)
