-- A bonus is read between the bounds that the rules give.
use native.Mathlib.Omega.{arith}
use Rattle.rules.specs.Arguments.{bonus}
use Rattle.figures.proofs.LimitLaws.{readable, bound_read}
use Rattle.figures.proofs.bonus_of.Statement.{statement}
use Rattle.figures.proofs.bonus_of.Tie as tie

most_bonus_requires : tie.Need-most_bonus-requires
most_bonus_requires c κs = tt

number_from_requires : tie.Need-number_from-requires
number_from_requires c κs = omega (arith, c.most_bonus.ensures, readable.bonus)

returns : tie.Need-returns
unfolding bonus
returns c = bound_read _ _ 0 c.most_bonus.ensures c.number_from.ensures

pub bonus_of_spec : {M : Type 1} → statement M
bonus_of_spec = tie.close (tie.spec most_bonus_requires number_from_requires returns)
