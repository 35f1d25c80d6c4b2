-- A distance is read with as many digits as the rules allow.
use native.Mathlib.Omega.{arith}
use Rattle.figures.proofs.LimitLaws.{readable, digits_read}
use Rattle.figures.proofs.distance.Statement.{statement}
use Rattle.figures.proofs.distance.Tie as tie

distance_digits_requires : tie.Need-distance_digits-requires
distance_digits_requires c κs = tt

number_requires : tie.Need-number-requires
number_requires c κs = omega (arith, c.distance_digits.ensures, readable.distance)

returns : tie.Need-returns
returns c = digits_read _ _ c.distance_digits.ensures c.number.ensures

pub distance_spec : {M : Type 1} → statement M
distance_spec = tie.close (tie.spec distance_digits_requires number_requires returns)
