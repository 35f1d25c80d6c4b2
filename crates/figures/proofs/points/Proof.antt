-- A record's points are read with as many digits as the rules allow.
use native.Mathlib.Omega.{arith}
use Rattle.figures.proofs.LimitLaws.{readable, digits_read}
use Rattle.figures.proofs.points.Statement.{statement}
use Rattle.figures.proofs.points.Tie as tie

points_digits_requires : tie.Need-points_digits-requires
points_digits_requires c κs = tt

number_requires : tie.Need-number-requires
number_requires c κs = omega (arith, c.points_digits.ensures, readable.points)

returns : tie.Need-returns
returns c = digits_read _ _ c.points_digits.ensures c.number.ensures

pub points_spec : {M : Type 1} → statement M
points_spec = tie.close (tie.spec points_digits_requires number_requires returns)
