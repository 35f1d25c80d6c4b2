-- Claimed points are read with as many digits as the rules allow.
use native.Mathlib.Omega.{arith}
use Rattle.figures.proofs.LimitLaws.{readable, digits_read}
use Rattle.figures.proofs.claimed_points.Statement.{statement}
use Rattle.figures.proofs.claimed_points.Tie as tie

claimed_points_digits_requires : tie.Need-claimed_points_digits-requires
claimed_points_digits_requires c κs = tt

number_requires : tie.Need-number-requires
number_requires c κs = omega (arith, c.claimed_points_digits.ensures, readable.claimed_points)

returns : tie.Need-returns
returns c = digits_read _ _ c.claimed_points_digits.ensures c.number.ensures

pub claimed_points_spec : {M : Type 1} → statement M
claimed_points_spec = tie.close (tie.spec claimed_points_digits_requires number_requires returns)
