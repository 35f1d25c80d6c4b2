-- A claimed total is read with as many digits as the rules allow.
use native.Mathlib.Omega.{arith}
use Rattle.figures.proofs.LimitLaws.{readable, digits_read}
use Rattle.figures.proofs.claimed_total.Statement.{statement}
use Rattle.figures.proofs.claimed_total.Tie as tie

claimed_total_digits_requires : tie.Need-claimed_total_digits-requires
claimed_total_digits_requires c κs = tt

number_requires : tie.Need-number-requires
number_requires c κs = omega (arith, c.claimed_total_digits.ensures, readable.claimed_total)

returns : tie.Need-returns
returns c = digits_read _ _ c.claimed_total_digits.ensures c.number.ensures

pub claimed_total_spec : {M : Type 1} → statement M
claimed_total_spec = tie.close (tie.spec claimed_total_digits_requires number_requires returns)
