-- A claimed bonus is read with as many digits as the rules allow.
use native.Mathlib.Omega.{arith}
use Rattle.figures.proofs.LimitLaws.{readable, digits_read}
use Rattle.figures.proofs.claimed_bonus.Statement.{statement}
use Rattle.figures.proofs.claimed_bonus.Tie as tie

claimed_bonus_digits_requires : tie.Need-claimed_bonus_digits-requires
claimed_bonus_digits_requires c κs = tt

number_requires : tie.Need-number-requires
number_requires c κs = omega (arith, c.claimed_bonus_digits.ensures, readable.claimed_bonus)

returns : tie.Need-returns
returns c = digits_read _ _ c.claimed_bonus_digits.ensures c.number.ensures

pub claimed_bonus_spec : {M : Type 1} → statement M
claimed_bonus_spec = tie.close (tie.spec claimed_bonus_digits_requires number_requires returns)
