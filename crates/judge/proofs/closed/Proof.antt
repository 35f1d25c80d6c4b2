-- The bonuses and the total are made of the sums, and none runs over.
use native.Mathlib.Omega.{arith}
use borrow.Author.Rules.{rules}
use Rattle.judge.specs.Count.{closing}
use Rattle.judge.proofs.CountLaws.{Closes, closes}
use Rattle.judge.proofs.closed.Statement.{statement}
use Rattle.judge.proofs.closed.Tie as tie

-- Where the code begins, from where the bonuses are made.
abbrev multiplied : tie.After-struct_known-6-1 → tie.Start
multiplied c = c.before.before.before.before.before.before

bounds : (c : tie.Start) → Closes c.args.t c.args.d
bounds c = closes c.args.t c.args.modes.now c.args.d c.requires

mul_squares : tie.Need-overflow_mul-squares
mul_squares c = omega (arith, bounds c.before.before)

mul_exchanges : tie.Need-overflow_mul-exchanges
mul_exchanges c = omega (arith, bounds c.before.before.before.before)

mul_countries : tie.Need-overflow_mul-countries
mul_countries c = omega (arith, bounds c.before.before.before.before.before.before)

mul_multipliers : tie.Need-overflow_mul-multipliers
mul_multipliers c = omega (arith, bounds (multiplied c.before))

mul_multipliers_2 : tie.Need-overflow_mul-multipliers-2
mul_multipliers_2 c = omega (arith, bounds (multiplied c.before.before))

add_t8 : tie.Need-overflow_add-result
add_t8 c = omega (arith, bounds (multiplied c.before.before.before))

add_t9 : tie.Need-overflow_add-result-2
add_t9 c = omega (arith, bounds (multiplied c.before.before.before))

add_t10 : tie.Need-overflow_add-result-3
add_t10 c = omega (arith, bounds (multiplied c.before.before.before))

mul_t11 : tie.Need-overflow_mul-result
mul_t11 c = omega (arith, bounds (multiplied c.before.before.before))

modes_in_requires : tie.Need-modes_in-requires
modes_in_requires c κs = search rules

returns : tie.Need-returns
unfolding closing
returns c = rw c.modes_in.ensures

pub closed_spec : {M : Type 1} → statement M
closed_spec =
    tie.close
    (tie.spec
    mul_squares
    mul_exchanges
    mul_countries
    mul_multipliers
    mul_multipliers_2
    add_t8
    add_t9
    add_t10
    mul_t11
    modes_in_requires
    returns)
