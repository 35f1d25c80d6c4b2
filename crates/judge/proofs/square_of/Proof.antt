-- The four characters are letters and digits, so that each makes its digit of the number.
use native.Mathlib.Omega.{arith}
use mathlib.Core.Path.{◌∙◌}
use Rattle.judge.proofs.SquareLaws.{square_at}
use Rattle.judge.proofs.square_of.Statement.{statement}
use Rattle.judge.proofs.square_of.Tie as tie

shared_slice_read_square_with : tie.Need-bounds-s-a
shared_slice_read_square_with c = omega (arith, (square_at c.args.s.now c.args.a c.requires).within)

add_square_with : tie.Need-overflow_add-a
add_square_with c = omega (arith, (square_at c.args.s.now c.args.a c.requires).within)

shared_slice_read_square_with_2 : tie.Need-bounds-s-a-2
shared_slice_read_square_with_2 c = omega (arith, (square_at c.args.s.now c.args.a c.requires).within)

add_square_with_2 : tie.Need-overflow_add-a-2
add_square_with_2 c = omega (arith, (square_at c.args.s.now c.args.a c.requires).within)

shared_slice_read_square_with_3 : tie.Need-bounds-s-a-3
shared_slice_read_square_with_3 c = omega (arith, (square_at c.args.s.now c.args.a c.requires).within)

add_square_with_3 : tie.Need-overflow_add-a-3
add_square_with_3 c = omega (arith, (square_at c.args.s.now c.args.a c.requires).within)

shared_slice_read_square_with_4 : tie.Need-bounds-s-a-4
shared_slice_read_square_with_4 c = omega (arith, (square_at c.args.s.now c.args.a c.requires).within)

square_with_requires : tie.Need-square_with-requires
square_with_requires c κs =
    let start = c in
    let k = (square_at start.args.s.now start.args.a start.requires).codes in
    ((k.a_low, k.a_high, k.b_low, k.b_high), (k.c_low, k.c_high, k.d_low, k.d_high))

returns : tie.Need-returns
returns c =
    let start = c in
    c.square_with.ensures ∙ (square_at start.args.s.now start.args.a start.requires).number

pub square_of_spec : {M : Type 1} → statement M
square_of_spec =
    tie.close
    (tie.spec
    shared_slice_read_square_with
    add_square_with
    shared_slice_read_square_with_2
    add_square_with_2
    shared_slice_read_square_with_3
    add_square_with_3
    shared_slice_read_square_with_4
    square_with_requires
    returns)
