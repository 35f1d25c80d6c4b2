-- An empty locator brings nothing; otherwise the number of the square is looked for among those that are kept, and stands behind them.
use native.Mathlib.Omega.{arith}
use lib.ListN.{length-set}
use lib.Seq.{get_or-set_same}
use borrow.Author.Rules.{rules}
use Rattle.judge.proofs.SquareLaws.{locator_square, no_square, square_looked}
use Rattle.judge.proofs.new_square.Statement.{statement}
use Rattle.judge.proofs.new_square.Tie as tie

returns : tie.Need-returns-then-a-e
returns c = let a = c.args in no_square a.squares.now a.m a.s.now a.a a.e c.if-a-e.true

square_of_requires : tie.Need-square_of-number-requires
square_of_requires c κs =
    let start = c in
    let a = start.args in
    (locator_square a.s.now a.a a.e start.requires.1 start.requires.2 c.if-a-e.false start.requires.3).1

mul_squares : tie.Need-offset_bounds-squares-m
mul_squares c = search rules

slice_write_squares : tie.Need-bounds-squares-m
slice_write_squares c = search rules

next_key_requires : tie.Need-next_key-requires
next_key_requires c κs =
    let start = c in
    let a = start.args in
    record {
      there = a.m;
      behind = omega arith;
      within = rw length-set start.requires.0;
      stands = get_or-set_same a.squares.now a.m c.square_of-number.result 0 start.requires.0;
    }

same_length : tie.Need-shape_of-squares
same_length c = search rules

returns_2 : tie.Need-returns
returns_2 c =
    let start = c in
    let a = start.args in
    let there = locator_square a.s.now a.a a.e start.requires.1 start.requires.2 c.if-a-e.false start.requires.3 in
    square_looked a.squares.now a.m _ _ start.requires.0 c.square_of-number.ensures there.0 there.1 c.next_key.ensures

pub new_square_spec : {M : Type 1} → statement M
new_square_spec =
    tie.close
    (tie.spec
    returns
    square_of_requires
    mul_squares
    slice_write_squares
    next_key_requires
    same_length
    returns_2)
