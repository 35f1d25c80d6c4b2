-- The minutes of a time, by its hours and minutes.
use native.Mathlib.Omega.{arith}
use borrow.Author.Rules.{rules}
use Rattle.figures.specs.Figure.{minutes_of}
use Rattle.figures.proofs.TimeOfDay.minutes.Statement.{statement}
use Rattle.figures.proofs.TimeOfDay.minutes.Tie as tie

mul_result : tie.Need-overflow_mul-result
mul_result c = search rules

add_result : tie.Need-overflow_add-result
add_result c = search rules

sub_result : tie.Need-overflow_sub-result
sub_result c = search rules

returns : tie.Need-returns
unfolding minutes_of
returns c = omega arith

pub minutes_spec : {M : Type 1} → statement M
minutes_spec = tie.close (tie.spec mul_result add_result sub_result returns)
