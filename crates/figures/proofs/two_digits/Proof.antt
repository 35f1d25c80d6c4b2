-- Two digits make a number, which is the definition's.
use mathlib.Core.Bool.{true, ◌&&◌}
use borrow.Author.Rules.{rules}
use Rattle.rules.specs.Text.{all, digit}
use Rattle.rules.proofs.Tests.{and_l, and_r}
use Rattle.figures.proofs.NumberLaws.{digit_least}
use Rattle.figures.proofs.TimeLaws.{two_digits}
use Rattle.figures.proofs.two_digits.Statement.{statement}
use Rattle.figures.proofs.two_digits.Tie as tie

sub_result : tie.Need-overflow_sub-result
unfolding all
sub_result c = digit_least _ (and_l (digit c.args.a) (digit c.args.b && true) c.requires)

cast_result : tie.Need-overflow_cast-result
cast_result c = search rules

mul_result : tie.Need-overflow_mul-result
mul_result c = search rules

sub_result_2 : tie.Need-overflow_sub-result-2
unfolding all
sub_result_2 c =
    digit_least _
    (and_l (digit c.args.b) true (and_r (digit c.args.a) (digit c.args.b && true) c.requires))

cast_result_2 : tie.Need-overflow_cast-result-2
cast_result_2 c = search rules

add_result : tie.Need-overflow_add-result
add_result c = search rules

returns : tie.Need-returns
returns c = two_digits _ _

pub two_digits_spec : {M : Type 1} → statement M
two_digits_spec =
    tie.close
    (tie.spec sub_result cast_result mul_result sub_result_2 cast_result_2 add_result returns)
