-- The length of a month, by its turn and the leap year.
use mathlib.Core.Bool.{not}
use mathlib.Core.Path.{sym, ap, ◌∙◌}
use borrow.Author.Rules.{rules}
use borrow.Author.Tests.{not-false}
use Rattle.figures.proofs.CalendarLaws.{length_plain, length_common, length_leap}
use Rattle.figures.proofs.month_length.Statement.{statement}
use Rattle.figures.proofs.month_length.Tie as tie

add_days : tie.Need-overflow_add-days
add_days c = search rules

add_days_2 : tie.Need-overflow_add-days-2
add_days_2 c = search rules

returns : tie.Need-returns-then-month-ne2
returns c = length_plain _ _ c.requires c.if-month-ne2.true

is_leap_requires : tie.Need-is_leap-requires
is_leap_requires c κs = tt

sub_result : tie.Need-overflow_sub-result
sub_result c = search rules

returns_2 : tie.Need-returns-then-not-is_leap
returns_2 c = length_common _ _ c.requires c.if-month-ne2.false (ap not (sym c.is_leap.ensures) ∙ c.if-not-is_leap.true-raw)

sub_result_2 : tie.Need-overflow_sub-result-2
sub_result_2 c = search rules

returns_3 : tie.Need-returns
returns_3 c = length_leap _ _ c.requires c.if-month-ne2.false (sym c.is_leap.ensures ∙ not-false _ c.if-not-is_leap.false-raw)

pub month_length_spec : {M : Type 1} → statement M
month_length_spec =
    tie.close
    (tie.spec
    add_days
    add_days_2
    returns
    is_leap_requires
    sub_result
    returns_2
    sub_result_2
    returns_3)
