-- The full year of two digits, by the year that the century turns at.
use borrow.Author.Rules.{rules}
use Rattle.figures.proofs.CalendarLaws.{year_ninety, year_later}
use Rattle.figures.proofs.full_year.Statement.{statement}
use Rattle.figures.proofs.full_year.Tie as tie

add_result : tie.Need-overflow_add-result
add_result c = search rules

returns : tie.Need-returns-then-yy-ge90
returns c = year_ninety _ (search rules)

add_result_2 : tie.Need-overflow_add-result-2
add_result_2 c = search rules

returns_2 : tie.Need-returns
returns_2 c = year_later _ (search rules)

pub full_year_spec : {M : Type 1} → statement M
full_year_spec = tie.close (tie.spec add_result returns add_result_2 returns_2)
