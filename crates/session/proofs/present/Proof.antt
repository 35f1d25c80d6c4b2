-- The classes have so few records together that no sum of them runs over.
use borrow.Author.Rules.{rules}
use Rattle.rules.specs.Rules.{base}
use Rattle.session.proofs.present.Statement.{statement}
use Rattle.session.proofs.present.Tie as tie

add_result : tie.Need-overflow_add-result
unfolding base
add_result c = search rules

add_result_2 : tie.Need-overflow_add-result-2
unfolding base
add_result_2 c = search rules

add_result_3 : tie.Need-overflow_add-result-3
unfolding base
add_result_3 c = search rules

returns : tie.Need-returns
returns c = search rules

pub present_spec : {M : Type 1} → statement M
present_spec = tie.close (tie.spec add_result add_result_2 add_result_3 returns)
