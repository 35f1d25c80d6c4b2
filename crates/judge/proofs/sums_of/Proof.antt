-- The counts and the modes, as a caller's sums have them.
use mathlib.Core.Path.{ap, ◌∙◌}
use borrow.Author.Rules.{rules}
use Rattle.judge.specs.Count.{modes_in}
use Rattle.judge.specs.Narrow.{sums_in}
use Rattle.judge.proofs.sums_of.Statement.{statement}
use Rattle.judge.proofs.sums_of.Tie as tie

modes_of_requires : tie.Need-modes_of-list-requires
modes_of_requires c κs = search rules

tally_of_requires : tie.Need-tally_of-requires
tally_of_requires c κs = search rules

modes_in_requires : tie.Need-modes_in-requires
modes_in_requires c κs = search rules

returns : tie.Need-returns
unfolding sums_in
returns c = λ i. record { tally = c.tally_of.ensures.0 i; modes = (c.modes_in.ensures ∙ ap modes_in c.modes_of-list.ensures.0) i }

pub sums_of_spec : {M : Type 1} → statement M
sums_of_spec = tie.close (tie.spec modes_of_requires tally_of_requires modes_in_requires returns)
