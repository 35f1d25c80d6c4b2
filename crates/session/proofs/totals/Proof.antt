-- The totals are those of the sums with what was declared.
use borrow.Author.Rules.{rules}
use Rattle.session.specs.Session.{totals_now}
use Rattle.session.proofs.totals.Statement.{statement}
use Rattle.session.proofs.totals.Tie as tie

totals_kept_requires : tie.Need-totals_kept-requires
totals_kept_requires c κs = search rules

returns : tie.Need-returns
unfolding totals_now
returns c = c.totals_kept.ensures

pub totals_spec : {M : Type 1} → statement M
totals_spec = tie.close (tie.spec totals_kept_requires returns)
