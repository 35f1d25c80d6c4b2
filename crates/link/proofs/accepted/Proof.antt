-- 13 is kept, nothing is refused, and these are the totals.
use mathlib.Core.Path.{◌∙◌}
use borrow.Author.Rules.{rules}
use Rattle.rules.specs.Rules.{base}
use Rattle.judge.specs.Sums.{totals_kept}
use Rattle.link.proofs.StateLaws.{accepted_by_lem}
use Rattle.link.proofs.accepted.Statement.{statement}
use Rattle.link.proofs.accepted.Tie as tie

stopped_requires : tie.Need-stopped-requires
stopped_requires c κs = search rules

refused_requires : tie.Need-refused-requires
refused_requires c κs = search rules

sums_of_requires : tie.Need-sums_of-requires
sums_of_requires c κs = search rules

declared_of_requires : tie.Need-declared_of-requires
declared_of_requires c κs = search rules

totals_kept_requires : tie.Need-totals_kept-requires
totals_kept_requires c κs = search rules

returns : tie.Need-returns
returns c =
    let s = c.args.s in
    let told =
    accepted_by_lem base s c.stopped.ensures
    (c.totals_kept.ensures ∙ (λ i. totals_kept base (c.sums_of.ensures i) (c.declared_of.ensures i))) in
    rw c.refused.ensures told

pub accepted_spec : {M : Type 1} → statement M
accepted_spec =
    tie.close
    (tie.spec stopped_requires refused_requires sums_of_requires declared_of_requires totals_kept_requires returns)
