-- Where the field ends at once there is no locator; elsewhere a locator is read.
use mathlib.Core.Path.{sym, ◌∙◌}
use Rattle.fields.proofs.ShapeLaws.{no_locator, some_locator}
use Rattle.fields.proofs.locator_or_empty.Statement.{statement}
use Rattle.fields.proofs.locator_or_empty.Tie as tie

ends_requires : tie.Need-ends-requires
ends_requires c κs = tt

returns : tie.Need-returns-then-ends
returns c = no_locator _ _ (sym c.before.ends.ensures ∙ c.if-ends.true)

locator_requires : tie.Need-locator-requires
locator_requires c κs = tt

returns_2 : tie.Need-returns
returns_2 c = c.locator.ensures ∙ some_locator _ _ (sym c.before.before.ends.ensures ∙ c.before.if-ends.false)

pub locator_or_empty_spec : {M : Type 1} → statement M
locator_or_empty_spec = tie.close (tie.spec ends_requires returns locator_requires returns_2)
