-- Where the field ends at once there is no call; elsewhere a call is read.
use mathlib.Core.Path.{sym, ◌∙◌}
use Rattle.fields.proofs.ShapeLaws.{no_call, some_call}
use Rattle.fields.proofs.call_or_empty.Statement.{statement}
use Rattle.fields.proofs.call_or_empty.Tie as tie

ends_requires : tie.Need-ends-requires
ends_requires c κs = tt

returns : tie.Need-returns-then-ends
returns c = no_call _ _ (sym c.before.ends.ensures ∙ c.if-ends.true)

call_requires : tie.Need-call-requires
call_requires c κs = tt

returns_2 : tie.Need-returns
returns_2 c = c.call.ensures ∙ some_call _ _ (sym c.before.before.ends.ensures ∙ c.before.if-ends.false)

pub call_or_empty_spec : {M : Type 1} → statement M
call_or_empty_spec = tie.close (tie.spec ends_requires returns call_requires returns_2)
