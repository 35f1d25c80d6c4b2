-- A call that ends with the text.
use mathlib.Core.Path.{sym, ◌∙◌}
use Rattle.rules.specs.Arguments.{meets}
use Rattle.rules.specs.Fields.{call}
use Rattle.fields.proofs.Picked.{call_refused, call_picked}
use Rattle.header.proofs.DueLaws.{argument_broken, argument_ends}
use Rattle.header.proofs.RuleLaws.{call_apart}
use Rattle.header.proofs.is_call.Goals as goal

pub returns-in_default : goal.returns-in_default
unfolding meets
returns-in_default c =
    argument_broken call call_apart c.args.t.now (call_refused call c.args.t.now 0 (sym c.call.ensures ∙ c.in_default.is))

pub returns : goal.returns
unfolding meets
returns c = argument_ends call call_apart c.args.t.now (call_picked call c.args.t.now 0 (sym c.call.ensures ∙ c.in-Some.is)).0
