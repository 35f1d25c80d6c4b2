-- Nothing, or a call that ends with the text.
use mathlib.Core.Path.{sym, ◌∙◌}
use Rattle.rules.specs.Arguments.{meets}
use Rattle.rules.specs.Fields.{call, empty_or}
use Rattle.fields.proofs.Picked.{call_refused, call_picked}
use Rattle.header.proofs.DueLaws.{argument_broken, argument_ends}
use Rattle.header.proofs.RuleLaws.{call_apart, empty_or_apart}
use Rattle.header.proofs.is_empty_or_call.Goals as goal

pub returns-in_default : goal.returns-in_default
unfolding meets
returns-in_default c =
    argument_broken (empty_or call) (empty_or_apart call call_apart) c.args.t.now (call_refused (empty_or call) c.args.t.now 0 (sym c.call_or_empty.ensures ∙ c.in_default.is))

pub returns : goal.returns
unfolding meets
returns c = argument_ends (empty_or call) (empty_or_apart call call_apart) c.args.t.now (call_picked (empty_or call) c.args.t.now 0 (sym c.call_or_empty.ensures ∙ c.in-Some.is)).0
