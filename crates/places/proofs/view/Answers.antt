-- A view goes by the keyword's number and what reading answers.
use Rattle.std.proofs.Common.{rules, ◌<◌, ◌≤◌, ◌⊎◌, ap, sym, ◌∙◌}
use Rattle.std.proofs.lemmas.Result.{err_from_is_err_and}
use Rattle.std.specs.Prelude.{Ok, Err}
use Rattle.rules.specs.Rules.{base}
use Rattle.places.proofs.ViewLaws.{view_outside, view_refused, view_seen}
use Rattle.places.proofs.view.Goals as goal

pub returns-then-not-contains : goal.returns-then-not-contains
returns-then-not-contains c =
    let out : (c.args.k < 1) ⊎ (36 < c.args.k) = search rules in
    ap Err c.refused.ensures ∙ view_outside base _ _ out

pub returns-in_err-read : goal.returns-in_err-read
returns-in_err-read c =
    let low : 1 ≤ c.args.k = search rules in
    let high : c.args.k ≤ 36 = search rules in
    let p = err_from_is_err_and c.from_residual.result c.from_residual.ensures.1 in
    rw (p.1, p.2) (view_refused base _ _ low high (sym c.read.ensures ∙ c.in_err-read.was))

pub returns : goal.returns
returns c =
    let low : 1 ≤ c.args.k = search rules in
    let high : c.args.k ≤ 36 = search rules in
    ap Ok c.argument_part.ensures ∙ view_seen base _ _ low high (sym c.read.ensures ∙ c.in_ok-read.was)
