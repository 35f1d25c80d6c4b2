-- The session starts anew where what is declared keeps the rules.
use mathlib.Core.Path.{sym, ◌∙◌}
use borrow.Author.Rules.{rules}
use borrow.Author.Tests.{not-true, not-false}
use Rattle.rules.specs.Rules.{base}
use Rattle.session.specs.Session.{refused_by, fresh_session}
use Rattle.session.proofs.SessionLaws.{start_refused, start_accepted}
use Rattle.session.proofs.started.Statement.{statement}
use Rattle.session.proofs.started.Tie as tie

is_declared_requires : tie.Need-is_declared-requires
is_declared_requires c κs = search rules

refused_requires : tie.Need-refused-requires
refused_requires c κs = search rules

returns : tie.Need-returns-then-not-is_declared
returns c = c.refused.ensures ∙ start_refused base _ _ (sym c.is_declared.ensures ∙ not-true _ c.if-not-is_declared.true-raw)

no_sums_requires : tie.Need-no_sums-requires
no_sums_requires c κs = search rules

accepted_requires : tie.Need-accepted-requires
accepted_requires c κs = search rules

returns_2 : tie.Need-returns
unfolding fresh_session
returns_2 c =
    let a = c.args in
    c.accepted.ensures
    ∙ (λ i. refused_by (record { declared = a.d; sums = c.no_sums.ensures i }) 0 0)
    ∙ start_accepted base a.s a.d (sym c.is_declared.ensures ∙ not-false _ c.if-not-is_declared.false-raw)

pub started_spec : {M : Type 1} → statement M
started_spec =
    tie.close
    (tie.spec
    is_declared_requires
    refused_requires
    returns
    no_sums_requires
    accepted_requires
    returns_2)
