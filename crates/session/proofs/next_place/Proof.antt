-- The next record is kept behind those that are present; where there may be no more, behind all that the slice holds.
use native.Mathlib.Omega.{arith}
use mathlib.Core.Bool.{true}
use mathlib.Core.Path.{◌≡◌, sym, ◌∙◌}
use borrow.Author.Rules.{rules}
use borrow.Author.Tests.{not-true, not-false}
use Rattle.rules.specs.Rules.{base}
use Rattle.session.specs.Session.{reachable}
use Rattle.session.proofs.SessionLaws.{few_present, place_unreached, place_next, place_full}
use Rattle.session.proofs.next_place.Statement.{statement}
use Rattle.session.proofs.next_place.Tie as tie

is_reachable_requires : tie.Need-is_reachable-requires
is_reachable_requires c κs = search rules

returns : tie.Need-returns-then-not-is_reachable
returns c = place_unreached base _ _ (sym c.is_reachable.ensures ∙ not-true _ c.if-not-is_reachable.true-raw)

-- The numbers are ones that a run of calls can come to.
reached : (c : tie.Else-not-is_reachable) → reachable base c.args.s ≡ true
reached c = sym c.is_reachable.ensures ∙ not-false _ c.if-not-is_reachable.false-raw

present_requires : tie.Need-present-n-requires
present_requires c κs = few_present base c.args.s (reached c.before.before)

most_records_requires : tie.Need-most_records-requires
most_records_requires c κs = search rules

returns_2 : tie.Need-returns-then-n-most_records
unfolding base
returns_2 c = c.present-n.ensures ∙ place_next base _ _ (reached c.before.before.before.before.before) (omega (arith, c.if-n-most_records.true, c.most_records.ensures, c.present-n.ensures))

returns_3 : tie.Need-returns
unfolding base
returns_3 c = place_full base _ _ (reached c.before.before.before.before.before) (omega (arith, c.if-n-most_records.false, c.most_records.ensures, c.present-n.ensures))

pub next_place_spec : {M : Type 1} → statement M
next_place_spec =
    tie.close
    (tie.spec
    is_reachable_requires
    returns
    present_requires
    most_records_requires
    returns_2
    returns_3)
