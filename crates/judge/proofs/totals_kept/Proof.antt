-- The totals are those of the sums with what was declared, and zero where either breaks its rules.
use Prim.Native.Nat.{ℕ}
use mathlib.Core.Bool.{true}
use mathlib.Core.List.{List}
use mathlib.Core.Path.{◌≡◌, sym, ap, ◌∙◌}
use borrow.Author.Rules.{rules}
use borrow.Author.Tests.{not-true, not-false}
use Rattle.rules.specs.Session.{declared_rule}
use Rattle.rules.specs.Rules.{base}
use Rattle.judge.specs.Sums.{sound_sums}
use Rattle.judge.specs.Count.{tallied, closing, as_declared}
use Rattle.judge.proofs.SumLaws.{sound_facts, sound_closable, declared_small, totals_unsound, totals_undeclared, totals_closed}
use Rattle.judge.proofs.totals_kept.Statement.{statement}
use Rattle.judge.proofs.totals_kept.Tie as tie

-- The places, each by the one before: where the sums are known to be sound, where what was declared is known to keep its rules, and where the
-- code begins.
abbrev start : tie.Else-not-are_sums → tie.Start
start c = c.before.before

abbrev summed : tie.Else-not-is_declared → tie.Else-not-are_sums
summed c = c.before.before

abbrev begun : tie.Else-not-is_declared → tie.Start
begun c = start (summed c)

are_sums_requires : tie.Need-are_sums-requires
are_sums_requires c κs = search rules

no_totals_requires : tie.Need-no_totals-requires
no_totals_requires c κs = search rules

returns : tie.Need-returns-then-not-are_sums
returns c = c.no_totals.ensures ∙ totals_unsound base _ _ (sym c.are_sums.ensures ∙ not-true _ c.if-not-are_sums.true-raw)

is_declared_requires : tie.Need-is_declared-requires
is_declared_requires c κs = search rules

-- What the two tests say behind them.
sound : (c : tie.Else-not-are_sums) → sound_sums base (start c).args.s ≡ true
sound c = sym c.are_sums.ensures ∙ not-false _ c.if-not-are_sums.false-raw

declares : (c : tie.Else-not-is_declared) → declared_rule base (as_declared (begun c).args.d) ≡ true
declares c = sym c.is_declared.ensures ∙ not-false _ c.if-not-is_declared.false-raw

no_totals_requires_2 : tie.Need-no_totals-requires-then-not-is_declared
no_totals_requires_2 c κs = search rules

returns_2 : tie.Need-returns-then-not-is_declared
returns_2 c =
    c.no_totals-then-not-is_declared.ensures
    ∙ totals_undeclared base _ _ (sound c.before.before.before) (sym c.is_declared.ensures ∙ not-true _ c.if-not-is_declared.true-raw)

mode_numbers_requires : tie.Need-mode_numbers-list-requires
mode_numbers_requires c κs = search rules

closed_requires : tie.Need-closed-requires
closed_requires c κs =
    let both = c.before.before.before.before in
    let a = (begun both).args in
    rw c.mode_numbers-list.ensures
    (sound_closable base a.s (sound_facts base a.s (sound (summed both))) a.d (declared_small base a.d (declares both)))

returns_3 : tie.Need-returns
returns_3 c =
    let listed = c.before.before in
    let both = listed.before.before.before in
    let a = (begun both).args in
    c.closed.ensures
    ∙ ap (λ (l : List ℕ). closing (tallied a.s.tally l) a.d) listed.mode_numbers-list.ensures
    ∙ totals_closed base a.s a.d (sound (summed both)) (declares both)

pub totals_kept_spec : {M : Type 1} → statement M
totals_kept_spec =
    tie.close
    (tie.spec
    are_sums_requires
    no_totals_requires
    returns
    is_declared_requires
    no_totals_requires_2
    returns_2
    mode_numbers_requires
    closed_requires
    returns_3)
