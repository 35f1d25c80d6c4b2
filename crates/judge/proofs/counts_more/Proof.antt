-- One record more can be counted where the sums are sound, there may be one more, and it is worth no more than a record may be.
use Prim.Native.Nat.{◌≤◌}
use native.Mathlib.Omega.{arith}
use mathlib.Core.Bool.{true}
use mathlib.Core.Path.{◌≡◌, sym, ◌∙◌}
use borrow.Author.Rules.{rules}
use borrow.Author.Tests.{not-true, not-false}
use Rattle.rules.specs.Rules.{base}
use Rattle.judge.specs.Sums.{records_counted, sound_sums}
use Rattle.judge.proofs.SumLaws.{sound_facts, not_more, more_full, more_by}
use Rattle.judge.proofs.counts_more.Statement.{statement}
use Rattle.judge.proofs.counts_more.Tie as tie

are_sums_requires : tie.Need-are_sums-requires
are_sums_requires c κs = search rules

-- The sums are sound, and so of few records.
sound : (c : tie.Else-not-are_sums) → sound_sums base c.args.s ≡ true
sound c = sym c.are_sums.ensures ∙ not-false _ c.if-not-are_sums.false-raw

few : (c : tie.Else-not-are_sums) → records_counted c.args.s.tally ≤ 999
unfolding base
few c = (sound_facts base c.args.s (sound c)).few

returns : tie.Need-returns-then-not-are_sums
returns c = not_more base _ _ (sym c.are_sums.ensures ∙ not-true _ c.if-not-are_sums.true-raw)

most_records_requires : tie.Need-most_records-requires
most_records_requires c κs = search rules

add_if2 : tie.Need-overflow_add-t
add_if2 c = omega (arith, few c.before.before.before)

add_if2_2 : tie.Need-overflow_add-t-2
add_if2_2 c = omega (arith, few c.before.before.before.before)

add_if2_3 : tie.Need-overflow_add-t-3
add_if2_3 c = omega (arith, few c.before.before.before.before.before)

returns_2 : tie.Need-returns-then-most_records-t
unfolding base
returns_2 c = more_full base _ _ (sound c.before.before.before.before.before.before) (omega (arith, c.if-most_records-t.true, c.most_records.ensures))

returns_3 : tie.Need-returns
unfolding base
returns_3 c = more_by base _ _ (sound c.before.before.before.before.before.before) (omega (arith, c.if-most_records-t.false, c.most_records.ensures))

pub counts_more_spec : {M : Type 1} → statement M
counts_more_spec =
    tie.close
    (tie.spec
    are_sums_requires
    returns
    most_records_requires
    add_if2
    add_if2_2
    add_if2_3
    returns_2
    returns_3)
