-- The last record is read from the slices and taken off, where they reach to it.
use Prim.Native.Nat.{◌+◌, ◌-◌, ◌*◌, ◌≤◌, ◌<◌}
use native.Mathlib.Omega.{arith}
use mathlib.Core.Path.{sym, ◌∙◌}
use lib.ListN.{length, get_or}
use borrow.Author.Rules.{rules}
use borrow.Author.Tests.{not-true, not-false}
use Rattle.rules.specs.Rules.{base}
use Rattle.judge.proofs.ModeLaws.{place_most}
use Rattle.session.proofs.SessionLaws.{Reached, last_read, few_present, reach_facts, back_refused, back_by}
use Rattle.session.proofs.given_back.Statement.{statement}
use Rattle.session.proofs.given_back.Tie as tie

-- The places, each by the one before: where the slices are known to reach, where the records were counted, where the verdict and the mode of
-- the last were read, and where the code begins.
abbrev start : tie.Else-not-reach → tie.Start
start c = c.before.before.before.before

abbrev reaching : tie.After-present-n → tie.Else-not-reach
reaching c = c.before.before.before

abbrev counted : tie.After-verdict_in → tie.After-present-n
counted c = c.before.before.before

abbrev judged : tie.After-mode_place → tie.After-verdict_in
judged c = c.before.before.before

reach_requires : tie.Need-reach-requires
reach_requires c κs = search rules

refused_requires : tie.Need-refused-requires
refused_requires c κs = search rules

returns : tie.Need-returns-then-not-reach
returns c = c.refused.ensures ∙ back_refused base _ _ _ (sym c.reach.ensures ∙ not-true _ c.if-not-reach.true-raw)

-- The slices reach to the last record.
facts : (c : tie.Else-not-reach) → let a = (start c).args in Reached base a.s (length a.verdicts.now) (length a.kept.now)
facts c = reach_facts base _ _ _ (sym c.reach.ensures ∙ not-false _ c.if-not-reach.false-raw)

present_requires : tie.Need-present-n-requires
present_requires c κs = few_present base (start c.before.before).args.s (facts c.before.before).reached

-- Some records are present, and no more than there may be.
few : (c : tie.After-present-n) → c.present-n.result ≤ 999
unfolding base
few c = omega (arith, few_present base (start (reaching c)).args.s (facts (reaching c)).reached, c.present-n.ensures)

some : (c : tie.After-present-n) → 0 < c.present-n.result
some c = omega (arith, (facts (reaching c)).some, c.present-n.ensures)

sub_at : tie.Need-overflow_sub-at
sub_at c = some c

mul_at : tie.Need-overflow_mul-at
mul_at c = omega (arith, few c)

worth_kept_requires : tie.Need-worth_kept-requires
worth_kept_requires c κs = omega (arith, some c, (facts (reaching c)).in_kept, c.present-n.ensures)

sub_verdict_in : tie.Need-overflow_sub-n
sub_verdict_in c = some c.before

shared_slice_read_verdict_in : tie.Need-bounds-verdicts-n
shared_slice_read_verdict_in c =
    let many = c.before.before in
    omega (arith, some many, (facts (reaching many)).in_verdicts, many.present-n.ensures)

verdict_in_requires : tie.Need-verdict_in-requires
verdict_in_requires c κs = search rules

brought_by_requires : tie.Need-brought_by-brought-requires
brought_by_requires c κs = search rules

add_mode_place : tie.Need-overflow_add-at
add_mode_place c = omega (arith, few (counted c.before))

shared_slice_read_mode_place : tie.Need-bounds-kept-at
shared_slice_read_mode_place c =
    let many = counted c.before.before in
    omega (arith, some many, (facts (reaching many)).in_kept, many.present-n.ensures)

mode_place_requires : tie.Need-mode_place-requires
mode_place_requires c κs = search rules

take_off_requires : tie.Need-take_off-requires
take_off_requires c κs =
    let many = counted (judged c) in
    rw c.mode_place.ensures (place_most (get_or (start (reaching many)).args.kept.now ((many.present-n.result - 1) * 28 + 27) 0))

returns_2 : tie.Need-returns
returns_2 c =
    let told = judged c.before in
    let many = counted told in
    let there = reaching many in
    let a = (start there).args in
    c.take_off.ensures
    ∙ last_read base a.s a.verdicts.now a.kept.now many.present-n.result many.present-n.ensures told.worth_kept.ensures told.verdict_in.ensures c.brought_by-brought.ensures c.mode_place.ensures
    ∙ back_by base a.s a.verdicts.now a.kept.now (sym there.reach.ensures ∙ not-false _ there.if-not-reach.false-raw)

pub given_back_spec : {M : Type 1} → statement M
given_back_spec =
    tie.close
    (tie.spec
    reach_requires
    refused_requires
    returns
    present_requires
    sub_at
    mul_at
    worth_kept_requires
    sub_verdict_in
    shared_slice_read_verdict_in
    verdict_in_requires
    brought_by_requires
    add_mode_place
    shared_slice_read_mode_place
    mode_place_requires
    take_off_requires
    returns_2)
