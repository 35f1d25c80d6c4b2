-- Sums are sound where each test of the definition holds, one behind the other.
use native.Mathlib.Omega.{arith}
use mathlib.Core.Bool.{true}
use mathlib.Core.Path.{◌≡◌, sym, ◌∙◌}
use lib.Dec.{leb}
use borrow.Author.Rules.{rules}
use borrow.Author.Tests.{leb-true, le-leb, eq-eqb, not-true, not-false}
use Rattle.rules.specs.Rules.{base}
use Rattle.rules.proofs.Tests.{clash}
use Rattle.judge.specs.Sums.{records_counted}
use Rattle.judge.proofs.SumLaws.{Nearly, not_sound, sound_without, sound_with}
use Rattle.judge.proofs.are_sums.Statement.{statement}
use Rattle.judge.proofs.are_sums.Tie as tie

-- Where each test was left, by the one behind it, and where the code begins.
abbrev start : tie.Else-not-are_few → tie.Start
start c = c.before.before.before

abbrev test1 : tie.Else-t → tie.Else-not-are_few
test1 c = c.before.before

abbrev test2 : tie.Else-t-2 → tie.Else-t
test2 c = c.before.before.before

abbrev test3 : tie.Else-t-3 → tie.Else-t-2
test3 c = c.before.before

abbrev test4 : tie.Else-t-4 → tie.Else-t-3
test4 c = c.before.before

abbrev test5 : tie.Else-t-5 → tie.Else-t-4
test5 c = c.before.before

abbrev test6 : tie.Else-not-come_to → tie.Else-t-5
test6 c = c.before.before.before

-- There are few records by the first of them.
few : (c : tie.Else-not-are_few) → leb (records_counted (start c).args.s.tally) base.most_records ≡ true
few c = sym c.are_few.ensures ∙ not-false _ c.if-not-are_few.false-raw

are_few_requires : tie.Need-are_few-requires
are_few_requires c κs = search rules

returns : tie.Need-returns-then-not-are_few
returns c =
    not_sound base _
    (λ h. clash (le-leb _ _ h.few) (sym c.are_few.ensures ∙ not-true _ c.if-not-are_few.true-raw))

returns_2 : tie.Need-returns-then-t
returns_2 c = not_sound base _ (λ h. omega (arith, h.least, c.if-t.true))

mul_if3 : tie.Need-overflow_mul-t
unfolding base
mul_if3 c =
    let first = test1 c.before in
    omega (arith, leb-true (records_counted (start first).args.s.tally) base.most_records (few first))

returns_3 : tie.Need-returns-then-t-2
unfolding base
returns_3 c = not_sound base _ (λ h. omega (arith, h.most, c.if-t-2.true))

returns_4 : tie.Need-returns-then-t-3
returns_4 c = not_sound base _ (λ h. omega (arith, h.squares, c.if-t-3.true))

returns_5 : tie.Need-returns-then-t-4
returns_5 c = not_sound base _ (λ h. omega (arith, h.exchanges, c.if-t-4.true))

returns_6 : tie.Need-returns-then-t-5
returns_6 c = not_sound base _ (λ h. omega (arith, h.countries, c.if-t-5.true))

come_to_requires : tie.Need-come_to-requires
come_to_requires c κs = search rules

returns_7 : tie.Need-returns-then-not-come_to
returns_7 c = not_sound base _ (λ h. clash (eq-eqb _ _ h.modes_all) (sym c.come_to.ensures ∙ not-true _ c.if-not-come_to.true-raw))

-- Of all the tests one is left.
nearly : (c : tie.Else-not-come_to) → Nearly base (start (test1 (test2 (test3 (test4 (test5 (test6 c))))))).args.s
unfolding base
nearly c =
    let t6 = test6 c in
    let t5 = test5 t6 in
    let t4 = test4 t5 in
    let t3 = test3 t4 in
    let t2 = test2 t3 in
    record {
      few = few (test1 t2);
      least = t2.if-t.false;
      most = t3.if-t-2.false;
      squares = t4.if-t-3.false;
      exchanges = t5.if-t-4.false;
      countries = t6.if-t-5.false;
      modes_all = sym c.come_to.ensures ∙ not-false _ c.if-not-come_to.false-raw;
    }

returns_8 : tie.Need-returns-then-t-eq0
returns_8 c = sound_without base _ (nearly c.before.before) c.if-t-eq0.true

returns_9 : tie.Need-returns
returns_9 c = sound_with base _ (nearly c.before.before.before) c.if-t-eq0.false

pub are_sums_spec : {M : Type 1} → statement M
are_sums_spec =
    tie.close
    (tie.spec
    are_few_requires
    returns
    returns_2
    mul_if3
    returns_3
    returns_4
    returns_5
    returns_6
    come_to_requires
    returns_7
    returns_8
    returns_9)
