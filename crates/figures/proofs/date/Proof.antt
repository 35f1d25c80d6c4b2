-- A date is read as the definition says: the six characters at its place, where the field ends behind them.
use native.Mathlib.Omega.{arith}
use mathlib.Core.Bool.{false}
use mathlib.Core.Path.{◌≡◌, sym, ◌∙◌}
use borrow.Author.Rules.{rules}
use borrow.Author.Tests.{not-true, not-false}
use Rattle.fields.specs.Field.{ends_at}
use Rattle.figures.proofs.DateLaws.{date_empty, date_short, date_unended, date_other, date_good}
use Rattle.figures.proofs.date.Statement.{statement}
use Rattle.figures.proofs.date.Tie as tie

-- The field has not ended at its place.
goes_on_lem : (c : tie.Else-ends) → ends_at c.args.s.now c.args.at ≡ false
goes_on_lem c = sym c.ends.ensures ∙ c.if-ends.false

-- From behind the look at the six characters, back to where the field's end was seen.
abbrev fourth : tie.After-is_short_date → tie.After-shared_slice_known-4-1
fourth c = c.before.before.before.before

abbrev ended : tie.After-is_short_date → tie.Else-not-ends
ended c = (fourth c).before.before.before

ends_requires : tie.Need-ends-requires
ends_requires c κs = tt

returns : tie.Need-returns-then-ends
returns c = date_empty _ _ (sym c.ends.ensures ∙ c.if-ends.true)

returns_2 : tie.Need-returns-then-s-lt6
returns_2 c = date_short _ _ (goes_on_lem c.before) (omega arith)

sub_if3 : tie.Need-overflow_sub-s
sub_if3 c = search rules

returns_3 : tie.Need-returns-then-s-at
returns_3 c = date_short _ _ (goes_on_lem c.before.before) (omega arith)

add_ends : tie.Need-overflow_add-at
add_ends c = search rules

ends_requires_2 : tie.Need-ends-requires-2
ends_requires_2 c κs = tt

returns_4 : tie.Need-returns-then-not-ends
returns_4 c = date_unended _ _ (goes_on_lem c.before.before.before.before) (sym c.ends-2.ensures ∙ not-true _ c.if-not-ends.true-raw)

shared_slice_read_is_short_date : tie.Need-bounds-s-at
shared_slice_read_is_short_date c = search rules

add_is_short_date : tie.Need-overflow_add-at-2
add_is_short_date c = search rules

shared_slice_read_is_short_date_2 : tie.Need-bounds-s-at-2
shared_slice_read_is_short_date_2 c = search rules

add_is_short_date_2 : tie.Need-overflow_add-at-3
add_is_short_date_2 c = search rules

shared_slice_read_is_short_date_3 : tie.Need-bounds-s-at-3
shared_slice_read_is_short_date_3 c = search rules

add_is_short_date_3 : tie.Need-overflow_add-at-4
add_is_short_date_3 c = search rules

shared_slice_read_is_short_date_4 : tie.Need-bounds-s-at-4
shared_slice_read_is_short_date_4 c = search rules

add_is_short_date_4 : tie.Need-overflow_add-at-5
add_is_short_date_4 c = search rules

shared_slice_read_is_short_date_5 : tie.Need-bounds-s-at-5
shared_slice_read_is_short_date_5 c = search rules

add_is_short_date_5 : tie.Need-overflow_add-at-6
add_is_short_date_5 c = search rules

shared_slice_read_is_short_date_6 : tie.Need-bounds-s-at-6
shared_slice_read_is_short_date_6 c = search rules

is_short_date_requires : tie.Need-is_short_date-requires
is_short_date_requires c κs = tt

returns_5 : tie.Need-returns-then-not-is_short_date
returns_5 c =
    let e = ended c.before in
    date_other _ _ (goes_on_lem e.before.before.before.before) (omega (arith, e.before.before)) (sym c.is_short_date.ensures ∙ not-true _ c.if-not-is_short_date.true-raw)

add_t6 : tie.Need-overflow_add-result
add_t6 c = search rules

returns_6 : tie.Need-returns
returns_6 c =
    let e = ended c.before in
    date_good _ _ (omega (arith, e.before.before)) (sym e.ends-2.ensures ∙ not-false _ e.if-not-ends.false-raw)
    (sym c.is_short_date.ensures ∙ not-false _ c.if-not-is_short_date.false-raw)

pub date_spec : {M : Type 1} → statement M
date_spec =
    tie.close
    (tie.spec
    ends_requires
    returns
    returns_2
    sub_if3
    returns_3
    add_ends
    ends_requires_2
    returns_4
    shared_slice_read_is_short_date
    add_is_short_date
    shared_slice_read_is_short_date_2
    add_is_short_date_2
    shared_slice_read_is_short_date_3
    add_is_short_date_3
    shared_slice_read_is_short_date_4
    add_is_short_date_4
    shared_slice_read_is_short_date_5
    add_is_short_date_5
    shared_slice_read_is_short_date_6
    is_short_date_requires
    returns_5
    add_t6
    returns_6)
