-- A time is read as the definition says: the four characters at its place, where the field ends behind them.
use native.Mathlib.Omega.{arith}
use mathlib.Core.Path.{sym, ◌∙◌}
use borrow.Author.Rules.{rules}
use borrow.Author.Tests.{not-true, not-false}
use Rattle.figures.proofs.TimeLaws.{time_short, time_unended, time_none, time_some}
use Rattle.figures.proofs.time.Statement.{statement}
use Rattle.figures.proofs.time.Tie as tie

-- From behind the look at the four characters, back to where the field's end was seen.
abbrev ended : tie.After-from_digits → tie.Else-not-ends
ended c = c.before.before.before.before.before

returns : tie.Need-returns-then-s-lt4
returns c = time_short _ _ (omega arith)

sub_if2 : tie.Need-overflow_sub-s
sub_if2 c = search rules

returns_2 : tie.Need-returns-then-s-at
returns_2 c = time_short _ _ (omega arith)

add_ends : tie.Need-overflow_add-at
add_ends c = search rules

ends_requires : tie.Need-ends-requires
ends_requires c κs = tt

returns_3 : tie.Need-returns-then-not-ends
returns_3 c = time_unended _ _ (sym c.ends.ensures ∙ not-true _ c.if-not-ends.true-raw)

shared_slice_read_from_digits : tie.Need-bounds-s-at
shared_slice_read_from_digits c = search rules

add_from_digits : tie.Need-overflow_add-at-2
add_from_digits c = search rules

shared_slice_read_from_digits_2 : tie.Need-bounds-s-at-2
shared_slice_read_from_digits_2 c = search rules

add_from_digits_2 : tie.Need-overflow_add-at-3
add_from_digits_2 c = search rules

shared_slice_read_from_digits_3 : tie.Need-bounds-s-at-3
shared_slice_read_from_digits_3 c = search rules

add_from_digits_3 : tie.Need-overflow_add-at-4
add_from_digits_3 c = search rules

shared_slice_read_from_digits_4 : tie.Need-bounds-s-at-4
shared_slice_read_from_digits_4 c = search rules

from_digits_requires : tie.Need-from_digits-requires
from_digits_requires c κs = tt

enum_known_t : tie.Need-enum_known-t
enum_known_t c = search rules

enum_told : tie.Need-enum_told-1
enum_told c = search rules

returns_4 : tie.Need-returns-in_default
returns_4 c = time_none _ _ (omega arith) (sym c.from_digits.ensures ∙ c.in_default.is)

add_t6 : tie.Need-overflow_add-result
add_t6 c = search rules

returns_5 : tie.Need-returns
returns_5 c =
    let e = ended c.before in
    time_some _ _ (omega arith) (sym e.ends.ensures ∙ not-false _ e.if-not-ends.false-raw)
    (sym c.from_digits.ensures ∙ c.in-Some.is)

pub time_spec : {M : Type 1} → statement M
time_spec =
    tie.close
    (tie.spec
    returns
    sub_if2
    returns_2
    add_ends
    ends_requires
    returns_3
    shared_slice_read_from_digits
    add_from_digits
    shared_slice_read_from_digits_2
    add_from_digits_2
    shared_slice_read_from_digits_3
    add_from_digits_3
    shared_slice_read_from_digits_4
    from_digits_requires
    enum_known_t
    enum_told
    returns_4
    add_t6
    returns_5)
