-- A report is read as the definition says: two digits, and a digit, a capital letter or the field's end.
use Prim.Native.Nat.{ℕ, ◌+◌}
use native.Mathlib.Omega.{arith}
use mathlib.Core.Path.{refl}
use Rattle.rules.specs.Fields.{report}
use Rattle.rules.specs.Text.{digit}
use Rattle.fields.proofs.ShapeLaws.{Shape, Goes, goes, ended, one, too_long_lem, whole, may_end, may_go_on, step, stop, digit_or_capital, report_2, report_is, end_none, end_some}
use Rattle.fields.proofs.report.Statement.{statement}
use Rattle.fields.proofs.report.Tie as tie

-- The function's start, from each of its places.
abbrev start1 : tie.Else-first-eq59 → tie.Start
start1 c = c.before.before.before

abbrev start2 : tie.Else-not-is_digit → tie.Start
start2 c = start1 c.before.before

abbrev start3 : tie.Else-not-is_digit-2 → tie.Start
start3 c = start2 c.before.before.before

abbrev start4 : tie.Else-third-eq59 → tie.Start
start4 c = start3 c.before.before

abbrev start5 : tie.Else-not-is_report_character → tie.Start
start5 c = start4 c.before.before

-- What is left to see behind so many characters of the field.
abbrev Behind : tie.Start → Shape → ℕ → Type 0
Behind c p n = Goes report p c.args.s.now c.args.at (c.args.at + n)

byte_at_requires : tie.Need-byte_at-first-requires
byte_at_requires c κs = tt

returns : tie.Need-returns-then-first-eq59
returns c = end_some _ _ _ (may_end c.before.byte_at-first.ensures (goes _ _ report_is) c.if-first-eq59.true)

past0 : (c : tie.Else-first-eq59) → Goes report (one digit (one digit report_2)) (start1 c).args.s.now (start1 c).args.at (start1 c).args.at
past0 c = may_go_on c.before.byte_at-first.ensures (goes _ _ report_is) c.if-first-eq59.false

is_digit_requires : tie.Need-is_digit-requires
is_digit_requires c κs = tt

returns_2 : tie.Need-returns-then-not-is_digit
returns_2 c = end_none _ _ _ (stop digit refl (past0 c.before.before) c.before.before.before.byte_at-first.ensures c.before.is_digit.ensures c.if-not-is_digit.true-raw)

behind1 : (c : tie.Else-not-is_digit) → Behind (start2 c) (one digit report_2) 1
behind1 c = step digit refl (past0 c.before.before) c.before.before.before.byte_at-first.ensures c.before.is_digit.ensures _ refl c.if-not-is_digit.false-raw

add_byte_at : tie.Need-overflow_add-at
add_byte_at c = omega (arith, (behind1 c).within (omega arith))

byte_at_requires_2 : tie.Need-byte_at-requires
byte_at_requires_2 c κs = tt

is_digit_requires_2 : tie.Need-is_digit-requires-2
is_digit_requires_2 c κs = tt

returns_3 : tie.Need-returns-then-not-is_digit-2
returns_3 c = end_none _ _ _ (stop digit refl (behind1 c.before.before.before) c.before.before.byte_at.ensures c.before.is_digit-2.ensures c.if-not-is_digit-2.true-raw)

behind2 : (c : tie.Else-not-is_digit-2) → Behind (start3 c) report_2 2
behind2 c = step digit refl (behind1 c.before.before.before) c.before.before.byte_at.ensures c.before.is_digit-2.ensures _ (omega arith) c.if-not-is_digit-2.false-raw

add_two : tie.Need-overflow_add-two
add_two c = omega (arith, (behind2 c).within (omega arith))

byte_at_requires_3 : tie.Need-byte_at-third-requires
byte_at_requires_3 c κs = tt

returns_4 : tie.Need-returns-then-third-eq59
returns_4 c = end_some _ _ _ (may_end c.before.byte_at-third.ensures (behind2 c.before.before) c.if-third-eq59.true)

past2 : (c : tie.Else-third-eq59) → Behind (start4 c) (one digit_or_capital ended) 2
past2 c = may_go_on c.before.byte_at-third.ensures (behind2 c.before.before) c.if-third-eq59.false

is_report_character_requires : tie.Need-is_report_character-requires
is_report_character_requires c κs = tt

returns_5 : tie.Need-returns-then-not-is_report_character
returns_5 c = end_none _ _ _ (stop digit_or_capital refl (past2 c.before.before) c.before.before.before.byte_at-third.ensures c.before.is_report_character.ensures c.if-not-is_report_character.true-raw)

behind3 : (c : tie.Else-not-is_report_character) → Behind (start5 c) ended 3
behind3 c = step digit_or_capital refl (past2 c.before.before) c.before.before.before.byte_at-third.ensures c.before.is_report_character.ensures _ (omega arith) c.if-not-is_report_character.false-raw

add_three : tie.Need-overflow_add-three
add_three c = omega (arith, (behind3 c).within (omega arith))

ends_requires : tie.Need-ends-requires
ends_requires c κs = tt

returns_6 : tie.Need-returns-then-not-ends
returns_6 c = end_none _ _ _ (too_long_lem c.before.ends.ensures (behind3 c.before.before) c.if-not-ends.true-raw)

returns_7 : tie.Need-returns
returns_7 c = end_some _ _ _ (whole c.before.ends.ensures (behind3 c.before.before) c.if-not-ends.false-raw)

pub report_spec : {M : Type 1} → statement M
report_spec =
    tie.close
    (tie.spec
    byte_at_requires
    returns
    is_digit_requires
    returns_2
    add_byte_at
    byte_at_requires_2
    is_digit_requires_2
    returns_3
    add_two
    byte_at_requires_3
    returns_4
    is_report_character_requires
    returns_5
    add_three
    ends_requires
    returns_6
    returns_7)
