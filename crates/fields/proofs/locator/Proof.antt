-- A locator is read as the definition says: two letters, two digits, and two letters more or the field's end.
use Prim.Native.Nat.{ℕ, ◌+◌}
use native.Mathlib.Omega.{arith}
use mathlib.Core.Path.{refl}
use Rattle.rules.specs.Fields.{locator, square_letter, sub_letter}
use Rattle.rules.specs.Text.{digit}
use Rattle.fields.proofs.ShapeLaws.{Shape, Goes, goes, ended, one, too_long_lem, whole, may_end, may_go_on, step, stop, locator_2, locator_4, locator_is_lem, end_none, end_some}
use Rattle.fields.proofs.locator.Statement.{statement}
use Rattle.fields.proofs.locator.Tie as tie

-- The function's start, from each of its places.
abbrev start1 : tie.Else-not-is_square_letter → tie.Start
start1 c = c.before.before.before.before

abbrev start2 : tie.Else-not-is_square_letter-2 → tie.Start
start2 c = start1 c.before.before.before

abbrev start3 : tie.Else-not-is_digit → tie.Start
start3 c = start2 c.before.before.before

abbrev start4 : tie.Else-not-is_digit-2 → tie.Start
start4 c = start3 c.before.before.before

abbrev start5 : tie.Else-fifth-eq59 → tie.Start
start5 c = start4 c.before.before

abbrev start6 : tie.Else-not-is_sub_letter → tie.Start
start6 c = start5 c.before.before

abbrev start7 : tie.Else-not-is_sub_letter-2 → tie.Start
start7 c = start6 c.before.before.before

-- What is left to see behind so many characters of the field.
abbrev Behind : tie.Start → Shape → ℕ → Type 0
Behind c p n = Goes locator p c.args.s.now c.args.at (c.args.at + n)

byte_at_requires : tie.Need-byte_at-requires
byte_at_requires c κs = tt

is_square_letter_requires : tie.Need-is_square_letter-requires
is_square_letter_requires c κs = tt

returns : tie.Need-returns-then-not-is_square_letter
returns c = end_none _ _ _ (stop square_letter refl (goes _ _ locator_is_lem) c.before.before.byte_at.ensures c.before.is_square_letter.ensures c.if-not-is_square_letter.true-raw)

behind1 : (c : tie.Else-not-is_square_letter) → Behind (start1 c) (one square_letter locator_2) 1
behind1 c = step square_letter refl (goes _ _ locator_is_lem) c.before.before.byte_at.ensures c.before.is_square_letter.ensures _ refl c.if-not-is_square_letter.false-raw

add_byte_at : tie.Need-overflow_add-at
add_byte_at c = omega (arith, (behind1 c).within (omega arith))

byte_at_requires_2 : tie.Need-byte_at-requires-2
byte_at_requires_2 c κs = tt

is_square_letter_requires_2 : tie.Need-is_square_letter-requires-2
is_square_letter_requires_2 c κs = tt

returns_2 : tie.Need-returns-then-not-is_square_letter-2
returns_2 c = end_none _ _ _ (stop square_letter refl (behind1 c.before.before.before) c.before.before.byte_at-2.ensures c.before.is_square_letter-2.ensures c.if-not-is_square_letter-2.true-raw)

behind2 : (c : tie.Else-not-is_square_letter-2) → Behind (start2 c) locator_2 2
behind2 c = step square_letter refl (behind1 c.before.before.before) c.before.before.byte_at-2.ensures c.before.is_square_letter-2.ensures _ (omega arith) c.if-not-is_square_letter-2.false-raw

add_byte_at_2 : tie.Need-overflow_add-at-2
add_byte_at_2 c = omega (arith, (behind2 c).within (omega arith))

byte_at_requires_3 : tie.Need-byte_at-requires-3
byte_at_requires_3 c κs = tt

is_digit_requires : tie.Need-is_digit-requires
is_digit_requires c κs = tt

returns_3 : tie.Need-returns-then-not-is_digit
returns_3 c = end_none _ _ _ (stop digit refl (behind2 c.before.before.before) c.before.before.byte_at-3.ensures c.before.is_digit.ensures c.if-not-is_digit.true-raw)

behind3 : (c : tie.Else-not-is_digit) → Behind (start3 c) (one digit locator_4) 3
behind3 c = step digit refl (behind2 c.before.before.before) c.before.before.byte_at-3.ensures c.before.is_digit.ensures _ (omega arith) c.if-not-is_digit.false-raw

add_byte_at_3 : tie.Need-overflow_add-at-3
add_byte_at_3 c = omega (arith, (behind3 c).within (omega arith))

byte_at_requires_4 : tie.Need-byte_at-requires-4
byte_at_requires_4 c κs = tt

is_digit_requires_2 : tie.Need-is_digit-requires-2
is_digit_requires_2 c κs = tt

returns_4 : tie.Need-returns-then-not-is_digit-2
returns_4 c = end_none _ _ _ (stop digit refl (behind3 c.before.before.before) c.before.before.byte_at-4.ensures c.before.is_digit-2.ensures c.if-not-is_digit-2.true-raw)

behind4 : (c : tie.Else-not-is_digit-2) → Behind (start4 c) locator_4 4
behind4 c = step digit refl (behind3 c.before.before.before) c.before.before.byte_at-4.ensures c.before.is_digit-2.ensures _ (omega arith) c.if-not-is_digit-2.false-raw

add_four : tie.Need-overflow_add-four
add_four c = omega (arith, (behind4 c).within (omega arith))

byte_at_requires_5 : tie.Need-byte_at-fifth-requires
byte_at_requires_5 c κs = tt

returns_5 : tie.Need-returns-then-fifth-eq59
returns_5 c = end_some _ _ _ (may_end c.before.byte_at-fifth.ensures (behind4 c.before.before) c.if-fifth-eq59.true)

past4 : (c : tie.Else-fifth-eq59) → Behind (start5 c) (one sub_letter (one sub_letter ended)) 4
past4 c = may_go_on c.before.byte_at-fifth.ensures (behind4 c.before.before) c.if-fifth-eq59.false

is_sub_letter_requires : tie.Need-is_sub_letter-requires
is_sub_letter_requires c κs = tt

returns_6 : tie.Need-returns-then-not-is_sub_letter
returns_6 c = end_none _ _ _ (stop sub_letter refl (past4 c.before.before) c.before.before.before.byte_at-fifth.ensures c.before.is_sub_letter.ensures c.if-not-is_sub_letter.true-raw)

behind5 : (c : tie.Else-not-is_sub_letter) → Behind (start6 c) (one sub_letter ended) 5
behind5 c = step sub_letter refl (past4 c.before.before) c.before.before.before.byte_at-fifth.ensures c.before.is_sub_letter.ensures _ (omega arith) c.if-not-is_sub_letter.false-raw

add_byte_at_4 : tie.Need-overflow_add-at-4
add_byte_at_4 c = omega (arith, (behind5 c).within (omega arith))

byte_at_requires_6 : tie.Need-byte_at-requires-5
byte_at_requires_6 c κs = tt

is_sub_letter_requires_2 : tie.Need-is_sub_letter-requires-2
is_sub_letter_requires_2 c κs = tt

returns_7 : tie.Need-returns-then-not-is_sub_letter-2
returns_7 c = end_none _ _ _ (stop sub_letter refl (behind5 c.before.before.before) c.before.before.byte_at-5.ensures c.before.is_sub_letter-2.ensures c.if-not-is_sub_letter-2.true-raw)

behind6 : (c : tie.Else-not-is_sub_letter-2) → Behind (start7 c) ended 6
behind6 c = step sub_letter refl (behind5 c.before.before.before) c.before.before.byte_at-5.ensures c.before.is_sub_letter-2.ensures _ (omega arith) c.if-not-is_sub_letter-2.false-raw

add_six : tie.Need-overflow_add-six
add_six c = omega (arith, (behind6 c).within (omega arith))

ends_requires : tie.Need-ends-requires
ends_requires c κs = tt

returns_8 : tie.Need-returns-then-not-ends
returns_8 c = end_none _ _ _ (too_long_lem c.before.ends.ensures (behind6 c.before.before) c.if-not-ends.true-raw)

returns_9 : tie.Need-returns
returns_9 c = end_some _ _ _ (whole c.before.ends.ensures (behind6 c.before.before) c.if-not-ends.false-raw)

pub locator_spec : {M : Type 1} → statement M
locator_spec =
    tie.close
    (tie.spec
    byte_at_requires
    is_square_letter_requires
    returns
    add_byte_at
    byte_at_requires_2
    is_square_letter_requires_2
    returns_2
    add_byte_at_2
    byte_at_requires_3
    is_digit_requires
    returns_3
    add_byte_at_3
    byte_at_requires_4
    is_digit_requires_2
    returns_4
    add_four
    byte_at_requires_5
    returns_5
    is_sub_letter_requires
    returns_6
    add_byte_at_4
    byte_at_requires_6
    is_sub_letter_requires_2
    returns_7
    add_six
    ends_requires
    returns_8
    returns_9)
