-- A mode is read as the definition says: a digit, or nothing.
use Prim.Native.Nat.{ℕ, ◌+◌}
use native.Mathlib.Omega.{arith}
use mathlib.Core.Path.{refl}
use Rattle.rules.specs.Fields.{mode}
use Rattle.rules.specs.Text.{digit}
use Rattle.fields.proofs.ShapeLaws.{Shape, Goes, goes, ended, one, too_long_lem, whole, may_end, may_go_on, step, stop, mode_is_lem, end_none, end_some}
use Rattle.fields.proofs.mode.Statement.{statement}
use Rattle.fields.proofs.mode.Tie as tie

-- What is left to see behind so many characters of the field.
abbrev Behind : tie.Start → Shape → ℕ → Type 0
Behind c p n = Goes mode p c.args.s.now c.args.at (c.args.at + n)

byte_at_requires : tie.Need-byte_at-first-requires
byte_at_requires c κs = tt

returns : tie.Need-returns-then-first-eq59
returns c = end_some _ _ _ (may_end c.before.byte_at-first.ensures (goes _ _ mode_is_lem) c.if-first-eq59.true)

past0 : (c : tie.Else-first-eq59) → Goes mode (one digit ended) c.before.before.before.args.s.now c.before.before.before.args.at c.before.before.before.args.at
past0 c = may_go_on c.before.byte_at-first.ensures (goes _ _ mode_is_lem) c.if-first-eq59.false

is_digit_requires : tie.Need-is_digit-requires
is_digit_requires c κs = tt

returns_2 : tie.Need-returns-then-not-is_digit
returns_2 c = end_none _ _ _ (stop digit refl (past0 c.before.before) c.before.before.before.byte_at-first.ensures c.before.is_digit.ensures c.if-not-is_digit.true-raw)

behind1 : (c : tie.Else-not-is_digit) → Behind c.before.before.before.before.before ended 1
behind1 c = step digit refl (past0 c.before.before) c.before.before.before.byte_at-first.ensures c.before.is_digit.ensures _ refl c.if-not-is_digit.false-raw

add_end : tie.Need-overflow_add-end
add_end c = omega (arith, (behind1 c).within (omega arith))

ends_requires : tie.Need-ends-requires
ends_requires c κs = tt

returns_3 : tie.Need-returns-then-not-ends
returns_3 c = end_none _ _ _ (too_long_lem c.before.ends.ensures (behind1 c.before.before) c.if-not-ends.true-raw)

returns_4 : tie.Need-returns
returns_4 c = end_some _ _ _ (whole c.before.ends.ensures (behind1 c.before.before) c.if-not-ends.false-raw)

pub mode_spec : {M : Type 1} → statement M
mode_spec =
    tie.close
    (tie.spec
    byte_at_requires
    returns
    is_digit_requires
    returns_2
    add_end
    ends_requires
    returns_3
    returns_4)
