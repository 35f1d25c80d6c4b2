-- A mark is read as the definition says: the letter, or nothing.
use Prim.Native.Nat.{◌+◌}
use native.Mathlib.Omega.{arith}
use mathlib.Core.List.{[], ◌∷◌}
use Rattle.rules.specs.Fields.{empty_or}
use Rattle.rules.specs.Text.{same}
use Rattle.fields.proofs.ShapeLaws.{Goes, ended, too_long_lem, whole, mark_none, mark_other, mark_here, mark_bad, mark_set}
use Rattle.fields.proofs.mark.Statement.{statement}
use Rattle.fields.proofs.mark.Tie as tie

byte_at_requires : tie.Need-byte_at-first-requires
byte_at_requires c κs = tt

returns : tie.Need-returns-then-first-eq59
returns c = mark_none _ _ _ c.before.byte_at-first.ensures c.if-first-eq59.true

returns_2 : tie.Need-returns-then-first-letter
returns_2 c = mark_other _ _ _ c.before.before.byte_at-first.ensures c.before.if-first-eq59.false c.if-first-letter.true

here : (c : tie.Else-first-letter) → Goes (empty_or (same (c.before.before.before.before.args.letter ∷ []))) ended c.before.before.before.before.args.s.now c.before.before.before.before.args.at (c.before.before.before.before.args.at + 1)
here c = mark_here _ _ _ c.before.before.byte_at-first.ensures c.before.if-first-eq59.false c.if-first-letter.false

add_end : tie.Need-overflow_add-end
add_end c = omega (arith, (here c).within (omega arith))

ends_requires : tie.Need-ends-requires
ends_requires c κs = tt

returns_3 : tie.Need-returns-then-not-ends
returns_3 c = mark_bad _ _ _ (too_long_lem c.before.ends.ensures (here c.before.before) c.if-not-ends.true-raw)

returns_4 : tie.Need-returns
returns_4 c = mark_set _ _ _ c.before.before.before.before.byte_at-first.ensures c.before.before.before.if-first-eq59.false _ (whole c.before.ends.ensures (here c.before.before) c.if-not-ends.false-raw)

pub mark_spec : {M : Type 1} → statement M
mark_spec =
    tie.close
    (tie.spec byte_at_requires returns returns_2 add_end ends_requires returns_3 returns_4)
