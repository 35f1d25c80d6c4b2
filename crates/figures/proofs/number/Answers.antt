-- A number is read as the definition says: digits up to the field's end, not too many, and no zero in front of others.
use native.Mathlib.Omega.{arith}
use mathlib.Core.Path.{sym, ◌∙◌}
use Rattle.figures.proofs.NumberLaws.{reads_no_end, reads_none, reads_plain, reads_zeros, reads_zero, starts_within, end_here}
use Rattle.figures.proofs.number.Goals.{then-not-ends-via-then-not-ends, then-not-ends-via-else-not-ends+then-end-at, else-s-at-eq48-via-then-s-at-eq48+else-end-at-ne1, else-s-at-eq48-via-else-s-at-eq48}
use Rattle.figures.proofs.number.Goals as goal

pub returns-then-not-ends : goal.returns-then-not-ends
returns-then-not-ends c =
    elim c.then-not-ends.branch [
      | then-not-ends-via-then-not-ends w ↦
          reads_no_end _ _ _ _ c.read_digits-value.ensures (rw (sym c.ends.ensures ∙ w.if-not-ends.true))
      | then-not-ends-via-else-not-ends+then-end-at w ↦
          reads_none _ _ _ _ c.read_digits-value.ensures (sym c.ends.ensures ∙ w.if-not-ends.false) w.if-end-at.true
    ]

pub bounds-s-at : goal.bounds-s-at
bounds-s-at c = starts_within _ _ _ _ c.read_digits-value.ensures (sym c.ends.ensures ∙ c.if-not-ends.false) c.if-end-at.false

pub overflow_sub-end : goal.overflow_sub-end
overflow_sub-end c = omega (arith, end_here _ _ _ _ c.read_digits-value.ensures (sym c.ends.ensures ∙ c.if-not-ends.false))

pub returns-then-end-at-ne1 : goal.returns-then-end-at-ne1
returns-then-end-at-ne1 c =
    reads_zeros _ _ _ _ c.read_digits-value.ensures (sym c.ends.ensures ∙ c.if-not-ends.false) c.if-end-at.false c.if-s-at-eq48.true
    c.if-end-at-ne1.true

pub returns : goal.returns
returns c =
    elim c.else-s-at-eq48.branch [
      | else-s-at-eq48-via-then-s-at-eq48+else-end-at-ne1 w ↦
          reads_zero _ _ _ _ c.read_digits-value.ensures (sym c.ends.ensures ∙ c.if-not-ends.false) c.if-end-at.false w.if-s-at-eq48.true
          w.if-end-at-ne1.false
      | else-s-at-eq48-via-else-s-at-eq48 w ↦
          reads_plain _ _ _ _ c.read_digits-value.ensures (sym c.ends.ensures ∙ c.if-not-ends.false) c.if-end-at.false w.if-s-at-eq48.false
    ]
