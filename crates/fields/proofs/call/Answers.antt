-- A call is read as the definition says: the run of its characters is the field, and is as long as a call may be.
use mathlib.Core.Bool.{Bool}
use mathlib.Core.Path.{refl, ap, ◌∙◌}
use borrow.Author.Tests.{ne_eqb}
use Rattle.std.specs.Prelude.{Some}
use Rattle.rules.specs.Fields.{call_character}
use Rattle.fields.proofs.RunLaws.{run, no_run, call_kind, call_short_lem, call_long, call_other, call_five, five_within}
use Rattle.fields.proofs.call.Goals.{then-not-ends-via-then-not-ends, then-not-ends-via-else-not-ends+then-count-lt3, then-not-ends-via-else-not-ends+else-count-lt3+then-count-gt14}
use Rattle.fields.proofs.call.Goals as goal

pub returns-then-not-ends : goal.returns-then-not-ends
returns-then-not-ends c =
    elim c.then-not-ends.branch [
      | then-not-ends-via-then-not-ends w ↦
          call_kind _ _ (no_run call_character refl _ _ _ c.run-end.ensures c.ends.ensures (rw w.if-not-ends.true))
      | then-not-ends-via-else-not-ends+then-count-lt3 w ↦
          call_short_lem (run call_character refl _ _ _ c.run-end.ensures c.ends.ensures (rw w.if-not-ends.false)) w.if-count-lt3.true
      | then-not-ends-via-else-not-ends+else-count-lt3+then-count-gt14 w ↦
          call_long (run call_character refl _ _ _ c.run-end.ensures c.ends.ensures (rw w.if-not-ends.false)) w.if-count-gt14.true
    ]

pub is_error-error-requires : goal.is_error-error-requires
is_error-error-requires c =
    five_within (run call_character refl _ _ _ c.run-end.ensures c.ends.ensures (rw c.if-not-ends.false)) c.if-count-eq5.true

pub returns-then-count-eq5 : goal.returns-then-count-eq5
returns-then-count-eq5 c =
    call_five (run call_character refl _ _ _ c.run-end.ensures c.ends.ensures (rw c.if-not-ends.false)) c.if-count-eq5.true
    c.is_error-error.ensures

pub returns-else-count-eq5 : goal.returns-else-count-eq5
returns-else-count-eq5 c =
    ap (λ (b : Bool). Some (record { end = c.run-end.result; error = b })) (ne_eqb _ _ c.if-count-eq5.false)
    ∙ call_other (run call_character refl _ _ _ c.run-end.ensures c.ends.ensures (rw c.if-not-ends.false)) c.if-count-lt3.false
    c.if-count-gt14.false c.if-count-eq5.false
