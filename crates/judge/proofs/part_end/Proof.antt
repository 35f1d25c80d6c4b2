-- The field ends at the first semicolon from its place on.
use Prim.Native.Nat.{◌-◌}
use native.Mathlib.Omega.{arith}
use mathlib.Core.Bool.{Bool, not}
use mathlib.Core.Path.{refl, sym, ap, ◌∙◌}
use lib.ListN.{length}
use borrow.Author.Tests.{eq-eqb, ne_eqb}
use Rattle.fields.specs.Field.{in_field}
use Rattle.fields.proofs.FieldLaws.{Within, run_starts, run_more, run_stops}
use Rattle.fields.proofs.PartLaws.{end_by_span}
use Rattle.judge.proofs.PartLaws.{run_inside}
use Rattle.judge.proofs.part_end.Statement.{statement}
use Rattle.judge.proofs.part_end.Tie as tie

abbrev invariant-loop : tie.invariant-loop-i
invariant-loop s at i₀ i = Within in_field s at i

abbrev decreases-loop : tie.decreases-loop-i
decreases-loop s at i₀ i = length s - i

loop_holds : tie.Need-loop-i-init invariant-loop decreases-loop
loop_holds c = run_starts in_field _ _

shared_slice_read_if1 : tie.Need-bounds-s-i invariant-loop decreases-loop
shared_slice_read_if1 c =
    let start = c in run_inside start.args.s.now start.args.at c.loop-i.i start.requires c.loop-i.invariant

add_i : tie.Need-overflow_add-i invariant-loop decreases-loop
add_i c =
    let start = c in
    omega (arith, run_inside start.args.s.now start.args.at c.loop-i.i start.requires c.loop-i.invariant)

loop_less : tie.Need-loop-i-smaller invariant-loop decreases-loop
loop_less c =
    let start = c in
    omega (arith, run_inside start.args.s.now start.args.at c.loop-i.i start.requires c.loop-i.invariant)

loop_again : tie.Need-loop-i-preserved invariant-loop decreases-loop
loop_again c =
    let start = c in
    let inside = run_inside start.args.s.now start.args.at c.loop-i.i start.requires c.loop-i.invariant in
    run_more c.loop-i.invariant inside refl (ap (λ (b : Bool). not (not b)) (ne_eqb _ _ c.loop-i-test.true))

returns : tie.Need-returns invariant-loop decreases-loop
returns c =
    let start = c in
    let inside = run_inside start.args.s.now start.args.at c.loop-i.i start.requires c.loop-i.invariant in
    run_stops c.loop-i.invariant inside refl (ap (λ (b : Bool). not (not b)) (eq-eqb _ _ c.loop-i-test.false))
    ∙ sym (end_by_span start.args.s.now start.args.at)

pub part_end_spec : {M : Type 1} → statement M
part_end_spec =
    tie.close
    (tie.spec invariant-loop decreases-loop loop_holds shared_slice_read_if1 add_i loop_less loop_again returns)
