-- `writer::put_number` meets its contract. The loop's invariant: the digits of the rest, laid over the slice as it is now, give what the digits of
-- the number give over the slice as it was. The measure is the rest.
-- Assumes nothing.
use Prim.Native.Nat.{◌+◌, ◌/◌, ◌≤◌}
use native.Mathlib.Omega.{arith}
use mathlib.Core.Path.{◌≡◌, refl, ◌∙◌}
use lib.ListN.{length, length-set}
use borrow.Author.Rules.{rules}
use Rattle.rules.specs.Text.{digits}
use Rattle.writer.specs.Written.{written}
use Rattle.writer.proofs.WrittenLaws.{count_more, count_some, digit_turn, digit_first}
use Rattle.writer.proofs.put_number.Statement.{statement}
use Rattle.writer.proofs.put_number.Tie as tie

abbrev invariant-loop : tie.invariant-loop-rest
invariant-loop out₀ at n end rest₀ i₀ out rest i =
    (i + 1 ≡ at + length (digits rest)) × (length out ≡ length out₀) × (at + length (digits rest) ≤ length out₀)
    × (written out at (digits rest) ≡ written out₀ at (digits n))

abbrev decreases-loop : tie.decreases-loop-rest
decreases-loop out₀ at n end rest₀ i₀ out rest i = rest

digit_count_requires : tie.Need-digit_count-requires invariant-loop decreases-loop
digit_count_requires c κs = search rules

add_end : tie.Need-overflow_add-end invariant-loop decreases-loop
add_end c = search rules

sub_i : tie.Need-overflow_sub-i invariant-loop decreases-loop
sub_i c = omega (arith, count_some c.args.n)

loop_holds : tie.Need-loop-rest-init invariant-loop decreases-loop
loop_holds c = (omega (arith, count_some c.args.n), refl, c.requires, refl)

cast_out : tie.Need-overflow_cast-out invariant-loop decreases-loop
cast_out c = search rules

add_out : tie.Need-overflow_add-out invariant-loop decreases-loop
add_out c = search rules

slice_write_out : tie.Need-bounds-out-i invariant-loop decreases-loop
slice_write_out c = search rules

sub_i_2 : tie.Need-overflow_sub-i-in-loop-rest invariant-loop decreases-loop
sub_i_2 c =
    omega (arith, count_more c.loop-rest.rest c.loop-rest-test.true, count_some (c.loop-rest.rest / 10))

loop_less : tie.Need-loop-rest-smaller invariant-loop decreases-loop
loop_less c = search rules

loop_again : tie.Need-loop-rest-preserved invariant-loop decreases-loop
loop_again c =
    let rest = c.loop-rest.rest in
    let inv = c.loop-rest.invariant in
    let more : length (digits rest) ≡ length (digits (rest / 10)) + 1 = count_more rest c.loop-rest-test.true in
    let some : 1 ≤ length (digits (rest / 10)) = count_some (rest / 10) in (
      omega arith,
      simp length-set (omega arith),
      omega arith,
      digit_turn c.loop-rest.out _ c.loop-rest.i rest inv.0 (omega arith) c.loop-rest-test.true ∙ inv.3,
    )

cast_out_2 : tie.Need-overflow_cast-out-2 invariant-loop decreases-loop
cast_out_2 c = search rules

add_out_2 : tie.Need-overflow_add-out-2 invariant-loop decreases-loop
add_out_2 c = search rules

slice_write_out_2 : tie.Need-bounds-out-i-2 invariant-loop decreases-loop
slice_write_out_2 c = search rules

same_length : tie.Need-shape_of-out invariant-loop decreases-loop
same_length c = search rules

returns : tie.Need-returns invariant-loop decreases-loop
returns c =
    let inv = c.loop-rest.invariant in
    record {
      fits = search rules;
      list = digit_first c.loop-rest.out _ c.loop-rest.i c.loop-rest.rest inv.0 (omega arith) (omega arith) ∙ inv.3;
      place = search rules;
    }

pub put_number_spec : {M : Type 1} → statement M
put_number_spec =
    tie.close
    (tie.spec
    invariant-loop
    decreases-loop
    digit_count_requires
    add_end
    sub_i
    loop_holds
    cast_out
    add_out
    slice_write_out
    sub_i_2
    loop_less
    loop_again
    cast_out_2
    add_out_2
    slice_write_out_2
    same_length
    returns)
