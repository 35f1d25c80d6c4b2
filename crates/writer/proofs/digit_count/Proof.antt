-- `writer::digit_count` meets its contract. The loop's invariant: what is counted and the digits of the rest are together one more than the
-- number's digits, of which there are at most twenty. The measure is the rest.
-- Assumes nothing.
use Prim.Native.Nat.{◌+◌, ◌≤◌}
use native.Mathlib.Omega.{arith}
use mathlib.Core.Path.{◌≡◌, refl}
use lib.ListN.{length}
use borrow.Author.Rules.{rules}
use Rattle.rules.specs.Text.{digits}
use Rattle.writer.proofs.WrittenLaws.{count_one, count_more, count_most}
use Rattle.writer.proofs.digit_count.Statement.{statement}
use Rattle.writer.proofs.digit_count.Tie as tie

abbrev invariant-loop : tie.invariant-loop-rest
invariant-loop n rest₀ count₀ rest count = (count + length (digits rest) ≡ 1 + length (digits n)) × (length (digits n) ≤ 20)

abbrev decreases-loop : tie.decreases-loop-rest
decreases-loop n rest₀ count₀ rest count = rest

loop_holds : tie.Need-loop-rest-init invariant-loop decreases-loop
loop_holds c = (refl, count_most _ c.ranges.n.fits)

add_count : tie.Need-overflow_add-count invariant-loop decreases-loop
add_count c = search rules

loop_less : tie.Need-loop-rest-smaller invariant-loop decreases-loop
loop_less c = search rules

loop_again : tie.Need-loop-rest-preserved invariant-loop decreases-loop
loop_again c = omega (arith, count_more c.loop-rest.rest c.loop-rest-test.true)

returns : tie.Need-returns invariant-loop decreases-loop
returns c =
    let counted : c.loop-rest.count ≡ length (digits c.args.n) = omega (arith, count_one c.loop-rest.rest (omega arith)) in
    (counted, omega arith)

pub digit_count_spec : {M : Type 1} → statement M
digit_count_spec =
    tie.close (tie.spec invariant-loop decreases-loop loop_holds add_count loop_less loop_again returns)
