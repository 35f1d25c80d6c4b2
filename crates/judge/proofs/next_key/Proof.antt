-- The search ends at the first index of the key: it stands somewhere ahead, and at no index that was passed.
use Prim.Native.Nat.{ℕ, ◌-◌, ◌≤◌, ◌<◌}
use native.Mathlib.Omega.{arith}
use mathlib.Core.Path.{◌≡◌}
use lib.ListN.{get_or, length}
use borrow.Author.Rules.{rules}
use Rattle.judge.specs.Parts.{Ahead}
use Rattle.judge.proofs.PartLaws.{ahead_more, none_more}
use Rattle.judge.proofs.next_key.Statement.{statement}
use Rattle.judge.proofs.next_key.Tie as tie

abbrev invariant-loop : tie.invariant-loop-k
invariant-loop keys from key k₀ k = (from ≤ k) × Ahead keys k key × ((j : ℕ) → from ≤ j → j < k → get_or keys j 0 ≡ key → ⊥)

abbrev decreases-loop : tie.decreases-loop-k
decreases-loop keys from key k₀ k = length keys - k

loop_holds : tie.Need-loop-k-init invariant-loop decreases-loop
loop_holds c = (omega arith, c.requires, λ j h l e. absurd (omega arith))

mul_if1 : tie.Need-offset_bounds-keys-k invariant-loop decreases-loop
mul_if1 c = search rules

shared_slice_read_if1 : tie.Need-bounds-keys-k invariant-loop decreases-loop
shared_slice_read_if1 c = omega (arith, c.loop-k.invariant.1.behind, c.loop-k.invariant.1.within)

add_k : tie.Need-overflow_add-k invariant-loop decreases-loop
add_k c = omega (arith, c.loop-k.invariant.1.behind, c.loop-k.invariant.1.within)

loop_less : tie.Need-loop-k-smaller invariant-loop decreases-loop
loop_less c = omega (arith, c.loop-k.invariant.1.behind, c.loop-k.invariant.1.within)

loop_again : tie.Need-loop-k-preserved invariant-loop decreases-loop
loop_again c =
    let a = c.args in
    let inv = c.loop-k.invariant in
    (omega arith, ahead_more a.keys.now a.key c.loop-k.k inv.1 c.loop-k-test.true, none_more a.keys.now a.key c.loop-k.k a.from inv.2 c.loop-k-test.true)

returns : tie.Need-returns invariant-loop decreases-loop
returns c =
    let inv = c.loop-k.invariant in
    record {
      behind = inv.0;
      within = omega (arith, inv.1.behind, inv.1.within);
      stands = c.loop-k-test.false;
      none = inv.2;
    }

pub next_key_spec : {M : Type 1} → statement M
next_key_spec =
    tie.close
    (tie.spec
    invariant-loop
    decreases-loop
    loop_holds
    mul_if1
    shared_slice_read_if1
    add_k
    loop_less
    loop_again
    returns)
