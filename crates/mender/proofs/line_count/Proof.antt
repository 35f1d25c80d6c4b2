-- The lines so far and those that are left are all lines.
-- Assumes nothing.
use borrow.Author.Rules.{rules}
use Prim.Native.Nat.{◌+◌, ◌-◌, ◌≤◌}
use native.Mathlib.Omega.{arith}
use mathlib.Core.Path.{◌≡◌, ap}
use lib.ListN.{length}
use Rattle.mender.specs.Lines.{lines_at}
use Rattle.mender.proofs.CutLaws.{no_lines_lem}
use Rattle.mender.proofs.line_count.Statement.{statement}
use Rattle.mender.proofs.line_count.Tie as tie

abbrev invariant-loop : tie.invariant-loop-at
invariant-loop s n₀ at₀ n at =
    (n + length (lines_at s at) ≡ length (lines_at s 0)) × (n ≤ at) × (n ≤ length s) × (at ≤ length s + 1)

abbrev decreases-loop : tie.decreases-loop-at
decreases-loop s n₀ at₀ n at = length s + 1 - at

loop_holds : tie.Need-loop-at-init invariant-loop decreases-loop
loop_holds c = (omega arith, omega arith, omega arith, omega arith)

cut_at_requires : tie.Need-cut_at-at-requires invariant-loop decreases-loop
cut_at_requires c κs = search rules

add_n : tie.Need-overflow_add-n invariant-loop decreases-loop
add_n c = search rules

loop_less : tie.Need-loop-at-smaller invariant-loop decreases-loop
loop_less c =
    let k = c.cut_at-at.ensures in
    omega (arith, k.spans.forth, k.spans.behind, k.spans.near)

loop_again : tie.Need-loop-at-preserved invariant-loop decreases-loop
loop_again c =
    let k = c.cut_at-at.ensures in
    let l = c.loop-at in
    let more = ap length k.lines in
    (omega (arith, l.invariant.0, more), omega (arith, l.invariant.1, k.spans.forth, k.spans.behind), omega (arith, l.invariant.1, c.loop-at-test.true), k.spans.near)

returns : tie.Need-returns invariant-loop decreases-loop
returns c =
    let l = c.loop-at in
    let none = ap length (no_lines_lem c.args.s.now l.at c.loop-at-test.false) in
    (omega (arith, l.invariant.0, none), omega (arith, l.invariant.2))

pub line_count_spec : {M : Type 1} → statement M
line_count_spec =
    tie.close
    (tie.spec invariant-loop decreases-loop loop_holds cut_at_requires add_n loop_less loop_again returns)
