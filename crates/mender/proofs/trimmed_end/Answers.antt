-- The spaces are passed over from the last one on.
-- Assumes nothing.
use Rattle.std.proofs.Common.{ℕ, ◌≡◌, ◌+◌, ◌-◌, arith, subst}
use Rattle.mender.specs.Lines.{Trims}
use Rattle.mender.proofs.CutLaws.{trims_none, trims_here, trims_on}
use Rattle.mender.proofs.trimmed_end.Goals as goal

pub returns-then-s-i-ne32 : goal.returns-then-s-i-ne32
returns-then-s-i-ne32 c =
    let behind : c.loop-i.i - 1 + 1 ≡ c.loop-i.i = omega (arith, c.loop-i-test.true) in
    rw behind (trims_here c.requires.1 c.loop-i.invariant c.loop-i-test.true c.if-s-i-ne32.true)

pub loop-i-preserved : goal.loop-i-preserved
loop-i-preserved c = trims_on c.requires.1 c.loop-i.invariant c.loop-i-test.true c.if-s-i-ne32.false

pub returns : goal.returns
returns c =
    let first : c.loop-i.i ≡ c.args.at = omega (arith, c.loop-i.invariant.forth, c.loop-i-test.false) in
    subst (λ (i : ℕ). Trims c.args.s.now c.args.at c.args.end i) first (trims_none c.requires.1 c.loop-i.invariant c.loop-i-test.false)
