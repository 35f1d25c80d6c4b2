-- The loop stops where the run does.
use native.Mathlib.Omega.{arith}
use lib.ListN.{drop, length-drop}
use Rattle.rules.proofs.TextLaws.{span_short}
use Rattle.fields.proofs.FieldLaws.{run_starts, run_more, run_stops, run_ends}
use Rattle.fields.proofs.run.Goals as goal

pub loop-i-init : goal.loop-i-init
loop-i-init g c = run_starts _ _ _

pub loop-i-preserved : goal.loop-i-preserved
loop-i-preserved g c = run_more c.loop-i.invariant c.loop-i-test.true c.has.ensures (rw c.if-not-has.false)

pub returns-then-not-has : goal.returns-then-not-has
returns-then-not-has g c = run_stops c.loop-i.invariant c.loop-i-test.true c.has.ensures (rw c.if-not-has.true)

pub returns : goal.returns
returns g c =
    let rest = drop c.args.at c.args.s.now in
    omega (
      arith,
      c.max.ensures,
      run_ends c.loop-i.invariant c.loop-i-test.false,
      span_short (g.K.Kind.holds c.args.kind.now) rest,
      length-drop c.args.at c.args.s.now,
    )
