-- The line of a turn is measured where it is kept, and no sum runs over, since the log is short.
use native.Mathlib.Omega.{arith}
use mathlib.Core.Path.{◌≡◌, sym, ap, ◌∙◌}
use lib.ListN.{length}
use Rattle.rules.specs.Striking.{marked, place_after}
use Rattle.writer.proofs.RecordLoops.{log_small}
use Rattle.striker.proofs.LineLoops.{lies_here, lines_are_lem, measured_none, measured_kept, measured_struck}
use Rattle.striker.proofs.measure.Goals as goal
use Rattle.striker.proofs.measure.Goals.{then-not-is_struck, else-not-is_struck}

-- src/lib.rt:45:5
pub loop-i-init : goal.loop-i-init
loop-i-init c = measured_none c.requires.0

-- src/lib.rt:48:13
pub overflow_add-records : goal.overflow_add-records
overflow_add-records c = let m = c.loop-i.invariant in omega (arith, m.few, m.long, m.inside, c.requires.2, log_small)

-- src/lib.rt:49:22
pub overflow_sub-bytes : goal.overflow_sub-bytes
overflow_sub-bytes c =
    let l = lies_here c.requires.0 c.loop-i.i c.loop-i-test.true c.loop-i.invariant.start_is in
    omega (arith, l.order, c.behind_end-next.ensures)

-- src/lib.rt:49:13
pub overflow_add-bytes : goal.overflow_add-bytes
overflow_add-bytes c =
    let m = c.loop-i.invariant in
    let l = lies_here c.requires.0 c.loop-i.i c.loop-i-test.true m.start_is in
    omega (arith, l.order, l.inside, c.behind_end-next.ensures, m.short, c.requires.2, log_small)

-- src/lib.rt:45:5
pub loop-i-preserved : goal.loop-i-preserved
loop-i-preserved c =
    elim c.if-not-is_struck.branch [
      | then-not-is_struck w ↦
          rw (w.records-is, w.bytes-is, w.start-is) (measured_kept c.requires.0 c.loop-i.invariant c.loop-i-test.true c.behind_end-next.ensures (sym c.is_struck.ensures ∙ w.if-not-is_struck.true))
      | else-not-is_struck w ↦
          rw (w.records-is, w.bytes-is, w.start-is) (measured_struck c.requires.0 c.loop-i.invariant c.loop-i-test.true c.behind_end-next.ensures (sym c.is_struck.ensures ∙ w.if-not-is_struck.false))
    ]

-- src/lib.rt:36:1
pub returns-clause-records : goal.returns-clause-records
returns-clause-records c =
    let all : c.loop-i.i ≡ length c.args.ends.now = omega arith in
    c.loop-i.invariant.records_are ∙ ap (place_after (marked c.args.struck.now)) all

-- src/lib.rt:36:1
pub returns-clause-bytes : goal.returns-clause-bytes
returns-clause-bytes c =
    let all : c.loop-i.i ≡ length c.args.ends.now = omega arith in
    c.loop-i.invariant.bytes_are ∙ ap length (lines_are_lem _ _ _ _ c.loop-i.i all)

-- src/lib.rt:36:1
pub returns-clause-few : goal.returns-clause-few
returns-clause-few c = let m = c.loop-i.invariant in (omega (arith, m.few), omega (arith, m.short, m.inside))
