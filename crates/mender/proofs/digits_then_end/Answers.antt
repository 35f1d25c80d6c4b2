-- The digits are counted, and what stands behind them is `]`.
-- Assumes nothing.
use borrow.Author.Tests.{eq-eqb}
use Rattle.mender.proofs.CountLaws.{run_within, no_digits, some_digits}
use Rattle.mender.proofs.digits_then_end.Goals as goal

pub slice_bounds-same_text-count : goal.slice_bounds-same_text-count
slice_bounds-same_text-count c = run_within _ c.run-n.ensures

pub slice_bounds-same_text-start : goal.slice_bounds-same_text-start
slice_bounds-same_text-start c = run_within _ c.run-n.ensures

pub returns-then-n-ne0 : goal.returns-then-n-ne0
returns-then-n-ne0 c = some_digits _ c.run-n.ensures c.if-n-ne0.true c.same_text.ensures

pub returns-else-n-ne0 : goal.returns-else-n-ne0
returns-else-n-ne0 c = rw (eq-eqb c.run-n.result 0 c.if-n-ne0.false) (no_digits _ c.run-n.ensures c.if-n-ne0.false)
