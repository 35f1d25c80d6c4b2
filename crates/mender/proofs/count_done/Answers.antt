-- The count is set where digits and `]` stand and the number is wrong.
-- Assumes nothing.
use Rattle.rules.specs.Log.{count_start}
use Rattle.mender.proofs.CountLaws.{count_none, count_right, count_wrong}
use Rattle.mender.proofs.count_done.Goals.{else-digits_then_end-via-then-digits_then_end+else-not-is_count, else-digits_then_end-via-else-digits_then_end}
use Rattle.mender.proofs.count_done.Goals as goal

pub slice_bounds-digits_then_end-count : goal.slice_bounds-digits_then_end-count
unfolding count_start
slice_bounds-digits_then_end-count c = c.requires

pub slice_bounds-digits_then_end-start : goal.slice_bounds-digits_then_end-start
unfolding count_start
slice_bounds-digits_then_end-start c = c.requires

pub returns-then-not-is_count : goal.returns-then-not-is_count
returns-then-not-is_count c = count_wrong _ _ c.digits_then_end.ensures c.if-digits_then_end.true c.is_count.ensures c.if-not-is_count.true

pub returns-else-digits_then_end : goal.returns-else-digits_then_end
returns-else-digits_then_end c =
    elim c.else-digits_then_end.branch [
      | else-digits_then_end-via-then-digits_then_end+else-not-is_count w ↦
          count_right _ _ c.digits_then_end.ensures w.if-digits_then_end.true w.is_count.ensures w.if-not-is_count.false
      | else-digits_then_end-via-else-digits_then_end w ↦ count_none _ _ c.digits_then_end.ensures w.if-digits_then_end.false
    ]
