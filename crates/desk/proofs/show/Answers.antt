-- `desk::show` keeps within bounds: what the library laid lies within the answer.
-- Assumes nothing.
use Rattle.std.proofs.Common.{◌≤◌, length, sym, length-take-le}
use Rattle.writer.proofs.ShownLaws.{shown_within}
use Rattle.desk.proofs.show.Goals as goal

pub slice_bounds-answer-end : goal.slice_bounds-answer-end
slice_bounds-answer-end g c = shown_within _ _ c.show-end.ensures.answer c.show-end.ensures.slice

pub slice_bounds-answer-end-2 : goal.slice_bounds-answer-end-2
slice_bounds-answer-end-2 g c =
    let within : c.show-end.result ≤ length c.show-end.new.out = shown_within _ _ c.show-end.ensures.answer c.show-end.ensures.slice in
    sym (length-take-le c.show-end.result c.show-end.new.out within)
