-- `mend::mend` keeps within bounds: the mended log and the list lie within what was lent for them.
-- Assumes nothing.
use Rattle.std.proofs.Common.{◌≤◌, length, sym, length-take-le}
use Rattle.mend.proofs.MendedLaws.{text_within, kinds_within, lines_within_lem}
use Rattle.mend.proofs.mend.Goals as goal

pub slice_bounds-mended-end : goal.slice_bounds-mended-end
slice_bounds-mended-end g c = text_within _ c.in-Ok.ensures.answer _ c.in-Ok.ensures.text

pub slice_bounds-write_all-end : goal.slice_bounds-write_all-end
slice_bounds-write_all-end g c =
    let within : c.in-Ok.told.length ≤ length c.mend.new.out = text_within _ c.in-Ok.ensures.answer _ c.in-Ok.ensures.text in
    sym (length-take-le c.in-Ok.told.length c.mend.new.out within)

pub slice_bounds-kinds-end : goal.slice_bounds-kinds-end
slice_bounds-kinds-end g c = kinds_within _ c.in-Ok.ensures.answer _ c.in-Ok.ensures.kinds

pub slice_bounds-say_changes-end : goal.slice_bounds-say_changes-end
slice_bounds-say_changes-end g c =
    let within : c.in-Ok.told.changes ≤ length c.mend.new.kinds = kinds_within _ c.in-Ok.ensures.answer _ c.in-Ok.ensures.kinds in
    sym (length-take-le c.in-Ok.told.changes c.mend.new.kinds within)

pub slice_bounds-lines-end : goal.slice_bounds-lines-end
slice_bounds-lines-end g c = lines_within_lem _ c.in-Ok.ensures.answer _ c.in-Ok.ensures.lines

pub slice_bounds-say_changes-end-in-Ok : goal.slice_bounds-say_changes-end-in-Ok
slice_bounds-say_changes-end-in-Ok g c =
    let within : c.in-Ok.told.changes ≤ length c.mend.new.lines = lines_within_lem _ c.in-Ok.ensures.answer _ c.in-Ok.ensures.lines in
    sym (length-take-le c.in-Ok.told.changes c.mend.new.lines within)
