-- `writer::put_marks` meets its contract: four fields and the line's end, each behind what was written before it.
-- Assumes nothing.
use mathlib.Core.List.{◌++◌}
use lib.ListN.{length}
use borrow.Author.Rules.{rules}
use Rattle.rules.specs.Fields.{new_mark, duplicate_mark}
use Rattle.rules.specs.Log.{crlf}
use Rattle.rules.specs.Text.{Text}
use Rattle.writer.specs.RecordText.{mark_text, marks_text}
use Rattle.writer.specs.Written.{Puts}
use Rattle.writer.proofs.RecordWritten.{room_exchange, room_square, room_country, room_duplicate, room_end}
use Rattle.writer.proofs.WrittenLaws.{puts_room, puts_then}
use Rattle.writer.proofs.put_marks.Statement.{statement}
use Rattle.writer.proofs.put_marks.Tie as tie

-- The places of the code, each by the one before it.
abbrev begun : tie.After-put_mark-second → tie.Start
begun c = c.before.before.before

abbrev exchanged : tie.After-put_mark-third → tie.After-put_mark-second
exchanged c = c.before.before.before.before

abbrev squared : tie.After-put_mark-fourth → tie.After-put_mark-third
squared c = c.before.before.before.before

abbrev counted : tie.After-put_mark-end → tie.After-put_mark-fourth
counted c = c.before.before.before.before

abbrev second : tie.After-put_mark-third → tie.Start
second c = begun (exchanged c)

abbrev third : tie.After-put_mark-fourth → tie.Start
third c = second (squared c)

abbrev fourth : tie.After-put_mark-end → tie.Start
fourth c = third (counted c)

-- The fields up to one of the four.
abbrev upto_square : tie.Start → Text
upto_square b = let a = b.args in mark_text a.exchange new_mark ++ mark_text a.square new_mark

abbrev upto_country : tie.Start → Text
upto_country b = upto_square b ++ mark_text b.args.country new_mark

abbrev upto_duplicate : tie.Start → Text
upto_duplicate b = upto_country b ++ mark_text b.args.duplicate duplicate_mark

-- They are written.
upto_square_lem : (c : tie.After-put_mark-third) → let b = second c in Puts b.args.out.now b.args.at (upto_square b) c.put_mark-third.new.out c.put_mark-third.result
unfolding new_mark duplicate_mark
upto_square_lem c = puts_then (exchanged c).put_mark-second.ensures c.put_mark-third.ensures

upto_country_lem : (c : tie.After-put_mark-fourth) → let b = third c in Puts b.args.out.now b.args.at (upto_country b) c.put_mark-fourth.new.out c.put_mark-fourth.result
unfolding new_mark duplicate_mark
upto_country_lem c = puts_then (upto_square_lem (squared c)) c.put_mark-fourth.ensures

upto_duplicate_lem : (c : tie.After-put_mark-end) → let b = fourth c in Puts b.args.out.now b.args.at (upto_duplicate b) c.put_mark-end.new.out c.put_mark-end.result
unfolding new_mark duplicate_mark
upto_duplicate_lem c = puts_then (upto_country_lem (counted c)) c.put_mark-end.ensures

put_mark_requires : tie.Need-put_mark-second-requires
unfolding new_mark duplicate_mark
put_mark_requires c κs =
    let b = c in
    let a = b.args in
    room_exchange a.exchange a.square a.country a.duplicate a.at (length a.out.now) b.requires

put_mark_requires_2 : tie.Need-put_mark-third-requires
unfolding new_mark duplicate_mark
put_mark_requires_2 c κs =
    let p = c.before.before.before in
    let b = begun p in
    let a = b.args in
    puts_room p.put_mark-second.ensures (mark_text a.square new_mark) (room_square a.exchange a.square a.country a.duplicate a.at (length a.out.now) b.requires)

put_mark_requires_3 : tie.Need-put_mark-fourth-requires
unfolding new_mark duplicate_mark
put_mark_requires_3 c κs =
    let p = c.before.before.before in
    let b = second p in
    let a = b.args in
    puts_room (upto_square_lem p) (mark_text a.country new_mark) (room_country a.exchange a.square a.country a.duplicate a.at (length a.out.now) b.requires)

put_mark_requires_4 : tie.Need-put_mark-end-requires
unfolding new_mark duplicate_mark
put_mark_requires_4 c κs =
    let p = c.before.before.before in
    let b = third p in
    let a = b.args in
    puts_room (upto_country_lem p) (mark_text a.duplicate duplicate_mark) (room_duplicate a.exchange a.square a.country a.duplicate a.at (length a.out.now) b.requires)

put_end_requires : tie.Need-put_end-requires
unfolding new_mark duplicate_mark
put_end_requires c κs =
    let p = c.before.before.before in
    let b = fourth p in
    let a = b.args in
    puts_room (upto_duplicate_lem p) crlf (room_end a.exchange a.square a.country a.duplicate a.at (length a.out.now) b.requires)

same_length : tie.Need-shape_of-out
same_length c = search rules

returns : tie.Need-returns
unfolding marks_text new_mark duplicate_mark
returns c = let e = c.before.before in puts_then (upto_duplicate_lem e.before.before.before.before) e.put_end.ensures

pub put_marks_spec : {M : Type 1} → statement M
put_marks_spec =
    tie.close
    (tie.spec
    put_mark_requires
    put_mark_requires_2
    put_mark_requires_3
    put_mark_requires_4
    put_end_requires
    same_length
    returns)
