-- `writer::put_record` meets its contract: what is copied, a duplicate's `0` and the marks, each behind what was written before it.
-- Assumes nothing.
use Prim.Native.Nat.{◌-◌, ◌≤◌}
use native.Mathlib.Omega.{arith}
use mathlib.Core.List.{◌++◌}
use mathlib.Core.Path.{◌≡◌, sym}
use lib.ListN.{length}
use borrow.Author.Rules.{rules}
use Rattle.reader.specs.Contact.{between}
use Rattle.rules.specs.Text.{Text}
use Rattle.writer.specs.RecordText.{zero_text, record_text}
use Rattle.writer.specs.Written.{Puts}
use Rattle.writer.proofs.RecordWritten.{copied_behind, copied_inside, marks, record_parts, room_head, room_zero, room_marks}
use Rattle.writer.proofs.WrittenLaws.{puts_room, puts_then, puts_as, part_length}
use Rattle.writer.proofs.put_record.Statement.{statement}
use Rattle.writer.proofs.put_record.Tie as tie

-- The places of the code, each by the one before it.
abbrev begun : tie.After-copied_to-to → tie.Start
begun c = c.before.before.before.before

abbrev copied : tie.After-put_part-copied → tie.After-copied_to-to
copied c = c.before.before

abbrev parted : tie.After-put_zero-marks → tie.After-put_part-copied
parted c = c.before.before.before.before

-- What is copied of the record, and its text by its parts.
abbrev part : tie.After-copied_to-to → Text
part c = let a = (begun c).args in between a.s.now a.start c.copied_to-to.result

order : (c : tie.After-copied_to-to) → (begun c).args.start ≤ c.copied_to-to.result
order c =
    let b = begun c in
    let a = b.args in
    copied_behind a.start a.points a.pointsend b.requires.0.0 b.requires.0.1 c.is_duplicate-duplicate.result c.copied_to-to.ensures

inside : (c : tie.After-copied_to-to) → c.copied_to-to.result ≤ length (begun c).args.s.now
inside c =
    let b = begun c in
    let a = b.args in
    let k : c.copied_to-to.result ≤ a.pointsend = copied_inside a.start a.points a.pointsend b.requires.0.0 b.requires.0.1 c.is_duplicate-duplicate.result c.copied_to-to.ensures in
    omega (arith, b.requires.0.2)

abbrev end : tie.After-copied_to-to → Text
end c =
    let a = (begun c).args in
    let d = c.is_duplicate-duplicate in
    marks a.s.now a.start a.points a.pointsend a.number d.result c.copied_to-to.result d.ensures c.copied_to-to.ensures

parts : (c : tie.After-copied_to-to)
    → let a = (begun c).args in
    record_text a.s.now a.start a.points a.pointsend a.number ≡ part c ++ zero_text c.is_duplicate-duplicate.result ++ end c
parts c =
    let a = (begun c).args in
    let d = c.is_duplicate-duplicate in
    record_parts a.s.now a.start a.points a.pointsend a.number d.result c.copied_to-to.result d.ensures c.copied_to-to.ensures

-- What is copied and the `0` are written.
upto_zero : (c : tie.After-put_zero-marks)
    → let k = copied (parted c) in
    let a = (begun k).args in
    Puts a.out.now a.at (part k ++ zero_text k.is_duplicate-duplicate.result) c.put_zero-marks.new.out c.put_zero-marks.result
upto_zero c = puts_then (parted c).put_part-copied.ensures c.put_zero-marks.ensures

is_duplicate_requires : tie.Need-is_duplicate-duplicate-requires
is_duplicate_requires c κs = search rules

copied_to_requires : tie.Need-copied_to-to-requires
copied_to_requires c κs = search rules

put_part_requires : tie.Need-put_part-copied-requires
put_part_requires c κs =
    let k = c.before in
    let b = begun k in
    let a = b.args in
    let d = k.is_duplicate-duplicate in
    let l : length (part k) ≡ k.copied_to-to.result - a.start = part_length a.s.now a.start k.copied_to-to.result (order k) (inside k) in
    let room = room_head a.s.now a.start a.points a.pointsend a.number d.result k.copied_to-to.result d.ensures k.copied_to-to.ensures a.at (length a.out.now) b.requires.1 in
    (order k, inside k, omega (arith, l, room))

put_zero_requires : tie.Need-put_zero-marks-requires
put_zero_requires c κs =
    let p = c.before.before.before in
    let k = copied p in
    let b = begun k in
    let a = b.args in
    let d = k.is_duplicate-duplicate in
    puts_room p.put_part-copied.ensures (zero_text d.result)
    (room_zero a.s.now a.start a.points a.pointsend a.number d.result k.copied_to-to.result d.ensures k.copied_to-to.ensures a.at (length a.out.now) b.requires.1)

put_marks_requires : tie.Need-put_marks-requires
put_marks_requires c κs =
    let z = c.before.before.before in
    let k = copied (parted z) in
    let b = begun k in
    let a = b.args in
    let d = k.is_duplicate-duplicate in
    puts_room (upto_zero z) (end k)
    (room_marks a.s.now a.start a.points a.pointsend a.number d.result k.copied_to-to.result d.ensures k.copied_to-to.ensures a.at (length a.out.now) b.requires.1)

same_length : tie.Need-shape_of-out
same_length c = search rules

returns : tie.Need-returns
returns c =
    let m = c.before.before in
    let z = m.before.before.before.before in
    puts_as (puts_then (upto_zero z) m.put_marks.ensures) (sym (parts (copied (parted z))))

pub put_record_spec : {M : Type 1} → statement M
put_record_spec =
    tie.close
    (tie.spec
    is_duplicate_requires
    copied_to_requires
    put_part_requires
    put_zero_requires
    put_marks_requires
    same_length
    returns)
