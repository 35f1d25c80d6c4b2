-- `writer::record_length` meets its contract.
-- Assumes nothing.
use Prim.Native.Nat.{◌-◌, ◌≤◌}
use native.Mathlib.Omega.{arith}
use mathlib.Core.Path.{◌≡◌}
use lib.ListN.{length}
use borrow.Author.Rules.{rules}
use Rattle.reader.specs.Contact.{between}
use Rattle.writer.proofs.RecordWritten.{copied_behind, copied_inside, record_length}
use Rattle.writer.proofs.WrittenLaws.{part_length}
use Rattle.writer.proofs.record_length.Statement.{statement}
use Rattle.writer.proofs.record_length.Tie as tie

-- The places of the code, each by the one before it.
abbrev begun : tie.After-copied_to-to → tie.Start
begun c = c.before.before.before

abbrev copied : tie.After-zero_length → tie.After-copied_to-to
copied c = c.before.before

order : (c : tie.After-copied_to-to) → (begun c).args.start ≤ c.copied_to-to.result
order c =
    let b = begun c in
    let a = b.args in
    copied_behind a.start a.points a.pointsend b.requires.0 b.requires.1 c.is_duplicate-duplicate.result c.copied_to-to.ensures

inside : (c : tie.After-copied_to-to) → c.copied_to-to.result ≤ (begun c).args.pointsend
inside c =
    let b = begun c in
    let a = b.args in
    copied_inside a.start a.points a.pointsend b.requires.0 b.requires.1 c.is_duplicate-duplicate.result c.copied_to-to.ensures

is_duplicate_requires : tie.Need-is_duplicate-duplicate-requires
is_duplicate_requires c κs = search rules

copied_to_requires : tie.Need-copied_to-to-requires
copied_to_requires c κs = search rules

marks_length_requires : tie.Need-marks_length-marks-requires
marks_length_requires c κs = search rules

sub_result : tie.Need-overflow_sub-result
sub_result c = order c.before

zero_length_requires : tie.Need-zero_length-requires
zero_length_requires c κs = search rules

add_result : tie.Need-overflow_add-result
add_result c = omega (arith, inside (copied c), (begun (copied c)).ranges.pointsend.fits, c.zero_length.ensures.1)

add_result_2 : tie.Need-overflow_add-result-2
add_result_2 c = omega (arith, inside (copied c), (begun (copied c)).ranges.pointsend.fits, c.zero_length.ensures.1, c.marks_length-marks.ensures.1)

returns : tie.Need-returns
returns c =
    let k = copied c in
    let b = begun k in
    let a = b.args in
    let d = k.is_duplicate-duplicate in
    let l : length (between a.s.now a.start k.copied_to-to.result) ≡ k.copied_to-to.result - a.start = part_length a.s.now a.start k.copied_to-to.result (order k) (omega (arith, inside k, b.requires.2)) in
    let all = record_length a.s.now a.start a.points a.pointsend a.number d.result k.copied_to-to.result d.ensures k.copied_to-to.ensures in
    let z = c.zero_length.ensures in
    let m = c.marks_length-marks.ensures in
    (omega (arith, all, l, z.0, m.0), omega (arith, inside k, order k, z.1, m.1))

pub record_length_spec : {M : Type 1} → statement M
record_length_spec =
    tie.close
    (tie.spec
    is_duplicate_requires
    copied_to_requires
    marks_length_requires
    sub_result
    zero_length_requires
    add_result
    add_result_2
    returns)
