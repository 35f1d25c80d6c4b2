-- `writer::marks_length` meets its contract.
-- Assumes nothing.
use native.Mathlib.Omega.{arith}
use borrow.Author.Rules.{rules}
use Rattle.writer.proofs.RecordWritten.{marks_length}
use Rattle.writer.proofs.marks_length.Statement.{statement}
use Rattle.writer.proofs.marks_length.Tie as tie

mark_length_requires : tie.Need-mark_length-requires
mark_length_requires c κs = search rules

mark_length_requires_2 : tie.Need-mark_length-requires-2
mark_length_requires_2 c κs = search rules

add_result : tie.Need-overflow_add-result
add_result c = search rules

mark_length_requires_3 : tie.Need-mark_length-requires-3
mark_length_requires_3 c κs = search rules

add_result_2 : tie.Need-overflow_add-result-2
add_result_2 c = search rules

mark_length_requires_4 : tie.Need-mark_length-requires-4
mark_length_requires_4 c κs = search rules

add_result_3 : tie.Need-overflow_add-result-3
add_result_3 c = search rules

add_result_4 : tie.Need-overflow_add-result-4
add_result_4 c = search rules

returns : tie.Need-returns
returns c =
    let a = c.args in
    let l = marks_length a.exchange a.square a.country a.duplicate in
    (omega (arith, l), omega (arith, l))

pub marks_length_spec : {M : Type 1} → statement M
marks_length_spec =
    tie.close
    (tie.spec
    mark_length_requires
    mark_length_requires_2
    add_result
    mark_length_requires_3
    add_result_2
    mark_length_requires_4
    add_result_3
    add_result_4
    returns)
