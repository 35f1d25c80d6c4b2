-- `writer::put_byte` meets its contract.
-- Assumes nothing.
use borrow.Author.Rules.{rules}
use Rattle.writer.proofs.WrittenLaws.{written_byte}
use Rattle.writer.proofs.put_byte.Statement.{statement}
use Rattle.writer.proofs.put_byte.Tie as tie

slice_write_out : tie.Need-bounds-out-at
slice_write_out c = search rules

add_result : tie.Need-overflow_add-result
add_result c = search rules

same_length : tie.Need-shape_of-out
same_length c = search rules

returns : tie.Need-returns
returns c = record { fits = search rules; list = written_byte _ _ _ c.requires; place = search rules }

pub put_byte_spec : {M : Type 1} → statement M
put_byte_spec = tie.close (tie.spec slice_write_out add_result same_length returns)
