-- Four bytes are read, one behind the other, and make the number.
use borrow.Author.Rules.{rules}
use Rattle.session.specs.Entry.{four_at}
use Rattle.session.proofs.four_at.Statement.{statement}
use Rattle.session.proofs.four_at.Tie as tie

shared_slice_read_four_bytes : tie.Need-bounds-s-at
shared_slice_read_four_bytes c = search rules

add_four_bytes : tie.Need-overflow_add-at
add_four_bytes c = search rules

shared_slice_read_four_bytes_2 : tie.Need-bounds-s-at-2
shared_slice_read_four_bytes_2 c = search rules

add_four_bytes_2 : tie.Need-overflow_add-at-2
add_four_bytes_2 c = search rules

shared_slice_read_four_bytes_3 : tie.Need-bounds-s-at-3
shared_slice_read_four_bytes_3 c = search rules

add_four_bytes_3 : tie.Need-overflow_add-at-3
add_four_bytes_3 c = search rules

shared_slice_read_four_bytes_4 : tie.Need-bounds-s-at-4
shared_slice_read_four_bytes_4 c = search rules

four_bytes_requires : tie.Need-four_bytes-requires
four_bytes_requires c κs = search rules

returns : tie.Need-returns
unfolding four_at
returns c = c.four_bytes.ensures

pub four_at_spec : {M : Type 1} → statement M
four_at_spec =
    tie.close
    (tie.spec
    shared_slice_read_four_bytes
    add_four_bytes
    shared_slice_read_four_bytes_2
    add_four_bytes_2
    shared_slice_read_four_bytes_3
    add_four_bytes_3
    shared_slice_read_four_bytes_4
    four_bytes_requires
    returns)
