-- Three bytes behind the worked ones tell what the record is worth.
use mathlib.Core.Path.{◌∙◌}
use borrow.Author.Rules.{rules}
use Rattle.session.proofs.SessionLaws.{points_read}
use Rattle.session.proofs.worth_kept.Statement.{statement}
use Rattle.session.proofs.worth_kept.Tie as tie

add_three_bytes : tie.Need-overflow_add-at
add_three_bytes c = search rules

shared_slice_read_three_bytes : tie.Need-bounds-kept-at
shared_slice_read_three_bytes c = search rules

add_three_bytes_2 : tie.Need-overflow_add-at-2
add_three_bytes_2 c = search rules

add_three_bytes_3 : tie.Need-overflow_add-at-3
add_three_bytes_3 c = search rules

shared_slice_read_three_bytes_2 : tie.Need-bounds-kept-at-2
shared_slice_read_three_bytes_2 c = search rules

add_three_bytes_4 : tie.Need-overflow_add-at-4
add_three_bytes_4 c = search rules

add_three_bytes_5 : tie.Need-overflow_add-at-5
add_three_bytes_5 c = search rules

shared_slice_read_three_bytes_3 : tie.Need-bounds-kept-at-3
shared_slice_read_three_bytes_3 c = search rules

three_bytes_requires : tie.Need-three_bytes-requires
three_bytes_requires c κs = search rules

returns : tie.Need-returns
returns c = c.three_bytes.ensures ∙ points_read c.args.kept.now c.args.at

pub worth_kept_spec : {M : Type 1} → statement M
worth_kept_spec =
    tie.close
    (tie.spec
    add_three_bytes
    shared_slice_read_three_bytes
    add_three_bytes_2
    add_three_bytes_3
    shared_slice_read_three_bytes_2
    add_three_bytes_4
    add_three_bytes_5
    shared_slice_read_three_bytes_3
    three_bytes_requires
    returns)
