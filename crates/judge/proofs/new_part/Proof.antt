-- A part that is empty brings nothing; another is looked for by its key, and kept where it is found nowhere.
use borrow.Author.Rules.{rules}
use Rattle.judge.proofs.PartLaws.{lying_key}
use Rattle.judge.proofs.StepLaws.{part_none, key_kept, part_old, part_new}
use Rattle.judge.proofs.new_part.Statement.{statement}
use Rattle.judge.proofs.new_part.Tie as tie

returns : tie.Need-returns-then-a-e
returns c = let start = c in let a = start.args in part_none a.s.now a.places.now a.keys.now a.m a.a a.e c.requires.0.0 c.if-a-e.true

key_of_requires : tie.Need-key_of-requires
key_of_requires c κs = search rules

mul_keys : tie.Need-offset_bounds-keys-m
mul_keys c = search rules

slice_write_keys : tie.Need-bounds-keys-m
slice_write_keys c = search rules

is_kept_requires : tie.Need-is_kept-requires
is_kept_requires c κs =
    let a = c.args in
    (lying_key a.s.now a.places.now a.keys.now a.m c.requires.0.0 c.key_of.result, key_kept a.s.now a.places.now a.keys.now a.m a.a a.e c.requires.0.0 c.requires.1.0 c.requires.1.1 c.key_of.ensures)

same_length : tie.Need-shape_of-places-then-is_kept
same_length c = search rules

same_length_2 : tie.Need-shape_of-keys-then-is_kept
same_length_2 c = search rules

returns_2 : tie.Need-returns-then-is_kept
returns_2 c =
    let a = c.args in
    part_old a.s.now a.places.now a.keys.now a.m a.a a.e c.requires.0.0 c.requires.1.0 c.requires.1.1 c.key_of.ensures c.is_kept.ensures c.if-is_kept.true

cast_places : tie.Need-overflow_cast-places
cast_places c = search rules

mul_places : tie.Need-offset_bounds-places-m
mul_places c = search rules

slice_write_places : tie.Need-bounds-places-m
slice_write_places c = search rules

same_length_3 : tie.Need-shape_of-places
same_length_3 c = search rules

same_length_4 : tie.Need-shape_of-keys
same_length_4 c = search rules

returns_3 : tie.Need-returns
returns_3 c =
    let a = c.args in
    part_new a.s.now a.places.now a.keys.now a.m a.a a.e c.requires.0.0 c.requires.1.0 c.requires.1.1 c.key_of.ensures c.is_kept.ensures c.if-is_kept.false c.if-a-e.false c.requires.0.1 c.requires.0.2

pub new_part_spec : {M : Type 1} → statement M
new_part_spec =
    tie.close
    (tie.spec
    returns
    key_of_requires
    mul_keys
    slice_write_keys
    is_kept_requires
    same_length
    same_length_2
    returns_2
    cast_places
    mul_places
    slice_write_places
    same_length_3
    same_length_4
    returns_3)
