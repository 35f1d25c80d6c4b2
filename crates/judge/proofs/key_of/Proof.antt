-- The key is made of the length and the last two characters.
use Prim.Native.Nat.{◌-◌}
use native.Mathlib.Omega.{arith}
use mathlib.Core.Path.{refl}
use borrow.Author.Rules.{rules}
use Rattle.judge.proofs.PartLaws.{key_told}
use Rattle.judge.proofs.key_of.Statement.{statement}
use Rattle.judge.proofs.key_of.Tie as tie

sub_if1 : tie.Need-overflow_sub-e
sub_if1 c = search rules

shared_slice_read_key_with : tie.Need-bounds-s-a
shared_slice_read_key_with c = search rules

shared_slice_read_key_with_2 : tie.Need-bounds-s-a-then-e-a-eq1
shared_slice_read_key_with_2 c = search rules

key_with_requires : tie.Need-key_with-requires
key_with_requires c κs = search rules

returns : tie.Need-returns-then-e-a-eq1
returns c =
    let start = c in
    let a = start.args in
    let one = c.if-e-a-eq1.true in
    key_told a.s.now a.a a.e (omega arith) start.requires.1 1 a.a a.a start.requires.0 one (omega arith) (omega arith) c.key_with.ensures

sub_key_with : tie.Need-overflow_sub-e-2
sub_key_with c = search rules

sub_key_with_2 : tie.Need-overflow_sub-e-3
sub_key_with_2 c = search rules

shared_slice_read_key_with_3 : tie.Need-bounds-s-e
shared_slice_read_key_with_3 c = search rules

sub_key_with_3 : tie.Need-overflow_sub-e-4
sub_key_with_3 c = search rules

shared_slice_read_key_with_4 : tie.Need-bounds-s-e-2
shared_slice_read_key_with_4 c = search rules

key_with_requires_2 : tie.Need-key_with-requires-2
key_with_requires_2 c κs = search rules

returns_2 : tie.Need-returns
returns_2 c =
    let start = c in
    let a = start.args in
    key_told a.s.now a.a a.e (omega arith) start.requires.1 (a.e - a.a) (a.e - 1) (a.e - 2) start.requires.0 refl (omega arith) (omega arith) c.key_with-2.ensures

pub key_of_spec : {M : Type 1} → statement M
key_of_spec =
    tie.close
    (tie.spec
    sub_if1
    shared_slice_read_key_with
    shared_slice_read_key_with_2
    key_with_requires
    returns
    sub_key_with
    sub_key_with_2
    shared_slice_read_key_with_3
    sub_key_with_3
    shared_slice_read_key_with_4
    key_with_requires_2
    returns_2)
