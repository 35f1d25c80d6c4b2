-- One entry is made in each list, or none; a kind is listed by its number, which is one more than its place among the kinds.
-- Assumes nothing.
use denote.Enum.Declared.{tag_of}
use Rattle.std.proofs.Common.{arith, ap, refl, length, ◌≡◌, ◌+◌}
use Rattle.mender.specs.Lines.{kind_number}
use Rattle.mender.specs.contracts.Kind.{the_type}
use Rattle.mender.specs.declared.Kind.{Kind}
use Rattle.mender.specs.declared.Kind.TheVariants.{ReturnPut, EndPut, SpacesDropped, CountSet}
use Rattle.mender.proofs.KindLaws.{one_done, noted_none, noted_one}
use Rattle.mender.proofs.note.Goals as goal

number : (kind : Kind) → tag_of the_type kind + 1 ≡ kind_number kind
number ReturnPut = refl
number EndPut = refl
number SpacesDropped = refl
number CountSet = refl

pub returns-in_default : goal.returns-in_default
returns-in_default c =
    let n = noted_none c.args.kinds.now c.args.lines.now c.args.i c.args.line c.in_default.is (omega (arith, c.requires.0)) (omega (arith, c.requires.1)) in
    record { kinds = n.0; lines = n.1 }

pub bounds-kinds-i : goal.bounds-kinds-i
bounds-kinds-i c = omega (arith, c.requires.0, ap length (one_done c.in-Some.is))

pub bounds-lines-i : goal.bounds-lines-i
bounds-lines-i c = omega (arith, c.requires.1, ap length (one_done c.in-Some.is))

pub returns : goal.returns
returns c =
    let n =
    noted_one c.args.kinds.now c.args.lines.now c.args.i c.args.line c.in-Some.is (number c.in-Some.kind) (omega (arith, c.requires.0, ap length (one_done c.in-Some.is))) (omega (arith, c.requires.1, ap length (one_done c.in-Some.is))) in
    record { kinds = n.0; lines = n.1 }
