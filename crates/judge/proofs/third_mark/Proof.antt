-- Two fields behind the points are passed over.
use Prim.Native.Nat.{ℕ, ◌+◌, ◌<◌}
use native.Mathlib.Omega.{arith}
use mathlib.Core.Path.{◌≡◌, ap, ◌∙◌}
use lib.ListN.{length}
use Rattle.fields.specs.Field.{end_of}
use Rattle.fields.proofs.PartLaws.{end_by_span}
use Rattle.reader.specs.Contact.{field_start}
use Rattle.judge.proofs.ToldLaws.{two_inside, third_inside, two_on}
use Rattle.judge.proofs.third_mark.Statement.{statement}
use Rattle.judge.proofs.third_mark.Tie as tie

-- The fields behind the points lie within the log.
inside : (c : tie.Start) →
    let s = c.args.s.now in
    let x = c.args.pointsend + 1 in
    (end_of s x < length s) × (end_of s (end_of s x + 1) < length s)
inside c = two_inside c.args.s.now (c.args.pointsend + 1) c.requires

add_part_end : tie.Need-overflow_add-pointsend
add_part_end c = omega (arith, inside c.before, end_by_span c.args.s.now (c.args.pointsend + 1))

part_end_requires : tie.Need-part_end-second-requires
part_end_requires c κs = (inside c.before).0

add_second : tie.Need-overflow_add-second
add_second c = omega (arith, inside c.before.before, c.part_end-second.ensures)

part_end_requires_2 : tie.Need-part_end-requires
part_end_requires_2 c κs = rw c.part_end-second.ensures (inside c.before.before).1

add_result : tie.Need-overflow_add-result
add_result c =
    let start = c.before.before.before in
    let s = start.args.s.now in
    omega (arith, c.part_end.ensures, (inside start).1, ap (λ (n : ℕ). end_of s (n + 1)) c.part_end-second.ensures)

returns : tie.Need-returns
returns c =
    let start = c in
    let a = start.args in
    let s = a.s.now in
    let third : c.part_end.result + 1 ≡ field_start s (a.pointsend + 1) 2 =
    ap (λ (n : ℕ). n + 1) (c.part_end.ensures ∙ ap (λ (n : ℕ). end_of s (n + 1)) c.part_end-second.ensures) ∙ two_on s (a.pointsend + 1) in
    (third, third_inside s (a.pointsend + 1) start.requires third)

pub third_mark_spec : {M : Type 1} → statement M
third_mark_spec = tie.close (tie.spec add_part_end part_end_requires add_second part_end_requires_2 add_result returns)
