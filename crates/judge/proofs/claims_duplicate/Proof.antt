-- The last field is looked at where it begins.
use Prim.Native.Nat.{ℕ, ◌+◌, ◌-◌}
use native.Mathlib.Omega.{arith}
use mathlib.Core.Path.{◌≡◌, ap, ◌∙◌}
use lib.ListN.{length, drop, length-drop}
use lib.Seq.{take_all}
use borrow.Author.Rules.{rules}
use Rattle.rules.specs.Text.{begins}
use Rattle.rules.specs.Fields.{duplicate_mark}
use Rattle.fields.specs.Field.{end_of}
use Rattle.reader.specs.Contact.{field_start}
use Rattle.judge.proofs.ToldLaws.{three_on}
use Rattle.judge.proofs.claims_duplicate.Statement.{statement}
use Rattle.judge.proofs.claims_duplicate.Tie as tie

third_mark_requires : tie.Need-third_mark-requires
third_mark_requires c κs = search rules

part_end_requires : tie.Need-part_end-last-requires
part_end_requires c κs = search rules

add_last : tie.Need-overflow_add-last
add_last c = search rules

sub_begins_with : tie.Need-slice_bounds-begins_with-count
sub_begins_with c = search rules

part_begins_with_start : tie.Need-slice_bounds-begins_with-start
part_begins_with_start c = search rules

part_begins_with_end : tie.Need-slice_bounds-begins_with-end-2
part_begins_with_end c = search rules

begins_with_requires : tie.Need-begins_with-requires
begins_with_requires c κs = search rules

-- Where the last field begins.
last : (c : tie.After-part_end-last) →
    let a = c.args in
    c.part_end-last.result + 1 ≡ field_start a.s.now (a.pointsend + 1) 3
last c =
    let a = c.args in
    let s = a.s.now in
    ap (λ (n : ℕ). n + 1) (c.part_end-last.ensures ∙ ap (end_of s) c.third_mark.ensures.0) ∙ three_on s (a.pointsend + 1)

returns : tie.Need-returns
unfolding duplicate_mark
returns c =
    let ended = c.before.before.before.before in
    let s = ended.args.s.now in
    let at = ended.part_end-last.result + 1 in
    c.begins_with.ensures
    ∙ ap (begins duplicate_mark) (take_all (length s - at) (drop at s) (omega (arith, length-drop at s)))
    ∙ ap (λ (n : ℕ). begins duplicate_mark (drop n s)) (last ended)

pub claims_duplicate_spec : {M : Type 1} → statement M
claims_duplicate_spec =
    tie.close
    (tie.spec
    third_mark_requires
    part_end_requires
    add_last
    sub_begins_with
    part_begins_with_start
    part_begins_with_end
    begins_with_requires
    returns)
