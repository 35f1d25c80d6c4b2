-- The line is that of the piece, behind what is held of it.
use Prim.Native.Nat.{◌+◌, ◌-◌, ◌≤◌}
use native.Mathlib.Omega.{arith}
use mathlib.Core.Path.{◌≡◌, refl, sym, ap, ◌∙◌}
use lib.ListN.{length, take}
use borrow.Author.Rules.{rules}
use Rattle.rules.specs.Rules.{base}
use mathlib.Core.List.{◌++◌}
use Rattle.rules.specs.Text.{Text}
use Rattle.reader.specs.Contact.{between}
use Rattle.writer.specs.Written.{Puts}
use Rattle.writer.proofs.WrittenLaws.{part_length, written_length}
use Rattle.writer.proofs.TextLaid.{text_laid_lem}
use Rattle.session.proofs.SliceLaws.{front_written}
use lib.Seq.{length-take-le}
use Rattle.link.specs.Link.{holding, begun, finishes}
use Rattle.link.proofs.joined.Statement.{statement}
use Rattle.link.proofs.joined.Tie as tie

-- The state has room for a line.
long : (c : tie.Start) → length c.args.s.line ≡ 75
long c = search (rules, c.well_formed.0.1.1.1.1.1.1.1.1.1.1.1.1.1)

-- The part of the piece is laid behind what is held, and both are the line.
abbrev part : tie.Start → Text
part c = between c.args.bytes.now c.args.at c.args.end

part_long : (c : tie.Start) → length (part c) ≡ c.args.end - c.args.at
part_long c = part_length c.args.bytes.now c.args.at c.args.end c.requires.2 c.requires.3

abbrev begins : tie.Else-held-eq0 → tie.Start
begins c = c.before.before.before.before.before

abbrev start : tie.After-put_text-long → tie.Start
start p = begins p.before.before.before.before

-- The same from the end of the code, where the line is read from the copy.
abbrev put : tie.After-slice_known-4-1 → tie.After-put_text-long
put c = c.before.before.before.before.before.before.before.before.before

fits : (c : tie.Start) → c.args.s.held + length (part c) ≤ length c.args.s.line
fits c = omega (arith, part_long c, long c, c.requires.4)

laid : (p : tie.After-put_text-long) → Puts (start p).args.s.line (start p).args.s.held (part (start p)) p.put_text-long.new.out p.put_text-long.result
laid p =
    text_laid_lem (start p).args.s.line (start p).args.s.held (part (start p)) (fits (start p)) p.put_text-long.ensures.0 p.put_text-long.ensures.1

line_is : (p : tie.After-put_text-long) → take p.put_text-long.result p.put_text-long.new.out ≡ begun (start p).args.s ++ part (start p)
line_is p =
    let s = (start p).args.s in
    (λ i. take ((laid p).place i) ((laid p).list i))
    ∙ front_written s.line s.held (length (part (start p))) (part (start p)) refl (fits (start p))

cast_held : tie.Need-overflow_cast-held
cast_held c = search rules

sub_finished : tie.Need-slice_bounds-finished-count
sub_finished c = search rules

part_finished_start : tie.Need-slice_bounds-finished-start
part_finished_start c = search rules

part_finished_end : tie.Need-slice_bounds-finished-end
part_finished_end c = search rules

finished_requires : tie.Need-finished-requires
finished_requires c κs = search rules

same_length : tie.Need-shape_of-verdicts-then-held-eq0
same_length c = search rules

same_length_2 : tie.Need-shape_of-worked-then-held-eq0
same_length_2 c = search rules

returns : tie.Need-returns-then-held-eq0
returns c =
    let k = c.before.before.before.before.before.before.before.before in
    let s = k.before.before.before.before.before in
    let a = s.args in
    let h = holding a.s a.verdicts.now a.worked.now in
    let f = c.finished.ensures in
    let line : part s ≡ begun a.s ++ part s = (λ i. take (sym k.if-held-eq0.true i) a.s.line ++ part s) in
    (f.0 ∙ ap (λ (l : Text). (finishes base h l).link) line, (f.1.0 ∙ ap (λ (l : Text). (finishes base h l).verdicts) line, f.1.1 ∙ ap (λ (l : Text). (finishes base h l).worked) line))

slice_aggregate_put_text : tie.Need-slice_bounds-put_text-end
slice_aggregate_put_text c = search (rules, long (begins c.before.before))

sub_put_text : tie.Need-slice_bounds-put_text-count
sub_put_text c = search rules

part_put_text_start : tie.Need-slice_bounds-put_text-start
part_put_text_start c = search rules

part_put_text_end : tie.Need-slice_bounds-put_text-end-2
part_put_text_end c = search rules

put_text_requires : tie.Need-put_text-long-requires
put_text_requires c κs = search rules

array_share_prefix_line : tie.Need-slice_bounds-line-end
array_share_prefix_line c =
    let p = c.before in
    let s = (start p).args.s in
    omega (arith, (laid p).place, ap length (laid p).list, written_length s.line s.held (part (start p)) (fits (start p)), fits (start p))

slice_aggregate_finished : tie.Need-slice_bounds-finished-end-2
slice_aggregate_finished c = sym (length-take-le _ _ (array_share_prefix_line c.before))

finished_requires_2 : tie.Need-finished-requires-2
finished_requires_2 c κs = search rules

same_length_3 : tie.Need-shape_of-verdicts
same_length_3 c = search rules

same_length_4 : tie.Need-shape_of-worked
same_length_4 c = search rules

returns_2 : tie.Need-returns
returns_2 c =
    let p = put c in
    let a = (start p).args in
    let h = holding a.s a.verdicts.now a.worked.now in
    let f = c.finished-2.ensures in
    let line = line_is p in
    (f.0 ∙ ap (λ (l : Text). (finishes base h l).link) line, (f.1.0 ∙ ap (λ (l : Text). (finishes base h l).verdicts) line, f.1.1 ∙ ap (λ (l : Text). (finishes base h l).worked) line))

pub joined_spec : {M : Type 1} → statement M
joined_spec =
    tie.close
    (tie.spec
    cast_held
    sub_finished
    part_finished_start
    part_finished_end
    finished_requires
    same_length
    same_length_2
    returns
    slice_aggregate_put_text
    sub_put_text
    part_put_text_start
    part_put_text_end
    put_text_requires
    array_share_prefix_line
    slice_aggregate_finished
    finished_requires_2
    same_length_3
    same_length_4
    returns_2)
