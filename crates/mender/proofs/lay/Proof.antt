-- What is done to a line by where it lies: in the head, among the remarks, behind the count line.
-- Assumes nothing.
use borrow.Author.Rules.{rules}
use Prim.Native.Nat.{ℕ}
use mathlib.Core.Path.{sym, ◌∙◌}
use Rattle.rules.specs.Log.{count_start}
use Rattle.mender.specs.Lines.{Cuts}
use Rattle.mender.proofs.LayLaws.{lays_as, head_remarks, head_other, remark_other, count_lays, count_long, record_kept, record_trimmed}
use Rattle.mender.proofs.lay.Statement.{statement}
use Rattle.mender.proofs.lay.Tie as tie

-- The places of the code: where the line is cut, and behind what is asked in each of the three regions.
abbrev begun : tie.After-cut_at-c → tie.Start
begun k = k.before.before

abbrev in_head : tie.After-same_text → tie.After-cut_at-c
in_head t = t.before.before.before.before.before

abbrev in_remarks : tie.After-begins_with → tie.After-cut_at-c
in_remarks t = t.before.before.before.before.before

abbrev in_records : tie.After-trimmed_end-last → tie.After-cut_at-c
in_records t = t.before.before

abbrev follow : tie.After-cut_at-c → ℕ
follow k = (begun k).args.follow

cut : (k : tie.After-cut_at-c) → Cuts (begun k).args.s.now (begun k).args.at k.cut_at-c.result
cut k = k.cut_at-c.ensures

cut_at_requires : tie.Need-cut_at-c-requires
cut_at_requires c κs = search rules

enum_told : tie.Need-enum_told-1
enum_told c = search rules

sub_same_text : tie.Need-slice_bounds-same_text-count
sub_same_text c = (cut c.before).spans.forth

part_same_text_start : tie.Need-slice_bounds-same_text-start
part_same_text_start c = (cut c.before).spans.forth

part_same_text_end : tie.Need-slice_bounds-same_text-end
part_same_text_end c = (cut c.before).spans.within

same_text_requires : tie.Need-same_text-requires
same_text_requires c κs = search rules

laid_as_requires : tie.Need-laid_as-requires
laid_as_requires c κs = search rules

returns : tie.Need-returns-then-same_text
returns c =
    let t = c.before.before in
    let k = in_head t in
    lays_as (head_remarks (cut k) (follow k) t.same_text.ensures c.if-same_text.true) t.in-Head.is c.laid_as.ensures

laid_as_requires_2 : tie.Need-laid_as-requires-in-Head
laid_as_requires_2 c κs = search rules

enum_told_2 : tie.Need-enum_told-in-Remarks
enum_told_2 c = search rules

sub_begins_with : tie.Need-slice_bounds-begins_with-count
sub_begins_with c = (cut c.before.before.before).spans.forth

part_begins_with_start : tie.Need-slice_bounds-begins_with-start
part_begins_with_start c = (cut c.before.before.before).spans.forth

part_begins_with_end : tie.Need-slice_bounds-begins_with-end-in-Remarks
part_begins_with_end c = (cut c.before.before.before).spans.within

begins_with_requires : tie.Need-begins_with-requires
begins_with_requires c κs = search rules

sub_count_done : tie.Need-slice_bounds-count_done-count
sub_count_done c = (cut c.before.before.before.before.before.before).spans.forth

part_count_done_start : tie.Need-slice_bounds-count_done-start
part_count_done_start c = (cut c.before.before.before.before.before.before).spans.forth

part_count_done_end : tie.Need-slice_bounds-count_done-end
part_count_done_end c = (cut c.before.before.before.before.before.before).spans.within

count_done_requires : tie.Need-count_done-requires
unfolding count_start
count_done_requires c κs =
    let t = c.before.before in
    let k = in_remarks t in
    count_long (cut k) (follow k) (sym t.begins_with.ensures ∙ c.if-begins_with.true)

laid_as_requires_3 : tie.Need-laid_as-requires-then-begins_with
laid_as_requires_3 c κs = search rules

returns_2 : tie.Need-returns-then-begins_with
unfolding count_start
returns_2 c =
    let t = c.before.before.before.before in
    let k = in_remarks t in
    lays_as (count_lays (cut k) (follow k) (sym t.begins_with.ensures ∙ c.if-begins_with.true) c.count_done.ensures) t.in-Remarks.is c.laid_as-then-begins_with.ensures

laid_as_requires_4 : tie.Need-laid_as-requires-in-Remarks
laid_as_requires_4 c κs = search rules

enum_told_3 : tie.Need-enum_told-in-Records
enum_told_3 c = search rules

trimmed_end_requires : tie.Need-trimmed_end-last-requires
trimmed_end_requires c κs = ((cut c.before).spans.forth, (cut c.before).spans.within)

laid_as_requires_5 : tie.Need-laid_as-requires-then-last-end
laid_as_requires_5 c κs = search rules

returns_3 : tie.Need-returns-then-last-end
returns_3 c =
    let t = c.before.before in
    let k = in_records t in
    lays_as (record_trimmed (cut k) (follow k) t.trimmed_end-last.ensures c.if-last-end.true) t.in-Records.is c.laid_as-then-last-end.ensures

laid_as_requires_6 : tie.Need-laid_as-requires-in-Records
laid_as_requires_6 c κs = search rules

returns_4 : tie.Need-returns-else-same_text
returns_4 c =
    let t = c.before.before in
    let k = in_head t in
    lays_as (head_other (cut k) (follow k) t.same_text.ensures c.if-same_text.false) t.in-Head.is c.laid_as-in-Head.ensures

returns_5 : tie.Need-returns-else-begins_with
unfolding count_start
returns_5 c =
    let t = c.before.before in
    let k = in_remarks t in
    lays_as (remark_other (cut k) (follow k) (sym t.begins_with.ensures ∙ c.if-begins_with.false)) t.in-Remarks.is c.laid_as-in-Remarks.ensures

returns_6 : tie.Need-returns-else-last-end
returns_6 c =
    let t = c.before.before in
    let k = in_records t in
    lays_as (record_kept (cut k) (follow k) t.trimmed_end-last.ensures c.if-last-end.false) t.in-Records.is c.laid_as-in-Records.ensures

pub lay_spec : {M : Type 1} → statement M
lay_spec =
    tie.close
    (tie.spec
    cut_at_requires
    enum_told
    sub_same_text
    part_same_text_start
    part_same_text_end
    same_text_requires
    laid_as_requires
    returns
    laid_as_requires_2
    enum_told_2
    sub_begins_with
    part_begins_with_start
    part_begins_with_end
    begins_with_requires
    sub_count_done
    part_count_done_start
    part_count_done_end
    count_done_requires
    laid_as_requires_3
    returns_2
    laid_as_requires_4
    enum_told_3
    trimmed_end_requires
    laid_as_requires_5
    returns_3
    laid_as_requires_6
    returns_4
    returns_5
    returns_6)
