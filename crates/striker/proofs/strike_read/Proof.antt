-- `striker::strike_read` meets its contract: the result is measured, and where it fits it is put together by its places.
-- Assumes nothing.
use borrow.Author.Rules.{rules}
use native.Mathlib.Omega.{arith}
use mathlib.Core.Path.{◌≡◌, sym, ap, ◌∙◌}
use Prim.Native.Nat.{ℕ, ◌+◌, ◌-◌, ◌^◌, ◌≤◌, ◌<◌}
use lib.ListN.{length, take}
use lib.Seq.{length-take-le}
use Rattle.std.specs.Prelude.{Err}
use Rattle.rules.specs.Log.{count_line}
use Rattle.rules.specs.Rules.{base}
use Rattle.writer.proofs.RecordLoops.{log_small}
use Rattle.writer.proofs.TextLaid.{count_short, word_is, word_fits}
use Rattle.writer.proofs.WrittenLaws.{puts_then, puts_room, puts_as}
use Rattle.striker.proofs.StruckLaws.{in_order, short, few, count_fits, result, body_of, inside, sized, put_together, head_length, few_told, long_told, all_told}
use Rattle.striker.proofs.strike_read.Statement.{statement}
use Rattle.striker.proofs.strike_read.Tie as tie

-- The places of the code, each by the one before it.
abbrev begun : tie.Else-struck-ends → tie.Start
begun c = c.before.before.before.before.before

abbrev measured : tie.After-count_line-was → tie.After-measure-left
measured c = c.before.before

abbrev started : tie.After-count_line-was → tie.Start
started c = begun (measured c).before

abbrev counted : tie.After-count_line-count → tie.After-count_line-was
counted c = c.before.before

abbrev sizes : tie.Else-out-front → tie.After-count_line-count
sizes c = c.before.before

-- As many marks as records.
marked_all : (c : tie.Else-struck-ends)
    → let a = (begun c).args in
    length a.ends.now ≤ length a.struck.now
marked_all c = omega (arith, c.if-struck-ends.false)

-- Where the count line begins.
abbrev front : tie.After-count_line-was → ℕ
front c = (started c).args.first - (c.count_line-was.result + 2)

front_fits : (c : tie.After-count_line-was)
    → let b = started c in
    c.count_line-was.result + 2 ≤ b.args.first
front_fits c = omega (arith, c.count_line-was.ensures.0, count_fits (started c).requires)

front_is : (c : tie.After-count_line-was)
    → let b = started c in
    front c + (length (count_line (length b.args.ends.now)) + 2) ≡ b.args.first
front_is c = omega (arith, c.count_line-was.ensures.0, count_fits (started c).requires)

-- The length that was measured is that of the result.
size_is : (c : tie.After-count_line-count)
    → let k = counted c in
    let b = started k in
    front k + (c.count_line-count.result + 2) + (measured k).measure-left.result.bytes ≡ length (result b.requires b.args.struck.now)
size_is c =
    let k = counted c in
    let b = started k in
    let m = (measured k).measure-left.ensures in
    sized b.requires b.args.struck.now (front k) (front_is k) m.0 c.count_line-count.ensures.0 m.1.0

-- What is left has few records, and so a short count line.
records_small : base.most_records < 2 ^ 32
unfolding base
records_small = omega arith

line_short : (c : tie.After-count_line-count) → c.count_line-count.result ≤ 33
line_short c =
    let k = counted c in
    let n = (measured k).measure-left.result.records in
    let h : n < 2 ^ 64 = omega (arith, (measured k).measure-left.ensures.1.1.0, few (started k).requires, records_small) in
    omega (arith, c.count_line-count.ensures.0, count_short n h)

-- The line that was made is the count line of what is left.
line_is : (c : tie.After-count_line-count)
    → take c.count_line-count.result c.count_line-count.new.out ≡ count_line (measured (counted c)).measure-left.result.records
line_is c = word_is _ (counted c).count_line-was.new.out c.count_line-count.ensures.0 c.count_line-count.ensures.1

-- The result fits the slice.
room : (c : tie.Else-out-front)
    → let b = started (counted (sizes c)) in
    length (result b.requires b.args.struck.now) ≤ length b.args.out.now
room c = omega (arith, size_is (sizes c), c.if-out-front.false)

refused_requires : tie.Need-refused-requires
refused_requires c κs = search rules

returns : tie.Need-returns-then-struck-ends
returns c =
    let b = c in
    let told = few_told b.requires b.args.struck.now b.args.out.now (omega (arith, c.if-struck-ends.true)) in
    (ap Err c.refused.ensures ∙ told.0, told.1)

measure_requires : tie.Need-measure-left-requires
measure_requires c κs = let w = (begun c).requires in (in_order w, marked_all c, short w)

count_line_requires : tie.Need-count_line-was-requires
count_line_requires c κs = search rules

add_front : tie.Need-overflow_add-front
add_front c = omega (arith, front_fits c, (in_order (started c).requires).within, short (started c).requires, log_small)

sub_front : tie.Need-overflow_sub-front
sub_front c = front_fits c

count_line_requires_2 : tie.Need-count_line-count-requires
count_line_requires_2 c κs = search rules

add_if2 : tie.Need-overflow_add-count
add_if2 c = omega (arith, line_short c)

add_if2_2 : tie.Need-overflow_add-front-2
add_if2_2 c =
    let w = (started (counted c)).requires in
    omega (arith, line_short c, (in_order w).within, short w, log_small)

add_if2_3 : tie.Need-overflow_add-front-3
add_if2_3 c =
    let k = counted c.before in
    let w = (started k).requires in
    omega (arith, line_short c.before, (in_order w).within, short w, log_small, (measured k).measure-left.ensures.1.1.1)

refused_requires_2 : tie.Need-refused-requires-then-out-front
refused_requires_2 c κs = search rules

returns_2 : tie.Need-returns-then-out-front
returns_2 c =
    let t = c.before in
    let d = t.before.before in
    let k = counted d in
    let b = started k in
    let told = long_told b.requires b.args.struck.now b.args.out.now (marked_all (measured k).before) (omega (arith, t.if-out-front.true, size_is d)) in
    (ap Err c.refused-then-out-front.ensures ∙ told.0, told.1)

array_share_prefix_line : tie.Need-slice_bounds-line-end
array_share_prefix_line c =
    let d = c.before.before.before in
    word_fits _ (counted d).count_line-was.new.out d.count_line-count.ensures.0 d.count_line-count.ensures.1

slice_aggregate_put_head : tie.Need-slice_bounds-put_head-end
slice_aggregate_put_head c = sym (length-take-le _ _ (array_share_prefix_line c.before))

put_head_requires : tie.Need-put_head-at-requires
put_head_requires c κs =
    let e = c.before.before in
    let d = sizes e in
    let k = counted d in
    let b = started k in
    let within = inside b.requires b.args.struck.now (front k) (front_is k) in
    let long = head_length b.args.log.now (front k) (take d.count_line-count.result d.count_line-count.new.out) within in
    (within, omega (arith, long, ap length (line_is d), d.count_line-count.ensures.0, size_is d, room e))

put_lines_requires : tie.Need-put_lines-requires
put_lines_requires c κs =
    let h = c.before.before.before in
    let e = h.before.before.before in
    let d = sizes e in
    let k = counted d in
    let b = started k in
    let within = inside b.requires b.args.struck.now (front k) (front_is k) in
    let long = head_length b.args.log.now (front k) (take d.count_line-count.result d.count_line-count.new.out) within in
    let body = body_of b.requires b.args.struck.now in
    ((in_order b.requires, marked_all (measured k).before), puts_room h.put_head-at.ensures body (omega (arith, long, ap length (line_is d), d.count_line-count.ensures.0, (measured k).measure-left.ensures.1.0, size_is d, room e)))

same_length : tie.Need-shape_of-out
same_length c = search rules

returns_3 : tie.Need-returns
returns_3 c =
    let l = c.before.before in
    let h = l.before.before.before.before in
    let d = sizes h.before.before.before in
    let k = counted d in
    let b = started k in
    let text = put_together b.requires b.args.struck.now (front k) (front_is k) (measured k).measure-left.ensures.0 (line_is d) in
    all_told b.requires b.args.struck.now (marked_all (measured k).before) (puts_as (puts_then h.put_head-at.ensures l.put_lines.ensures) text)

pub strike_read_spec : {M : Type 1} → statement M
strike_read_spec =
    tie.close
    (tie.spec
    refused_requires
    returns
    measure_requires
    count_line_requires
    add_front
    sub_front
    count_line_requires_2
    add_if2
    add_if2_2
    add_if2_3
    refused_requires_2
    returns_2
    array_share_prefix_line
    slice_aggregate_put_head
    put_head_requires
    put_lines_requires
    same_length
    returns_3)
