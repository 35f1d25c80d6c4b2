-- What is left of a piece is held, or it is refused.
use Prim.Native.Nat.{◌+◌, ◌-◌, ◌≤◌}
use native.Mathlib.Omega.{arith}
use mathlib.Core.Path.{◌≡◌, sym, ◌∙◌}
use mathlib.Core.Bool.{true}
use lib.ListN.{length}
use borrow.Author.Rules.{rules}
use Rattle.rules.specs.Rules.{base}
use borrow.Author.Tests.{not-true, not-false}
use Rattle.rules.specs.Text.{Text}
use Rattle.reader.specs.Contact.{between}
use Rattle.writer.specs.Written.{Puts}
use Rattle.writer.proofs.WrittenLaws.{part_length}
use Rattle.writer.proofs.TextLaid.{text_laid_lem}
use Rattle.link.specs.Piece.{may_come}
use Rattle.link.proofs.TestLaws.{line_long, hold_returned, hold_stray, hold_over, hold_kept, come_short}
use Rattle.link.proofs.held_on.Statement.{statement}
use Rattle.link.proofs.held_on.Tie as tie

-- The state has room for a line.
long : (c : tie.Start) → length c.args.s.line ≡ 75
long c = search (rules, c.well_formed.0.1.1.1.1.1.1.1.1.1.1.1.1.1)

-- Where a part of a line comes.
abbrev begins : tie.Else-not-may_come → tie.Start
begins c = c.before.before.before.before.before.before

comes : (c : tie.Else-not-may_come) → let a = (begins c).args in may_come base a.s.held a.bytes.now a.at a.end ≡ true
comes c = let m = c.may_come in sym m.ensures ∙ not-false m.result c.if-not-may_come.false-raw

-- The part of the piece is laid behind what is held.
abbrev part : tie.Start → Text
part c = between c.args.bytes.now c.args.at c.args.end

part_long : (c : tie.Start) → length (part c) ≡ c.args.end - c.args.at
part_long c = part_length c.args.bytes.now c.args.at c.args.end c.requires.1 c.requires.2

abbrev start : tie.After-put_text-long → tie.Start
start p = begins p.before.before.before.before.before

short : (p : tie.After-put_text-long) → (start p).args.s.held + ((start p).args.end - (start p).args.at) ≤ 75
short p = let a = (start p).args in omega (arith, line_long, come_short base a.s.held a.bytes.now a.at a.end (comes p.before.before.before.before.before))

laid : (p : tie.After-put_text-long) → Puts (start p).args.s.line (start p).args.s.held (part (start p)) p.put_text-long.new.out p.put_text-long.result
laid p =
    text_laid_lem (start p).args.s.line (start p).args.s.held (part (start p)) (omega (arith, part_long (start p), long (start p), short p)) p.put_text-long.ensures.0 p.put_text-long.ensures.1

stopped_here_requires : tie.Need-stopped_here-requires
stopped_here_requires c κs = search rules

returns : tie.Need-returns-then-s-ne0
returns c = let a = c.args in c.stopped_here.ensures ∙ hold_returned base a.s a.bytes.now a.at a.end a.over c.if-s-ne0.true

cast_held : tie.Need-overflow_cast-held
cast_held c = search rules

may_come_requires : tie.Need-may_come-requires
may_come_requires c κs = search rules

stopped_here_requires_2 : tie.Need-stopped_here-requires-then-not-may_come
stopped_here_requires_2 c κs = search rules

returns_2 : tie.Need-returns-then-not-may_come
returns_2 c =
    let a = c.args in
    let m = c.may_come in
    c.stopped_here-then-not-may_come.ensures
    ∙ hold_stray base a.s a.bytes.now a.at a.end a.over c.if-s-ne0.false (sym m.ensures ∙ not-true m.result c.if-not-may_come.true-raw)

stopped_requires : tie.Need-stopped-requires
stopped_requires c κs = search rules

returns_3 : tie.Need-returns-then-over
returns_3 c =
    let a = (begins c.before.before).args in
    c.stopped.ensures
    ∙ hold_over base a.s a.bytes.now a.at a.end a.over c.if-s-ne0.false (comes c.before.before) c.if-over.true

slice_aggregate_put_text : tie.Need-slice_bounds-put_text-end
slice_aggregate_put_text c = search (rules, long (begins c.before.before.before))

sub_put_text : tie.Need-slice_bounds-put_text-count
sub_put_text c = search rules

part_put_text_start : tie.Need-slice_bounds-put_text-start
part_put_text_start c = search rules

part_put_text_end : tie.Need-slice_bounds-put_text-end-2
part_put_text_end c = search rules

put_text_requires : tie.Need-put_text-long-requires
put_text_requires c κs = search rules

low_requires : tie.Need-low-requires
low_requires c κs = search rules

one_if_more_requires : tie.Need-one_if_more-requires
one_if_more_requires c κs = search rules

held_as_requires : tie.Need-held_as-requires
held_as_requires c κs = search rules

returns_4 : tie.Need-returns
returns_4 c =
    let k = c.before.before.before.before.before.before.before.before in
    let a = (start c.before.before.before.before).args in
    let p = c.before.before.before.before in
    hold_kept base a.s a.bytes.now a.at a.end a.over k.if-s-ne0.false (comes k.before) k.if-over.false
    c.held_as.ensures (c.low.ensures ∙ omega (arith, (laid p).place, part_long (start p), short p)) c.one_if_more.ensures (laid p).list

pub held_on_spec : {M : Type 1} → statement M
held_on_spec =
    tie.close
    (tie.spec
    stopped_here_requires
    returns
    cast_held
    may_come_requires
    stopped_here_requires_2
    returns_2
    stopped_requires
    returns_3
    slice_aggregate_put_text
    sub_put_text
    part_put_text_start
    part_put_text_end
    put_text_requires
    low_requires
    one_if_more_requires
    held_as_requires
    returns_4)
