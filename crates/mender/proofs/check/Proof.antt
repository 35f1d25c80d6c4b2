-- The lines are read one after the other, and what is told of the rest is told of the whole.
-- Assumes nothing.
use borrow.Author.Rules.{rules}
use Prim.Native.Nat.{◌+◌, ◌-◌, ◌*◌, ◌≤◌}
use native.Mathlib.Omega.{arith}
use mathlib.Core.List.{◌∷◌}
use mathlib.Core.Path.{◌≡◌, sym, ap, ◌∙◌}
use lib.ListN.{length}
use Rattle.std.specs.Prelude.{Ok, Err}
use Rattle.rules.specs.Rules.{base}
use Rattle.rules.specs.Text.{Text}
use Rattle.reader.proofs.HeadLaws.{log_small}
use Rattle.mender.specs.Checking.{line_next, checked_from, checked_of}
use Rattle.mender.specs.Lines.{mended_at, text_laid, line_laid, Lays}
use Rattle.mender.proofs.TurnLaws.{Walks, walks_from, walks_some, walks_on, walks_turn, walks_end, checked_from_lem, checked_end, checked_stop, checked_go}
use Rattle.mender.proofs.check.Statement.{statement}
use Rattle.mender.proofs.check.Tie as tie

abbrev invariant-loop : tie.invariant-loop-at
invariant-loop s total due₀ region₀ at₀ line₀ follow₀ bytes₀ listed₀ due region at line follow bytes listed =
    Walks s at follow
    × (checked_of base s ≡ checked_from base due line bytes listed (mended_at region s at))
    × (line ≤ at + 1)
    × (bytes ≤ 35 * at)
    × (listed ≤ 2 * at)
    × (follow ≤ length s)
    × (length s ≤ base.longest_log)

abbrev decreases-loop : tie.decreases-loop-at
decreases-loop s total due₀ region₀ at₀ line₀ follow₀ bytes₀ listed₀ due region at line follow bytes listed = length s + 1 - at

-- The places of a turn: its start, and behind the line that is laid.
abbrev text : tie.At-loop-at invariant-loop decreases-loop → Text
text l = l.args.s.now

abbrev looped : tie.After-lay-l invariant-loop decreases-loop → tie.At-loop-at invariant-loop decreases-loop
looped k = k.before.before

laid : (k : tie.After-lay-l invariant-loop decreases-loop) → let l = looped k in Lays l.loop-at.region (text l) l.loop-at.at (l.loop-at.follow - 1) k.lay-l.result
laid k = k.lay-l.ensures

-- What is laid, and what follows from it, behind the step.
abbrev stepped : tie.In-Ok invariant-loop decreases-loop → tie.After-laid_next invariant-loop decreases-loop
stepped g = g.before

goes : (g : tie.In-Ok invariant-loop decreases-loop) → let k = (stepped g).before in let l = looped k in line_next base l.loop-at.due (text_laid (text l) l.loop-at.at (l.loop-at.follow - 1) k.lay-l.result) ≡ Ok g.in-Ok.next
goes g = sym (stepped g).laid_next.ensures ∙ g.in-Ok.is

-- The lines that are left: the one that is laid, and those behind it.
turned : (k : tie.After-lay-l invariant-loop decreases-loop) → let l = looped k in checked_of base (text l) ≡ checked_from base l.loop-at.due l.loop-at.line l.loop-at.bytes l.loop-at.listed (line_laid (text l) l.loop-at.at (l.loop-at.follow - 1) k.lay-l.result ∷ mended_at k.lay-l.result.region (text l) k.lay-l.result.next)
turned k =
    let l = looped k in
    l.loop-at.invariant.1 ∙ ap (checked_from base l.loop-at.due l.loop-at.line l.loop-at.bytes l.loop-at.listed) (walks_turn l.loop-at.invariant.0 (laid k))

loop_holds : tie.Need-loop-at-init invariant-loop decreases-loop
loop_holds c =
    let b = c in
    (walks_from b.args.s.now b.requires.0, checked_from_lem base b.args.s.now, omega arith, omega arith, omega arith, b.requires.2, b.requires.1)

sub_follow : tie.Need-overflow_sub-follow invariant-loop decreases-loop
sub_follow c = walks_some c.loop-at.invariant.0 c.loop-at-test.true

lay_requires : tie.Need-lay-l-requires invariant-loop decreases-loop
lay_requires c κs = search rules

laid_next_requires : tie.Need-laid_next-requires invariant-loop decreases-loop
laid_next_requires c κs =
    let l = looped c in
    ((laid c).spans, (laid c).clean, omega (arith, l.loop-at.invariant.5, l.loop-at.invariant.6))

enum_known_fault : tie.Need-enum_known-fault invariant-loop decreases-loop
enum_known_fault c = search rules

at_requires : tie.Need-at-requires invariant-loop decreases-loop
at_requires c κs = search rules

returns : tie.Need-returns-in-Err invariant-loop decreases-loop
returns c =
    let r = c.before in
    let n = r.before in
    let k = n.before in
    let l = looped k in
    ap Err c.at.ensures
    ∙ sym (turned k ∙ checked_stop base _ _ _ _ (text l) l.loop-at.at (l.loop-at.follow - 1) k.lay-l.result _ (sym n.laid_next.ensures ∙ r.in-Err.is))

enum_known_next : tie.Need-enum_known-next invariant-loop decreases-loop
enum_known_next c = search rules

line_length_requires : tie.Need-line_length-bytes-requires invariant-loop decreases-loop
line_length_requires c κs = (laid (stepped c).before).spans

add_bytes : tie.Need-overflow_add-bytes invariant-loop decreases-loop
add_bytes c =
    let k = (stepped c.before).before in
    let l = looped k in
    let small : l.loop-at.bytes + c.line_length-bytes.result ≤ 2400000 =
    omega (arith, log_small, l.loop-at.invariant.3, l.loop-at.invariant.6, c.line_length-bytes.ensures.1, (laid k).spans.forth, (laid k).spans.within) in
    search rules

one_if_requires : tie.Need-one_if-requires invariant-loop decreases-loop
one_if_requires c κs = search rules

one_if_requires_2 : tie.Need-one_if-requires-in-Ok invariant-loop decreases-loop
one_if_requires_2 c κs = search rules

add_listed : tie.Need-overflow_add-listed invariant-loop decreases-loop
add_listed c =
    let few : c.one_if.result + c.one_if-in-Ok.result ≤ 2 = omega (arith, c.one_if.ensures.1, c.one_if-in-Ok.ensures.1) in
    search rules

add_listed_2 : tie.Need-overflow_add-listed-in-Ok invariant-loop decreases-loop
add_listed_2 c =
    let l = looped (stepped c.before.before.before).before in
    let few : l.loop-at.listed + (c.one_if.result + c.one_if-in-Ok.result) ≤ 200000 =
    omega (arith, log_small, l.loop-at.invariant.4, l.loop-at.invariant.6, l.loop-at.invariant.0.near, c.one_if.ensures.1, c.one_if-in-Ok.ensures.1) in
    search rules

add_line : tie.Need-overflow_add-line invariant-loop decreases-loop
add_line c =
    let l = looped (stepped c.before.before.before).before in
    let few : l.loop-at.line + 1 ≤ 70000 = omega (arith, log_small, l.loop-at.invariant.2, l.loop-at.invariant.6, l.loop-at.invariant.0.near) in
    search rules

loop_less : tie.Need-loop-at-smaller invariant-loop decreases-loop
loop_less c =
    let k = laid (stepped c.before.before.before).before in
    omega (arith, k.spans.forth, k.spans.behind, k.spans.near)

loop_again : tie.Need-loop-at-preserved invariant-loop decreases-loop
loop_again c =
    let g = c.before.before.before in
    let b = c.line_length-bytes.ensures in
    let k = (stepped g).before in
    let l = looped k in
    let p = (laid k).spans in (
      walks_on l.loop-at.invariant.0 (laid k),
      turned k ∙ checked_go base _ _ _ _ (text l) l.loop-at.at (l.loop-at.follow - 1) k.lay-l.result _ (goes g) b.0 c.one_if.ensures.0 c.one_if-in-Ok.ensures.0,
      omega (arith, l.loop-at.invariant.2, p.forth, p.behind),
      omega (arith, l.loop-at.invariant.3, b.1, p.forth, p.behind),
      omega (arith, l.loop-at.invariant.4, c.one_if.ensures.1, c.one_if-in-Ok.ensures.1, p.forth, p.behind),
      omega (arith, l.loop-at.invariant.5),
      l.loop-at.invariant.6,
    )

rest_told_requires : tie.Need-rest_told-requires invariant-loop decreases-loop
rest_told_requires c κs = search rules

returns_2 : tie.Need-returns invariant-loop decreases-loop
returns_2 c =
    let l = c in
    c.rest_told.ensures ∙ checked_end base _ _ _ _ _ (walks_end l.loop-at.invariant.0 l.loop-at.region c.loop-at-test.false) ∙ sym l.loop-at.invariant.1

pub check_spec : {M : Type 1} → statement M
check_spec =
    tie.close
    (tie.spec
    invariant-loop
    decreases-loop
    loop_holds
    sub_follow
    lay_requires
    laid_next_requires
    enum_known_fault
    at_requires
    returns
    enum_known_next
    line_length_requires
    add_bytes
    one_if_requires
    one_if_requires_2
    add_listed
    add_listed_2
    add_line
    loop_less
    loop_again
    rest_told_requires
    returns_2)
