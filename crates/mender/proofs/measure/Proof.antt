-- The bytes so far and those of the lines that are left are all bytes.
-- Assumes nothing.
use borrow.Author.Rules.{rules}
use Prim.Native.Nat.{◌+◌, ◌-◌, ◌*◌, ◌≤◌}
use native.Mathlib.Omega.{arith}
use mathlib.Core.List.{List}
use mathlib.Core.Path.{◌≡◌, ap, ◌∙◌}
use lib.ListN.{length}
use Rattle.rules.specs.Log.{ended}
use Rattle.rules.specs.Mending.{MendedLine, texts_of, mended_text}
use Rattle.rules.specs.Rules.{base}
use Rattle.rules.specs.Text.{Text}
use Rattle.reader.proofs.HeadLaws.{log_small}
use Rattle.mender.specs.Lines.{mended_at, Lays}
use Rattle.mender.proofs.TurnLaws.{Walks, walks_from, walks_some, walks_on, walks_turn, walks_end, text_start, no_text, bytes_more}
use Rattle.mender.proofs.measure.Statement.{statement}
use Rattle.mender.proofs.measure.Tie as tie

abbrev invariant-loop : tie.invariant-loop-at
invariant-loop s total bytes₀ region₀ at₀ follow₀ bytes region at follow =
    Walks s at follow
    × (length (mended_text s) ≡ bytes + length (ended (texts_of (mended_at region s at))))
    × (bytes ≤ 35 * at)
    × (length s ≤ base.longest_log)

abbrev decreases-loop : tie.decreases-loop-at
decreases-loop s total bytes₀ region₀ at₀ follow₀ bytes region at follow = length s + 1 - at

-- The places of a turn: its start, and behind the line that is laid.
abbrev text : tie.At-loop-at invariant-loop decreases-loop → Text
text l = l.args.s.now

abbrev looped : tie.After-lay-l invariant-loop decreases-loop → tie.At-loop-at invariant-loop decreases-loop
looped k = k.before.before

laid : (k : tie.After-lay-l invariant-loop decreases-loop) → let l = looped k in Lays l.loop-at.region (text l) l.loop-at.at (l.loop-at.follow - 1) k.lay-l.result
laid k = k.lay-l.ensures

loop_holds : tie.Need-loop-at-init invariant-loop decreases-loop
loop_holds c =
    let b = c in
    (walks_from b.args.s.now b.requires.0, ap length (text_start b.args.s.now) ∙ omega arith, omega arith, b.requires.1)

sub_follow : tie.Need-overflow_sub-follow invariant-loop decreases-loop
sub_follow c = walks_some c.loop-at.invariant.0 c.loop-at-test.true

lay_requires : tie.Need-lay-l-requires invariant-loop decreases-loop
lay_requires c κs = search rules

line_length_requires : tie.Need-line_length-bytes-requires invariant-loop decreases-loop
line_length_requires c κs = (laid c).spans

add_bytes : tie.Need-overflow_add-bytes invariant-loop decreases-loop
add_bytes c =
    let l = looped c.before in
    let k = laid c.before in
    let small : l.loop-at.bytes + c.line_length-bytes.result ≤ 2400000 =
    omega (arith, log_small, l.loop-at.invariant.2, l.loop-at.invariant.3, c.line_length-bytes.ensures.1, k.spans.forth, k.spans.within) in
    search rules

loop_less : tie.Need-loop-at-smaller invariant-loop decreases-loop
loop_less c =
    let k = laid c.before in
    omega (arith, k.spans.forth, k.spans.behind, k.spans.near)

loop_again : tie.Need-loop-at-preserved invariant-loop decreases-loop
loop_again c =
    let l = looped c.before in
    let k = laid c.before in
    let turn = ap (λ (ls : List MendedLine). length (ended (texts_of ls))) (walks_turn l.loop-at.invariant.0 k) in
    let more = bytes_more (text l) l.loop-at.at (l.loop-at.follow - 1) c.lay-l.result (mended_at c.lay-l.result.region (text l) c.lay-l.result.next) in (
      walks_on l.loop-at.invariant.0 k,
      omega (arith, l.loop-at.invariant.1, turn, more, c.line_length-bytes.ensures.0),
      omega (arith, l.loop-at.invariant.2, c.line_length-bytes.ensures.1, k.spans.forth, k.spans.behind),
      l.loop-at.invariant.3,
    )

returns : tie.Need-returns invariant-loop decreases-loop
returns c =
    let l = c.before in
    let none = ap length (no_text (mended_at l.loop-at.region (text l) l.loop-at.at) (walks_end l.loop-at.invariant.0 l.loop-at.region c.loop-at-test.false)) in
    omega (arith, l.loop-at.invariant.1, none)

pub measure_spec : {M : Type 1} → statement M
measure_spec =
    tie.close
    (tie.spec
    invariant-loop
    decreases-loop
    loop_holds
    sub_follow
    lay_requires
    line_length_requires
    add_bytes
    loop_less
    loop_again
    returns)
