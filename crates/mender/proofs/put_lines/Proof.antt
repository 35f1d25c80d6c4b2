-- Each line is laid behind the others, and what was done to it is listed behind the rest of the list.
-- Assumes nothing.
use borrow.Author.Rules.{rules}
use Prim.Native.Nat.{ℕ, ◌+◌, ◌-◌, ◌≤◌}
use native.Mathlib.Omega.{arith}
use mathlib.Core.List.{List, ◌++◌, map}
use mathlib.Core.Path.{◌≡◌, refl, ap, ◌∙◌}
use lib.ListN.{length, length-map}
use Rattle.rules.specs.Log.{crlf, ended}
use Rattle.rules.specs.Mending.{MendedLine, texts_of, mended_text, Change, changes_in, changes_from, changes}
use Rattle.rules.specs.Rules.{base}
use Rattle.rules.specs.Text.{Text}
use Rattle.reader.proofs.HeadLaws.{log_small}
use Rattle.mender.specs.Lines.{mended_at, kinds_of, text_laid, Lays}
use Rattle.mender.proofs.TurnLaws.{Walks, walks_from, walks_some, walks_on, walks_turn, walks_end, text_start, no_text, laid_more, listed_more, list_start, no_list, noted_long, Fills, fills_from, fills_room, fills_on, fills_end}
use Rattle.mender.proofs.put_lines.Statement.{statement}
use Rattle.mender.proofs.put_lines.Tie as tie

abbrev invariant-loop : tie.invariant-loop-at
invariant-loop s total out₀ kinds₀ lines₀ region₀ at₀ line₀ follow₀ to₀ i₀ out kinds lines region at line follow to i =
    Walks s at follow
    × (line ≤ at + 1)
    × (length s ≤ base.longest_log)
    × Fills out₀ (mended_text s) out to (ended (texts_of (mended_at region s at)))
    × Fills kinds₀ (map (λ c. c.kind) (changes s)) kinds i (map (λ c. c.kind) (changes_from line (mended_at region s at)))
    × Fills lines₀ (map (λ c. c.line) (changes s)) lines i (map (λ c. c.line) (changes_from line (mended_at region s at)))

abbrev decreases-loop : tie.decreases-loop-at
decreases-loop s total out₀ kinds₀ lines₀ region₀ at₀ line₀ follow₀ to₀ i₀ out kinds lines region at line follow to i = length s + 1 - at

-- The places of a turn: its start, behind the line that is laid, behind the line that is put, and behind what is noted of it.
abbrev text : tie.At-loop-at invariant-loop decreases-loop → Text
text l = l.args.s.now

abbrev looped : tie.After-lay-l invariant-loop decreases-loop → tie.At-loop-at invariant-loop decreases-loop
looped k = k.before.before

abbrev laid_for : tie.After-put_line-to invariant-loop decreases-loop → tie.After-lay-l invariant-loop decreases-loop
laid_for p = p.before.before

abbrev put_for : tie.After-note-i invariant-loop decreases-loop → tie.After-put_line-to invariant-loop decreases-loop
put_for n = n.before.before.before.before.before

abbrev noted_for : tie.After-note-i-in-loop-at invariant-loop decreases-loop → tie.After-note-i invariant-loop decreases-loop
noted_for m = m.before.before.before.before.before.before.before

laid : (k : tie.After-lay-l invariant-loop decreases-loop) → let l = looped k in Lays l.loop-at.region (text l) l.loop-at.at (l.loop-at.follow - 1) k.lay-l.result
laid k = k.lay-l.ensures

-- The lines behind the one that is laid.
abbrev behind : tie.After-lay-l invariant-loop decreases-loop → List MendedLine
behind k = mended_at k.lay-l.result.region (text (looped k)) k.lay-l.result.next

-- The bytes of the line, what is listed of it first and second, and what is listed behind it.
abbrev line_bytes : tie.After-lay-l invariant-loop decreases-loop → Text
line_bytes k = let l = looped k in text_laid (text l) l.loop-at.at (l.loop-at.follow - 1) k.lay-l.result ++ crlf

abbrev first_done : (Change → ℕ) → tie.After-lay-l invariant-loop decreases-loop → List ℕ
first_done f k = map f (changes_in (looped k).loop-at.line (kinds_of k.lay-l.result.first))

abbrev second_done : (Change → ℕ) → tie.After-lay-l invariant-loop decreases-loop → List ℕ
second_done f k = map f (changes_in (looped k).loop-at.line (kinds_of k.lay-l.result.second))

abbrev done_behind : (Change → ℕ) → tie.After-lay-l invariant-loop decreases-loop → List ℕ
done_behind f k = map f (changes_from ((looped k).loop-at.line + 1) (behind k))

-- What is left to be laid: the line, and what is behind it; and so for the list.
text_left : (k : tie.After-lay-l invariant-loop decreases-loop) → let l = looped k in ended (texts_of (mended_at l.loop-at.region (text l) l.loop-at.at)) ≡ line_bytes k ++ ended (texts_of (behind k))
text_left k =
    let l = looped k in
    ap (λ (ls : List MendedLine). ended (texts_of ls)) (walks_turn l.loop-at.invariant.0 (laid k))
    ∙ laid_more (text l) l.loop-at.at (l.loop-at.follow - 1) k.lay-l.result (behind k)

list_left : (f : Change → ℕ) (k : tie.After-lay-l invariant-loop decreases-loop) → let l = looped k in map f (changes_from l.loop-at.line (mended_at l.loop-at.region (text l) l.loop-at.at)) ≡ first_done f k ++ (second_done f k ++ done_behind f k)
list_left f k =
    let l = looped k in
    ap (λ (ls : List MendedLine). map f (changes_from l.loop-at.line ls)) (walks_turn l.loop-at.invariant.0 (laid k))
    ∙ listed_more (text l) l.loop-at.at (l.loop-at.follow - 1) k.lay-l.result (behind k) f l.loop-at.line

-- The list behind its first entry for the line.
kinds_first : (n : tie.After-note-i invariant-loop decreases-loop) → let k = laid_for (put_for n) in let l = looped k in Fills l.args.kinds.now (map (λ c. c.kind) (changes (text l))) n.note-i.new.kinds n.note-i.result (second_done (λ c. c.kind) k ++ done_behind (λ c. c.kind) k)
kinds_first n =
    let k = laid_for (put_for n) in
    fills_on (looped k).loop-at.invariant.4 (list_left (λ c. c.kind) k) n.note-i.ensures.0

lines_first : (n : tie.After-note-i invariant-loop decreases-loop) → let k = laid_for (put_for n) in let l = looped k in Fills l.args.lines.now (map (λ c. c.line) (changes (text l))) n.note-i.new.lines n.note-i.result (second_done (λ c. c.line) k ++ done_behind (λ c. c.line) k)
lines_first n =
    let k = laid_for (put_for n) in
    fills_on (looped k).loop-at.invariant.5 (list_left (λ c. c.line) k) n.note-i.ensures.1

loop_holds : tie.Need-loop-at-init invariant-loop decreases-loop
loop_holds c =
    let b = c in
    let s = b.args.s.now in (
      walks_from s b.requires.0.0,
      omega arith,
      b.requires.0.1,
      fills_from b.args.out.now (text_start s) b.requires.1.0,
      fills_from b.args.kinds.now (list_start (λ c. c.kind) s) (omega (arith, b.requires.1.1, length-map (changes s) (λ c. c.kind))),
      fills_from b.args.lines.now (list_start (λ c. c.line) s) (omega (arith, b.requires.1.2, length-map (changes s) (λ c. c.line))),
    )

sub_follow : tie.Need-overflow_sub-follow invariant-loop decreases-loop
sub_follow c = walks_some c.loop-at.invariant.0 c.loop-at-test.true

lay_requires : tie.Need-lay-l-requires invariant-loop decreases-loop
lay_requires c κs = search rules

put_line_requires : tie.Need-put_line-to-requires invariant-loop decreases-loop
put_line_requires c κs =
    let k = c.before in
    ((laid k).spans, fills_room (looped k).loop-at.invariant.3 (line_bytes k) (ended (texts_of (behind k))) (text_left k))

note_requires : tie.Need-note-i-requires invariant-loop decreases-loop
note_requires c κs =
    let k = c.before.before.before.before.before.before in
    let l = looped k in
    let ks = kinds_of k.lay-l.result.first in (
      omega (arith, fills_room l.loop-at.invariant.4 (first_done (λ c. c.kind) k) (second_done (λ c. c.kind) k ++ done_behind (λ c. c.kind) k) (list_left (λ c. c.kind) k), noted_long (λ c. c.kind) l.loop-at.line ks),
      omega (arith, fills_room l.loop-at.invariant.5 (first_done (λ c. c.line) k) (second_done (λ c. c.line) k ++ done_behind (λ c. c.line) k) (list_left (λ c. c.line) k), noted_long (λ c. c.line) l.loop-at.line ks),
    )

note_requires_2 : tie.Need-note-i-requires-in-loop-at invariant-loop decreases-loop
note_requires_2 c κs =
    let n = c.before.before.before.before.before.before in
    let k = laid_for (put_for n) in
    let l = looped k in
    let ks = kinds_of k.lay-l.result.second in (
      omega (arith, fills_room (kinds_first n) (second_done (λ c. c.kind) k) (done_behind (λ c. c.kind) k) refl, noted_long (λ c. c.kind) l.loop-at.line ks),
      omega (arith, fills_room (lines_first n) (second_done (λ c. c.line) k) (done_behind (λ c. c.line) k) refl, noted_long (λ c. c.line) l.loop-at.line ks),
    )

add_line : tie.Need-overflow_add-line invariant-loop decreases-loop
add_line c =
    let l = looped (laid_for (put_for (noted_for c.before.before.before.before))) in
    let few : l.loop-at.line + 1 ≤ 70000 = omega (arith, log_small, l.loop-at.invariant.1, l.loop-at.invariant.2, l.loop-at.invariant.0.near) in
    search rules

loop_less : tie.Need-loop-at-smaller invariant-loop decreases-loop
loop_less c =
    let k = laid (laid_for (put_for (noted_for c.before.before.before.before))) in
    omega (arith, k.spans.forth, k.spans.behind, k.spans.near)

loop_again : tie.Need-loop-at-preserved invariant-loop decreases-loop
loop_again c =
    let m = c.before.before.before.before in
    let n = noted_for m in
    let p = put_for n in
    let k = laid_for p in
    let l = looped k in (
      walks_on l.loop-at.invariant.0 (laid k),
      omega (arith, l.loop-at.invariant.1, (laid k).spans.forth, (laid k).spans.behind),
      l.loop-at.invariant.2,
      fills_on l.loop-at.invariant.3 (text_left k) p.put_line-to.ensures,
      fills_on (kinds_first n) refl m.note-i-in-loop-at.ensures.0,
      fills_on (lines_first n) refl m.note-i-in-loop-at.ensures.1,
    )

same_length : tie.Need-shape_of-out invariant-loop decreases-loop
same_length c = c.loop-at.invariant.3.same

same_length_2 : tie.Need-shape_of-kinds invariant-loop decreases-loop
same_length_2 c = c.loop-at.invariant.4.same

same_length_3 : tie.Need-shape_of-lines invariant-loop decreases-loop
same_length_3 c = c.loop-at.invariant.5.same

returns : tie.Need-returns invariant-loop decreases-loop
returns c =
    let l = c in
    let none = walks_end l.loop-at.invariant.0 l.loop-at.region c.loop-at-test.false in
    (fills_end l.loop-at.invariant.3 (no_text _ none), (fills_end l.loop-at.invariant.4 (no_list (λ c. c.kind) _ _ none), fills_end l.loop-at.invariant.5 (no_list (λ c. c.line) _ _ none)))

pub put_lines_spec : {M : Type 1} → statement M
put_lines_spec =
    tie.close
    (tie.spec
    invariant-loop
    decreases-loop
    loop_holds
    sub_follow
    lay_requires
    put_line_requires
    note_requires
    note_requires_2
    add_line
    loop_less
    loop_again
    same_length
    same_length_2
    same_length_3
    returns)
