-- From line to line, and what is left is held.
use Prim.Native.Nat.{ℕ, ◌-◌, ◌≤◌, ◌<◌}
use native.Mathlib.Omega.{arith}
use mathlib.Core.Path.{◌≡◌, refl, sym, ap, ◌∙◌}
use mathlib.Core.Bool.{Bool, true, false}
use mathlib.Core.List.{◌++◌}
use lib.ListN.{length}
use borrow.Author.Rules.{rules}
use borrow.Author.Tests.{eq-eqb, ne_eqb, not-true, not-false}
use Rattle.rules.specs.Text.{Text}
use Rattle.rules.specs.Rules.{base}
use Rattle.reader.specs.Contact.{between}
use Rattle.link.specs.Link.{Holding, holding, begun, due_of, is_end, finishes, bytes_in, overrun}
use Rattle.link.specs.Piece.{is_ended}
use Rattle.link.proofs.PieceLaws.{run_inside, ends_there}
use Rattle.link.proofs.TestLaws.{line_long}
use Rattle.link.proofs.WalkLaws.{Walks, walks_from, walks_over, walks_end, walks_beyond, walks_held, walks_refused, walks_on}
use Rattle.link.proofs.went.Statement.{statement}
use Rattle.link.proofs.went.Tie as tie

abbrev invariant-loop : tie.invariant-loop-at
invariant-loop bytes over verdicts₀ worked₀ t₀ at₀ verdicts worked t at =
    Walks base over bytes (holding t₀ verdicts₀ worked₀) (holding t verdicts worked) at
    × (length verdicts ≡ length verdicts₀)
    × (length worked ≡ length worked₀)

abbrev decreases-loop : tie.decreases-loop-at
decreases-loop bytes over verdicts₀ worked₀ t₀ at₀ verdicts worked t at = length bytes - at

-- The state has room for a line.
long : (c : tie.Start invariant-loop decreases-loop) → length c.args.s.line ≡ 75
long c = search (rules, c.well_formed.0.1.1.1.1.1.1.1.1.1.1.1.1.1)

-- At a line: the piece, what the call had, and what is held.
abbrev text : tie.At-loop-at invariant-loop decreases-loop → Text
text l = l.args.bytes.now

abbrev over : tie.At-loop-at invariant-loop decreases-loop → Bool
over l = l.args.over

abbrev first : tie.At-loop-at invariant-loop decreases-loop → Holding
first l = let a = l.args in holding a.s a.verdicts.now a.worked.now

abbrev held : tie.At-loop-at invariant-loop decreases-loop → Holding
held l = holding l.loop-at.t l.loop-at.verdicts l.loop-at.worked

abbrev came : tie.At-loop-at invariant-loop decreases-loop → Holding
came l = overrun (over l) (bytes_in base (first l) (text l))

walks : (l : tie.At-loop-at invariant-loop decreases-loop) → Walks base (over l) (text l) (first l) (held l) l.loop-at.at
walks l = l.loop-at.invariant.0

-- Where the characters of a line end that is coming.
abbrev looped : tie.After-run_end-end invariant-loop decreases-loop → tie.At-loop-at invariant-loop decreases-loop
looped p = p.before.before.before.before

inside : (p : tie.After-run_end-end invariant-loop decreases-loop) → (looped p).loop-at.at < length (text (looped p))
inside p = p.loop-at-test.true

line : (p : tie.After-run_end-end invariant-loop decreases-loop) → is_end (due_of (looped p).loop-at.t) ≡ false
line p = sym p.is_complete.ensures ∙ p.if-is_complete.false

abbrev end : tie.After-run_end-end invariant-loop decreases-loop → ℕ
end p = p.run_end-end.result

spans : (p : tie.After-run_end-end invariant-loop decreases-loop) → ((looped p).loop-at.at ≤ end p) × (end p ≤ length (text (looped p)))
spans p =
    let l = looped p in
    let k = run_inside l.loop-at.t.returned (text l) l.loop-at.at (walks l).within in
    (omega (arith, p.run_end-end.ensures, k.0), omega (arith, p.run_end-end.ensures, k.1))

-- The line ends there.
abbrev ran : tie.Else-not-is_ended invariant-loop decreases-loop → tie.After-run_end-end invariant-loop decreases-loop
ran c = c.before.before.before

ends : (c : tie.Else-not-is_ended invariant-loop decreases-loop) → let l = looped (ran c) in is_ended base l.loop-at.t.held l.loop-at.t.returned (text l) l.loop-at.at (end (ran c)) ≡ true
ends c = let k = c.is_ended in sym k.ensures ∙ not-false k.result c.if-not-is_ended.false-raw

-- It is finished.
abbrev ended : tie.After-joined-t invariant-loop decreases-loop → tie.Else-not-is_ended invariant-loop decreases-loop
ended j = j.before.before.before.before

abbrev ran_to : tie.After-joined-t invariant-loop decreases-loop → tie.After-run_end-end invariant-loop decreases-loop
ran_to j = ran (ended j)

abbrev line_at : tie.After-joined-t invariant-loop decreases-loop → tie.At-loop-at invariant-loop decreases-loop
line_at j = looped (ran_to j)

abbrev after : tie.After-joined-t invariant-loop decreases-loop → Holding
after j = holding j.joined-t.result j.joined-t.new.verdicts j.joined-t.new.worked

finished : (j : tie.After-joined-t invariant-loop decreases-loop) → let l = line_at j in after j ≡ finishes base (held l) (begun l.loop-at.t ++ between (text l) l.loop-at.at (end (ran_to j)))
finished j = let e = j.joined-t.ensures in λ i. holding (e.0 i) (e.1.0 i) (e.1.1 i)

same_verdicts_lem : (j : tie.After-joined-t invariant-loop decreases-loop) → length (after j).verdicts ≡ length (first (line_at j)).verdicts
same_verdicts_lem j = j.joined-t.auto.verdicts ∙ (line_at j).loop-at.invariant.1

same_worked : (j : tie.After-joined-t invariant-loop decreases-loop) → length (after j).worked ≡ length (first (line_at j)).worked
same_worked j = j.joined-t.auto.worked ∙ (line_at j).loop-at.invariant.2

loop_holds : tie.Need-loop-at-init invariant-loop decreases-loop
loop_holds c =
    let s = c.before.before.before in
    (walks_from base s.args.over s.args.bytes.now (holding s.args.s s.args.verdicts.now s.args.worked.now) s.requires.0 (omega (arith, line_long, s.requires.1)) (omega (arith, line_long, long s)) (omega (arith, s.requires.2)), refl, refl)

is_complete_requires : tie.Need-is_complete-requires invariant-loop decreases-loop
is_complete_requires c κs = search rules

stopped_here_requires : tie.Need-stopped_here-requires invariant-loop decreases-loop
stopped_here_requires c κs = let w = walks c.before.before.before in omega (arith, w.lines)

same_length : tie.Need-shape_of-verdicts-then-is_complete invariant-loop decreases-loop
same_length c = search rules

same_length_2 : tie.Need-shape_of-worked-then-is_complete invariant-loop decreases-loop
same_length_2 c = search rules

returns : tie.Need-returns-then-is_complete invariant-loop decreases-loop
returns c =
    let l = c.before.before.before.before in
    let e = walks_beyond base (over l) (text l) (first l) (held l) l.loop-at.at (walks l) c.loop-at-test.true (sym c.is_complete.ensures ∙ c.if-is_complete.true) in
    (c.stopped_here.ensures ∙ ap (λ (h : Holding). h.link) e, (ap (λ (h : Holding). h.verdicts) e, ap (λ (h : Holding). h.worked) e))

run_end_requires : tie.Need-run_end-end-requires invariant-loop decreases-loop
run_end_requires c κs = (walks c.before.before.before).within

cast_is_ended : tie.Need-overflow_cast-t invariant-loop decreases-loop
cast_is_ended c = search rules

is_ended_requires : tie.Need-is_ended-requires invariant-loop decreases-loop
is_ended_requires c κs =
    let p = c.before in
    (inside p, (spans p).0, (spans p).1, omega (arith, line_long, (walks (looped p)).few))

held_on_requires : tie.Need-held_on-requires invariant-loop decreases-loop
held_on_requires c κs =
    let p = c.before.before.before in
    (omega (arith, (walks (looped p)).lines), (spans p).0, (spans p).1, omega (arith, line_long, (walks (looped p)).few))

same_length_3 : tie.Need-shape_of-verdicts-then-not-is_ended invariant-loop decreases-loop
same_length_3 c = search rules

same_length_4 : tie.Need-shape_of-worked-then-not-is_ended invariant-loop decreases-loop
same_length_4 c = search rules

returns_2 : tie.Need-returns-then-not-is_ended invariant-loop decreases-loop
returns_2 c =
    let p = c.before.before.before.before in
    let l = looped p in
    let k = c.is_ended in
    let e = walks_held base (over l) (text l) (first l) (held l) l.loop-at.at (walks l) (inside p) (line p) (end p) p.run_end-end.ensures (sym k.ensures ∙ not-true k.result c.if-not-is_ended.true-raw) in
    (c.held_on.ensures ∙ ap (λ (h : Holding). h.link) e, (ap (λ (h : Holding). h.verdicts) e, ap (λ (h : Holding). h.worked) e))

behind_requires : tie.Need-behind-next-requires invariant-loop decreases-loop
behind_requires c κs =
    let p = ran c in
    omega (arith, (spans p).1, (walks (looped p)).lines, (walks (looped p)).within)

joined_requires : tie.Need-joined-t-requires invariant-loop decreases-loop
joined_requires c κs =
    let b = c.before.before.before in
    let p = ran b in
    let l = looped p in
    let k = ends_there base l.loop-at.t (text l) l.loop-at.at (end p) (walks l).few (inside p) p.run_end-end.ensures (ends b) in
    (omega (arith, (walks l).lines), line p, (spans p).0, (spans p).1, omega (arith, line_long, k.room))

same_length_5 : tie.Need-shape_of-verdicts-then-t-ne0 invariant-loop decreases-loop
same_length_5 c = same_verdicts_lem c.before.before.before.before.before.before

same_length_6 : tie.Need-shape_of-worked-then-t-ne0 invariant-loop decreases-loop
same_length_6 c = same_worked c.before.before.before.before.before.before

returns_3 : tie.Need-returns-then-t-ne0 invariant-loop decreases-loop
returns_3 c =
    let j = c.before.before.before.before.before.before in
    let p = ran_to j in
    let l = line_at j in
    let e = walks_refused base (over l) (text l) (first l) (held l) l.loop-at.at (walks l) (inside p) (line p) (end p) p.run_end-end.ensures (ends (ended j)) (after j) (finished j) (ne_eqb j.joined-t.result.refusal.number 0 c.if-t-ne0.true) in
    (ap (λ (h : Holding). h.link) e, (ap (λ (h : Holding). h.verdicts) e, ap (λ (h : Holding). h.worked) e))

loop_less : tie.Need-loop-at-smaller invariant-loop decreases-loop
loop_less c =
    let j = c.before.before.before.before.before.before in
    let p = ran_to j in
    let l = line_at j in
    let k = ends_there base l.loop-at.t (text l) l.loop-at.at (end p) (walks l).few (inside p) p.run_end-end.ensures (ends (ended j)) in
    omega (arith, j.behind-next.ensures, k.forth, k.inside)

loop_again : tie.Need-loop-at-preserved invariant-loop decreases-loop
loop_again c =
    let j = c.before.before.before.before.before.before in
    let p = ran_to j in
    let l = line_at j in
    (walks_on base (over l) (text l) (first l) (held l) l.loop-at.at (walks l) (inside p) (line p) (end p) p.run_end-end.ensures (ends (ended j)) (after j) (finished j) j.behind-next.result j.behind-next.ensures (eq-eqb j.joined-t.result.refusal.number 0 c.if-t-ne0.false) (omega (arith, line_long)), same_verdicts_lem j, same_worked j)

stopped_requires : tie.Need-stopped-requires invariant-loop decreases-loop
stopped_requires c κs = search rules

same_length_7 : tie.Need-shape_of-verdicts-then-over invariant-loop decreases-loop
same_length_7 c = search rules

same_length_8 : tie.Need-shape_of-worked-then-over invariant-loop decreases-loop
same_length_8 c = search rules

returns_4 : tie.Need-returns-then-over invariant-loop decreases-loop
returns_4 c =
    let l = c.before.before.before in
    let e = walks_over base (over l) (text l) (first l) (held l) l.loop-at.at (walks l) c.loop-at-test.false c.if-over.true in
    (c.stopped.ensures ∙ ap (λ (h : Holding). h.link) e, (ap (λ (h : Holding). h.verdicts) e, ap (λ (h : Holding). h.worked) e))

same_length_9 : tie.Need-shape_of-verdicts invariant-loop decreases-loop
same_length_9 c = search rules

same_length_10 : tie.Need-shape_of-worked invariant-loop decreases-loop
same_length_10 c = search rules

returns_5 : tie.Need-returns invariant-loop decreases-loop
returns_5 c =
    let l = c.before.before in
    let e = walks_end base (over l) (text l) (first l) (held l) l.loop-at.at (walks l) c.loop-at-test.false c.if-over.false in
    (ap (λ (h : Holding). h.link) e, (ap (λ (h : Holding). h.verdicts) e, ap (λ (h : Holding). h.worked) e))

pub went_spec : {M : Type 1} → statement M
went_spec =
    tie.close
    (tie.spec
    invariant-loop
    decreases-loop
    loop_holds
    is_complete_requires
    stopped_here_requires
    same_length
    same_length_2
    returns
    run_end_requires
    cast_is_ended
    is_ended_requires
    held_on_requires
    same_length_3
    same_length_4
    returns_2
    behind_requires
    joined_requires
    same_length_5
    same_length_6
    returns_3
    loop_less
    loop_again
    stopped_requires
    same_length_7
    same_length_8
    returns_4
    same_length_9
    same_length_10
    returns_5)
