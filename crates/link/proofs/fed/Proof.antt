-- The call refuses, or it takes the bytes.
use Prim.Native.Nat.{◌≤◌}
use native.Mathlib.Omega.{arith}
use mathlib.Core.Path.{◌≡◌, refl, sym, ap, ◌∙◌}
use mathlib.Core.Bool.{true, false}
use lib.ListN.{length, get_or}
use borrow.Author.Rules.{rules}
use borrow.Author.Tests.{eq-eqb, ne_eqb, not-true, not-false}
use Rattle.rules.specs.Text.{Text}
use Rattle.rules.specs.Rules.{base}
use Rattle.rules.specs.Reading.{refusal}
use Rattle.link.specs.Link.{Holding, holding, stopped_by, is_open, lent_by, is_sound, asked, taken}
use Rattle.link.specs.Piece.{takes_byte}
use Rattle.link.proofs.TestLaws.{line_long, takes_byte_lem}
use Rattle.link.proofs.CallLaws.{asked_refused, asked_unsound, asked_short, asked_well, feed_by, feed_on, taken_byte, single}
use Rattle.link.proofs.fed.Statement.{statement}
use Rattle.link.proofs.fed.Tie as tie

-- What the call has, and what it is fed.
abbrev had : tie.Start → Holding
had c = holding c.args.s c.args.verdicts.now c.args.worked.now

abbrev text : tie.Start → Text
text c = c.args.bytes.now

-- The state has room for a line.
long : (c : tie.Start) → length c.args.s.line ≡ 75
long c = search (rules, c.well_formed.0.1.1.1.1.1.1.1.1.1.1.1.1.1)

-- Where nothing was refused, where the state is sound, and where the slices suffice.
abbrev start : tie.Else-s-ne0 → tie.Start
start c = c.before.before.before.before.before

abbrev begins : tie.Else-not-lends_enough → tie.Start
begins c = start c.before.before.before.before

unrefused : (c : tie.Else-s-ne0) → is_open (start c).args.s ≡ true
unrefused c = eq-eqb (start c).args.s.refusal.number 0 c.if-s-ne0.false

sound : (c : tie.Else-not-is_sound) → is_sound base (start c.before.before).args.s ≡ true
sound c = let k = c.is_sound in sym k.ensures ∙ not-false k.result c.if-not-is_sound.false-raw

well : (c : tie.Else-not-lends_enough) → asked base (lent_by (had (begins c))) (begins c).args.s ≡ (begins c).args.s
well c =
    let k = c.lends_enough in
    asked_well base (lent_by (had (begins c))) (begins c).args.s (unrefused c.before.before.before.before) (sound c.before.before) (sym k.ensures ∙ not-false k.result c.if-not-lends_enough.false-raw)

takes : (c : tie.Then-takes) → takes_byte base (begins c.before.before.before.before).args.s (get_or (text (begins c.before.before.before.before)) 0 0) ≡ true
takes c = sym c.takes.ensures ∙ c.if-takes.true

returns : tie.Need-returns-then-s-ne0
returns c =
    let s = c.before.before.before.before.before in
    let shut : is_open s.args.s ≡ false = ne_eqb s.args.s.refusal.number 0 c.if-s-ne0.true in
    let e = feed_by base (had s) (text s) s.args.s (asked_refused base (lent_by (had s)) s.args.s shut) shut in
    (ap (λ (h : Holding). h.link) e, ap (λ (h : Holding). h.verdicts) e, ap (λ (h : Holding). h.worked) e)

is_sound_requires : tie.Need-is_sound-requires
is_sound_requires c κs = search rules

stopped_requires : tie.Need-stopped-requires
stopped_requires c κs = search rules

returns_2 : tie.Need-returns-then-not-is_sound
returns_2 c =
    let s = start c.before.before.before in
    let k = c.is_sound in
    let e = feed_by base (had s) (text s) (stopped_by (refusal 13 0 0)) (asked_unsound base (lent_by (had s)) s.args.s (unrefused c.before.before.before) (sym k.ensures ∙ not-true k.result c.if-not-is_sound.true-raw)) (unfold stopped_by in refl) in
    (c.stopped.ensures ∙ ap (λ (h : Holding). h.link) e, ap (λ (h : Holding). h.verdicts) e, ap (λ (h : Holding). h.worked) e)

lends_enough_requires : tie.Need-lends_enough-requires
lends_enough_requires c κs = search rules

stopped_requires_2 : tie.Need-stopped-requires-then-not-lends_enough
stopped_requires_2 c κs = search rules

returns_3 : tie.Need-returns-then-not-lends_enough
returns_3 c =
    let s = start c.before.before.before.before.before in
    let k = c.lends_enough in
    let e = feed_by base (had s) (text s) (stopped_by (refusal 7 0 0)) (asked_short base (lent_by (had s)) s.args.s (unrefused c.before.before.before.before.before) (sound c.before.before.before) (sym k.ensures ∙ not-true k.result c.if-not-lends_enough.true-raw)) (unfold stopped_by in refl) in
    (c.stopped-then-not-lends_enough.ensures ∙ ap (λ (h : Holding). h.link) e, ap (λ (h : Holding). h.verdicts) e, ap (λ (h : Holding). h.worked) e)

shared_slice_read_takes : tie.Need-bounds-bytes-0
shared_slice_read_takes c = search rules

takes_requires : tie.Need-takes-requires
takes_requires c κs = search rules

shared_slice_read_with_byte : tie.Need-bounds-bytes-0-then-takes
shared_slice_read_with_byte c = search rules

with_byte_requires : tie.Need-with_byte-requires
with_byte_requires c κs = takes c.before

returns_4 : tie.Need-returns-then-takes
returns_4 c =
    let k = c.before.before.before.before.before.before in
    let s = begins k in
    let b = get_or (text s) 0 0 in
    let room : base.longest_line ≤ length s.args.s.line = omega (arith, line_long, long s) in
    let e =
    taken_byte base (had s) b (takes_byte_lem base s.args.s b (takes c.before.before)) (unrefused k.before.before.before.before) room
    ∙ ap (taken base (had s)) (sym (single (text s) c.if-bytes-eq1.true))
    ∙ feed_on base (had s) (text s) (well k) (unrefused k.before.before.before.before) in
    (c.with_byte.ensures ∙ ap (λ (h : Holding). h.link) e, ap (λ (h : Holding). h.verdicts) e, ap (λ (h : Holding). h.worked) e)

taken_requires : tie.Need-taken-requires
taken_requires c κs = let k = c.before.before.before in (unrefused k.before.before.before.before, sound k.before.before)

same_length : tie.Need-shape_of-verdicts
same_length c = search rules

same_length_2 : tie.Need-shape_of-worked
same_length_2 c = search rules

returns_5 : tie.Need-returns
returns_5 c =
    let k = c.before.before.before.before.before.before.before.before in
    let s = begins k in
    let t = c.taken.ensures in
    let e = feed_on base (had s) (text s) (well k) (unrefused k.before.before.before.before) in
    (t.0 ∙ ap (λ (h : Holding). h.link) e, t.1.0 ∙ ap (λ (h : Holding). h.verdicts) e, t.1.1 ∙ ap (λ (h : Holding). h.worked) e)

pub fed_spec : {M : Type 1} → statement M
fed_spec =
    tie.close
    (tie.spec
    returns
    is_sound_requires
    stopped_requires
    returns_2
    lends_enough_requires
    stopped_requires_2
    returns_3
    shared_slice_read_takes
    takes_requires
    shared_slice_read_with_byte
    with_byte_requires
    returns_4
    taken_requires
    same_length
    same_length_2
    returns_5)
