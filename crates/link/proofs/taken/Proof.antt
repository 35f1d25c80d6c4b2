-- As many bytes as there is room for, and number 1 where there are more.
use native.Mathlib.Omega.{arith}
use mathlib.Core.Path.{◌≡◌, sym, ap, ◌∙◌}
use lib.ListN.{length, take}
use borrow.Author.Rules.{rules}
use Rattle.rules.specs.Rules.{base}
use Rattle.link.specs.declared.Link.{Link}
use Rattle.link.specs.Link.{Holding, holding, is_open, counted}
use lib.Seq.{length-take-le}
use Rattle.link.proofs.StateLaws.{IsSound, sound_is}
use Rattle.link.proofs.CallLaws.{taken_by}
use Rattle.link.proofs.taken.Statement.{statement}
use Rattle.link.proofs.taken.Tie as tie

-- The state is sound.
sound : (c : tie.Start) → IsSound base c.args.s
sound c = sound_is base c.args.s c.requires.1

abbrev start : tie.After-room_for-n → tie.Start
start r = r.before.before.before.before

room_for_requires : tie.Need-room_for-n-requires
room_for_requires c κs = (sound c.before.before.before).count

counted_requires : tie.Need-counted-requires
counted_requires c κs = ((sound c.before.before.before.before).count, omega (arith, c.room_for-n.ensures))

slice_aggregate_went : tie.Need-slice_bounds-went-end
slice_aggregate_went c = sym (length-take-le _ _ (omega (arith, c.room_for-n.ensures)))

went_requires : tie.Need-went-requires
unfolding counted
went_requires c κs =
    let s = start c.before.before.before in
    let e = c.counted.ensures in
    let held : c.counted.result.held ≡ s.args.s.held = ap (λ (t : Link). t.held) e in
    let lines : c.counted.result.lines ≡ s.args.s.lines = ap (λ (t : Link). t.lines) e in
    let n = c.room_for-n in
    let long : length (take n.result s.args.bytes.now) ≡ n.result = length-take-le _ _ (omega (arith, n.ensures)) in
    (ap (λ (t : Link). is_open t) e ∙ s.requires.0, omega (arith, held, (sound s).held), omega (arith, lines, long, n.ensures, (sound s).lines, (sound s).count))

same_length : tie.Need-shape_of-verdicts
same_length c = search rules

same_length_2 : tie.Need-shape_of-worked
same_length_2 c = search rules

returns : tie.Need-returns
returns c =
    let w = c.before.before.before.before in
    let a = (start w.before.before.before.before).args in
    let h = holding a.s a.verdicts.now a.worked.now in
    let room = w.room_for-n.ensures in
    let same = taken_by base h a.bytes.now room w.counted.ensures in
    (w.went.ensures.0 ∙ ap (λ (g : Holding). g.link) same, (w.went.ensures.1.0 ∙ ap (λ (g : Holding). g.verdicts) same, w.went.ensures.1.1 ∙ ap (λ (g : Holding). g.worked) same))

pub taken_spec : {M : Type 1} → statement M
taken_spec =
    tie.close
    (tie.spec
    room_for_requires
    counted_requires
    slice_aggregate_went
    went_requires
    same_length
    same_length_2
    returns)
