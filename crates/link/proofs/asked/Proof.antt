-- What is asked first: a refusal that is kept, a state that no opening made, slices that are too short.
use mathlib.Core.Path.{◌≡◌, sym, ◌∙◌}
use mathlib.Core.Bool.{true}
use borrow.Author.Rules.{rules}
use borrow.Author.Tests.{eq-eqb, ne_eqb, not-true, not-false}
use Rattle.rules.specs.Rules.{base}
use Rattle.link.specs.Link.{is_open, is_sound, lent_of}
use Rattle.link.proofs.CallLaws.{asked_refused, asked_unsound, asked_short, asked_well}
use Rattle.link.proofs.asked.Statement.{statement}
use Rattle.link.proofs.asked.Tie as tie

-- Where nothing was refused, and where the state is sound.
abbrev start : tie.Else-s-ne0 → tie.Start
start c = c.before.before

unrefused : (c : tie.Else-s-ne0) → is_open (start c).args.s ≡ true
unrefused c = eq-eqb (start c).args.s.refusal.number 0 c.if-s-ne0.false

sound : (c : tie.Else-not-is_sound) → is_sound base (start c.before.before).args.s ≡ true
sound c = let k = c.is_sound in sym k.ensures ∙ not-false k.result c.if-not-is_sound.false-raw

returns : tie.Need-returns-then-s-ne0
returns c = let a = c.args in sym (asked_refused base (lent_of a.verdicts a.worked) a.s (ne_eqb a.s.refusal.number 0 c.if-s-ne0.true))

is_sound_requires : tie.Need-is_sound-requires
is_sound_requires c κs = search rules

stopped_requires : tie.Need-stopped-requires
stopped_requires c κs = search rules

returns_2 : tie.Need-returns-then-not-is_sound
returns_2 c =
    let a = (start c.before.before.before).args in
    let k = c.is_sound in
    c.stopped.ensures
    ∙ sym (asked_unsound base (lent_of a.verdicts a.worked) a.s (unrefused c.before.before.before) (sym k.ensures ∙ not-true k.result c.if-not-is_sound.true-raw))

lends_enough_requires : tie.Need-lends_enough-requires
lends_enough_requires c κs = search rules

stopped_requires_2 : tie.Need-stopped-requires-then-not-lends_enough
stopped_requires_2 c κs = search rules

returns_3 : tie.Need-returns-then-not-lends_enough
returns_3 c =
    let a = (start c.before.before.before.before.before).args in
    let k = c.lends_enough in
    c.stopped-then-not-lends_enough.ensures
    ∙ sym (asked_short base (lent_of a.verdicts a.worked) a.s (unrefused c.before.before.before.before.before) (sound c.before.before.before) (sym k.ensures ∙ not-true k.result c.if-not-lends_enough.true-raw))

returns_4 : tie.Need-returns
returns_4 c =
    let a = (start c.before.before.before.before).args in
    let k = c.lends_enough in
    sym (asked_well base (lent_of a.verdicts a.worked) a.s (unrefused c.before.before.before.before) (sound c.before.before) (sym k.ensures ∙ not-false k.result c.if-not-lends_enough.false-raw))

pub asked_spec : {M : Type 1} → statement M
asked_spec =
    tie.close
    (tie.spec
    returns
    is_sound_requires
    stopped_requires
    returns_2
    lends_enough_requires
    stopped_requires_2
    returns_3
    returns_4)
