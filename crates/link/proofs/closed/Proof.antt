-- The closing refuses, or says what the end of the bytes means.
use native.Mathlib.Omega.{arith}
use mathlib.Core.Path.{◌≡◌, sym, ap, ◌∙◌}
use mathlib.Core.Bool.{true}
use lib.ListN.{length}
use borrow.Author.Rules.{rules}
use borrow.Author.Tests.{eq-eqb, ne_eqb}
use Rattle.rules.specs.Rules.{base}
use Rattle.link.specs.declared.Link.{Link}
use Rattle.rules.specs.Link.{Lent}
use Rattle.link.specs.Link.{is_open, lent_of, asked}
use Rattle.link.proofs.StateLaws.{sound_is}
use Rattle.link.proofs.CallLaws.{asked_on, close_by, close_unended, close_accepts}
use Rattle.link.proofs.closed.Statement.{statement}
use Rattle.link.proofs.closed.Tie as tie

-- What the call finds, and what that is where nothing is refused.
abbrev start : tie.After-asked-a → tie.Start
start k = k.before.before.before

abbrev lends : tie.Start → Lent
lends c = lent_of (length c.args.verdicts.now) (length c.args.worked.now)

is : (k : tie.After-asked-a) → asked base (lends (start k)) (start k).args.s ≡ k.asked-a.result
is k = sym k.asked-a.ensures

unrefused : (c : tie.Else-a-ne0) → is_open c.asked-a.result ≡ true
unrefused c = eq-eqb c.asked-a.result.refusal.number 0 c.if-a-ne0.false

asked_requires : tie.Need-asked-a-requires
asked_requires c κs = search rules

unended_requires : tie.Need-unended-requires
unended_requires c κs = search rules

returns : tie.Need-returns-then-a-ne0
returns c =
    let k = c.before.before.before in
    let s = start k in
    c.unended.ensures
    ∙ close_by base (lends s) s.args.s k.asked-a.result (is k) (ne_eqb k.asked-a.result.refusal.number 0 c.if-a-ne0.true)

rested_requires : tie.Need-rested-t-requires
rested_requires c κs =
    let k = c.before.before in
    let s = start k in
    let on = asked_on base (lends s) s.args.s (ap (λ (t : Link). is_open t) (is k) ∙ unrefused c) in
    let good = sound_is base s.args.s on.1 in
    let same : k.asked-a.result.lines ≡ s.args.s.lines = ap (λ (t : Link). t.lines) (sym (is k) ∙ on.0) in
    omega (arith, good.lines, good.count, same)

unended_requires_2 : tie.Need-unended-requires-then-t-ne0
unended_requires_2 c κs = search rules

returns_2 : tie.Need-returns-then-t-ne0
returns_2 c =
    let r = c.before.before.before in
    let e = r.before in
    let k = e.before.before in
    let s = start k in
    c.unended-then-t-ne0.ensures
    ∙ close_unended base (lends s) s.args.s k.asked-a.result (is k) (unrefused e) r.rested-t.result r.rested-t.ensures (ne_eqb r.rested-t.result.refusal.number 0 c.if-t-ne0.true)

accepted_requires : tie.Need-accepted-requires
accepted_requires c κs = search rules

returns_3 : tie.Need-returns
returns_3 c =
    let r = c.before.before.before in
    let e = r.before in
    let k = e.before.before in
    let s = start k in
    c.accepted.ensures
    ∙ close_accepts base (lends s) s.args.s k.asked-a.result (is k) (unrefused e) r.rested-t.result r.rested-t.ensures (eq-eqb r.rested-t.result.refusal.number 0 c.if-t-ne0.false)

pub closed_spec : {M : Type 1} → statement M
closed_spec =
    tie.close
    (tie.spec
    asked_requires
    unended_requires
    returns
    rested_requires
    unended_requires_2
    returns_2
    accepted_requires
    returns_3)
