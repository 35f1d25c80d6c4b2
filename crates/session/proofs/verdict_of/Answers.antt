-- What is new with a credited record is looked for; of the others only the class is told.
-- Assumes nothing.
use Rattle.std.proofs.Common.{◌≡◌, drop, false, arith, refl}
use lib.ListN.{length-take, length-drop}
use Rattle.rules.specs.declared.Class.{Class}
use Rattle.rules.specs.declared.Class.TheVariants.{Credited, Void, Duplicate, Error}
use Rattle.rules.specs.Judging.{is, class_number}
use Rattle.session.proofs.StepLaws.{exchange_short_lem, verdict_credited, verdict_other}
use Rattle.session.proofs.verdict_of.Goals as goal

another : (k : Class) → (k ≡ Credited → ⊥) → is Credited k ≡ false
unfolding is class_number
another Credited n = absurd (n refl)
another Void n = refl
another Duplicate n = refl
another Error n = refl

pub is_new-exchange-requires : goal.is_new-exchange-requires
is_new-exchange-requires c =
    let s = c.requires in
    let a = c.args in
    let short = exchange_short_lem a.line.now a.c a.entry.now a.kept.bytes.now a.kept.width a.kept.n s in
    let size = length-take 6 (drop 18 a.entry.now) in
    let rest = length-drop 18 a.entry.now in
    (omega (arith, s.wide, s.long, size, rest), omega (arith, short, s.long, size, rest), omega (arith, s.long, size, rest))

pub returns-in-Credited : goal.returns-in-Credited
returns-in-Credited c =
    let a = c.args in
    verdict_credited a.line.now a.c a.entry.now a.kept.bytes.now a.kept.width a.kept.n c.requires c.class_of.ensures c.square_length-long.result c.in-Credited.is c.is_new-exchange.ensures c.square_length-long.ensures c.is_new-square.ensures c.verdict_by.ensures

pub returns-in_default : goal.returns-in_default
returns-in_default c =
    let a = c.args in
    let other = another c.class_of.result c.in_default.not-Credited in
    verdict_other a.line.now a.c a.entry.now a.kept.bytes.now a.kept.width a.kept.n c.requires c.class_of.ensures c.class_of.result other refl c.verdict_by-in_default.ensures
