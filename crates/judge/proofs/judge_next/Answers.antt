-- One step: the key of the call stands behind those that are kept, the class is found, and a credited record is kept.
use Prim.Native.Nat.{ℕ, ◌+◌}
use native.Mathlib.Omega.{arith}
use mathlib.Core.Path.{◌≡◌, refl, ap, ◌∙◌}
use lib.ListN.{get_or}
use borrow.Author.Rules.{rules}
use Rattle.rules.specs.Rules.{base}
use Rattle.rules.specs.Judging.{class_number}
use Rattle.rules.specs.declared.Class.TheVariants.{Credited}
use Rattle.reader.specs.Contact.{between}
use Rattle.judge.specs.Count.{mode_place}
use Rattle.judge.specs.Parts.{key_of}
use Rattle.judge.proofs.ToldLaws.{call_inside_lem, call_size, mode_inside}
use Rattle.judge.proofs.RememberLaws.{home_base}
use Rattle.judge.proofs.StepLaws.{classed, steps_credited, steps_other}
use Rattle.judge.proofs.judge_next.Goals as goal

pub part_end-end-requires : goal.part_end-end-requires
part_end-end-requires c = call_inside_lem c.requires.told

pub key_of-requires : goal.key_of-requires
key_of-requires c =
    let told = c.requires.told in
    let end = c.part_end-end.ensures in
    (omega (arith, end, call_size told), omega (arith, end, call_inside_lem told), omega (arith, end, call_size told))

pub class_of-class-requires : goal.class_of-class-requires
class_of-class-requires c =
    let a = c.args in
    let key = c.key_of.ensures ∙ ap (λ (n : ℕ). key_of (between a.s.now a.p.call n)) c.part_end-end.ensures in
    classed base home_base a.s.now a.p a.kept a.calls.now a.callkeys.now a.exchanges.now a.exchangekeys.now a.squares.now c.requires key c.part_end-end.ensures

pub overflow_add-end : goal.overflow_add-end
overflow_add-end c = omega (arith, c.part_end-end.ensures, mode_inside c.requires.told)

pub bounds-s-end : goal.bounds-s-end
bounds-s-end c = omega (arith, c.part_end-end.ensures, mode_inside c.requires.told)

pub credited_next-requires : goal.credited_next-requires
credited_next-requires c =
    let ready = c.requires in
    record {
      q = ready.q;
      told = ready.told;
      exchanges_lie = ready.stays.exchanges_lie;
      call_room = ready.call_room;
      exchange_room = ready.exchange_room;
      exchange_key_room = ready.exchange_key_room;
      square_room = ready.square_room;
      call_short = ready.call_short;
      exchange_short = ready.exchange_short;
    }

pub returns-then-eq : goal.returns-then-eq
unfolding class_number
returns-then-eq c =
    let a = c.args in
    let credited : c.class_of-class.result ≡ Credited = search rules in
    let key = c.key_of.ensures ∙ ap (λ (n : ℕ). key_of (between a.s.now a.p.call n)) c.part_end-end.ensures in
    let mode = c.mode_place-mode.ensures ∙ ap (λ (n : ℕ). mode_place (get_or a.s.now (n + 1) 0)) c.part_end-end.ensures in
    steps_credited base home_base a.s.now a.p a.kept a.calls.now a.callkeys.now a.exchanges.now a.exchangekeys.now a.squares.now c.requires key c.class_of-class.ensures refl (ap class_number credited) mode c.credited_next.ensures

pub returns : goal.returns
unfolding class_number
returns c =
    let a = c.args in
    let other : class_number c.class_of-class.result ≡ 0 → ⊥ = λ z. search rules in
    let key = c.key_of.ensures ∙ ap (λ (n : ℕ). key_of (between a.s.now a.p.call n)) c.part_end-end.ensures in
    steps_other base home_base a.s.now a.p a.kept a.calls.now a.callkeys.now a.exchanges.now a.exchangekeys.now a.squares.now c.requires key c.class_of-class.ensures refl other c.verdict_by-verdict.ensures
