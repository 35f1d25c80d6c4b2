-- One character more is laid in each turn, and after the last the part is laid.
use native.Mathlib.Omega.{arith}
use Prim.Native.Nat.{◌+◌, ◌-◌}
use mathlib.Core.Path.{◌≡◌, ap, ◌∙◌}
use lib.ListN.{length, get_or, set}
use Prim.Native.Nat.{ℕ}
use mathlib.Core.List.{List}
use Rattle.reader.specs.Contact.{between}
use Rattle.writer.specs.Written.{written}
use Rattle.writer.proofs.WrittenLaws.{part_length, part_none, part_turn}
use Rattle.writer.proofs.put_part.Goals as goal

pub loop-i-init : goal.loop-i-init
loop-i-init c = (omega arith, part_none _ c.args.s.now _ c.args.from)

pub loop-i-preserved : goal.loop-i-preserved
loop-i-preserved c =
    let a = c.args in
    let k = c.loop-i in
    let turned = part_turn a.out.now a.s.now a.at a.from k.i k.invariant.0 (omega (arith, c.loop-i-test.true, c.requires.1)) (omega (arith, c.loop-i-test.true, c.requires.2)) in
    (omega (arith, k.invariant.0), ap (λ (l : List ℕ). set l (a.at + (k.i - a.from)) (get_or a.s.now k.i 0)) k.invariant.1 ∙ turned)

pub returns : goal.returns
returns c =
    let a = c.args in
    let e : c.loop-i.i ≡ a.to = omega (arith, c.requires.0) in
    let long : length (between a.s.now a.from a.to) ≡ a.to - a.from = part_length a.s.now a.from a.to c.requires.0 c.requires.1 in
    record {
      fits = omega (arith, long, c.requires.2);
      list = c.loop-i.invariant.1 ∙ ap (λ (n : ℕ). written a.out.now a.at (between a.s.now a.from n)) e;
      place = omega (arith, long);
    }
