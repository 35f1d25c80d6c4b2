-- At the place of a record that is left stands what is told of it; at that of a struck one nothing changes.
use native.Mathlib.Omega.{arith}
use mathlib.Core.Path.{◌≡◌, refl, sym, ap, ◌∙◌}
use Prim.Native.Nat.{ℕ}
use lib.ListN.{length}
use Rattle.rules.specs.Striking.{marked}
use Rattle.writer.proofs.TextsLaws.{row_begins, row_all}
use Rattle.writer.specs.Written.{row, written}
use Rattle.striker.specs.KeptText.{is_struck}
use Rattle.striker.specs.Spread.{spread_at}
use Rattle.striker.proofs.LineLoops.{place_left, place_struck, none_yet}
use Rattle.striker.proofs.SpreadLaws.{turn_left, turn_struck, all_spread}
use Rattle.striker.proofs.spread.Goals as goal
use Rattle.striker.proofs.spread.Goals.{then-not-is_struck, else-not-is_struck}

-- src/lib.rt:180:5
pub loop-i-init : goal.loop-i-init
loop-i-init c = (none_yet _, omega arith, row_begins _ _)

-- src/lib.rt:180:5
pub loop-i-preserved : goal.loop-i-preserved
loop-i-preserved c =
    let k = c.loop-i.invariant in
    let struck = marked c.args.struck.now in
    let gone = sym (ap is_struck c.byte_or_none.ensures) ∙ sym c.is_struck.ensures in
    elim c.if-not-is_struck.branch [
      | then-not-is_struck w ↦
          let stays = gone ∙ w.if-not-is_struck.true in
          rw (w.among-is, w.left-is) (place_left struck c.loop-i.i k.0 stays, omega (arith, k.1), turn_left struck c.args.told.now c.args.among.now c.loop-i.i c.loop-i-test.true k.2 k.0 stays w.byte_or_none-then-not-is_struck.ensures)
      | else-not-is_struck w ↦
          let strikes = gone ∙ w.if-not-is_struck.false in
          rw (w.among-is, w.left-is) (place_struck struck c.loop-i.i k.0 strikes, omega (arith, k.1), turn_struck struck c.args.told.now c.args.among.now c.loop-i.i c.loop-i-test.true k.2 k.0 strikes)
    ]

-- src/lib.rt:175:1
pub returns : goal.returns
returns c =
    let among₀ = c.args.among.now in
    let f = spread_at (marked c.args.struck.now) c.args.told.now among₀ in
    let all : c.loop-i.i ≡ length among₀ = omega arith in
    all_spread _ _ _ (row_all _ among₀ (length among₀) refl (c.loop-i.invariant.2 ∙ ap (λ (n : ℕ). written among₀ 0 (row f n)) all))
