-- The claim of a turn lies in order, and there is room for it, and for what stands behind the last one.
use Prim.Native.Nat.{ℕ}
use native.Mathlib.Nat.{add-zero}
use native.Mathlib.Omega.{arith}
use mathlib.Core.Path.{sym, ap}
use lib.ListN.{length}
use Rattle.rules.specs.Text.{Text}
use Rattle.writer.proofs.ClaimLoops.{claim, claim_lies, claim_here, ends_inside, claims_are, claims_length, claims_within}
use Rattle.writer.proofs.TextsLaws.{nothing_put, next_room, next_put, starts_first, starts_behind}
use Rattle.writer.proofs.WrittenLaws.{puts_then, puts_as, puts_length, part_length}
use Rattle.writer.proofs.put_claims.Goals as goal

pub loop-i-init : goal.loop-i-init
loop-i-init c = (starts_first 0 _ _, nothing_put _ _ _ (omega arith))

pub put_claim-at-requires : goal.put_claim-at-requires
put_claim-at-requires c =
    let a = c.args in
    let k = c.loop-i.invariant in
    let l = claim_lies c.requires.claims_lie c.loop-i.i c.loop-i-test.true k.0 in
    let here = claim_here a.s.now a.first a.starts.now a.ends.now a.claims.now c.loop-i.i k.0 in
    let all = claims_within a.s.now a.first a.starts.now a.ends.now a.claims.now in
    let each : ℕ → Text = claim a.s.now a.first a.starts.now a.ends.now a.claims.now in
    let room = next_room each k.1 (length a.claims.now) c.loop-i-test.true (omega (arith, all, c.requires.claims_in_bounds)) in
    (l.order, omega (arith, l.rise, l.inside, c.requires.claims_lie.within), omega (arith, ap length here, room))

pub loop-i-preserved : goal.loop-i-preserved
loop-i-preserved c =
    let a = c.args in
    let k = c.loop-i.invariant in
    let here = claim_here a.s.now a.first a.starts.now a.ends.now a.claims.now c.loop-i.i k.0 in
    (starts_behind 0 _ _ _ (sym (add-zero _)), next_put (claim a.s.now a.first a.starts.now a.ends.now a.claims.now) k.1 (puts_as c.put_claim-at.ensures here))

pub put_part-requires : goal.put_part-requires
put_part-requires c =
    let a = c.args in
    let k = c.loop-i.invariant in
    let within = c.requires.claims_lie.within in
    let behind = ends_inside c.requires.claims_lie c.loop-i.i (omega arith) k.0 in
    let all = claims_length a.s.now a.first a.starts.now a.ends.now a.claims.now c.loop-i.i c.loop-i.from (omega arith) k.0 in
    (behind, within, omega (arith, all, part_length a.s.now c.loop-i.from a.first behind within, k.1.place, puts_length k.1, c.requires.claims_in_bounds))

pub returns : goal.returns
returns c =
    let a = c.args in
    let k = c.loop-i.invariant in
    puts_as (puts_then k.1 c.put_part.ensures)
    (claims_are a.s.now a.first a.starts.now a.ends.now a.claims.now c.loop-i.i c.loop-i.from (omega arith) k.0)
