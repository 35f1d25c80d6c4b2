-- The claim of a turn lies in order, and what is measured stays small.
use Prim.Native.Nat.{ℕ, ◌+◌, ◌-◌}
use native.Mathlib.Nat.{add-zero}
use native.Mathlib.Omega.{arith}
use mathlib.Core.Path.{◌≡◌, sym, ap}
use lib.ListN.{length, get_or, length-append}
use Rattle.reader.specs.Contact.{between}
use Rattle.rules.specs.Text.{Text, digits}
use Rattle.writer.proofs.ClaimLoops.{claim, claim_lies, claim_here, ends_inside, claims_length}
use Rattle.writer.proofs.RecordLoops.{log_small}
use Rattle.writer.proofs.TextsLaws.{nothing_measured, next_measured, starts_first, starts_behind}
use Rattle.writer.proofs.WrittenLaws.{part_length}
use Rattle.writer.proofs.claims_length.Goals as goal

pub loop-i-init : goal.loop-i-init
loop-i-init c = (starts_first 0 _ _, nothing_measured _, omega arith)

pub overflow_sub-sum : goal.overflow_sub-sum
overflow_sub-sum c = (claim_lies c.requires.0 c.loop-i.i c.loop-i-test.true c.loop-i.invariant.0).order

pub overflow_add-sum : goal.overflow_add-sum
overflow_add-sum c =
    let l = claim_lies c.requires.0 c.loop-i.i c.loop-i-test.true c.loop-i.invariant.0 in
    omega (arith, c.digit_count.ensures.1, l.rise, l.inside, c.requires.0.within, c.requires.2, log_small)

pub overflow_add-sum-in-loop-i : goal.overflow_add-sum-in-loop-i
overflow_add-sum-in-loop-i c =
    let l = claim_lies c.requires.0 c.loop-i.i c.loop-i-test.true c.loop-i.invariant.0 in
    omega (arith, c.digit_count.ensures.1, c.loop-i.invariant.2, c.loop-i-test.true, l.order, l.rise, l.inside, c.requires.0.within, c.requires.1, c.requires.2, log_small)

pub loop-i-preserved : goal.loop-i-preserved
loop-i-preserved c =
    let a = c.args in
    let k = c.loop-i.invariant in
    let i = c.loop-i.i in
    let from = c.loop-i.from in
    let s = a.s.now in
    let l = claim_lies c.requires.0 i c.loop-i-test.true k.0 in
    let start = get_or a.starts.now i 0 in
    let n = get_or a.claims.now i 0 in
    let each : ℕ → Text = claim s a.first a.starts.now a.ends.now a.claims.now in
    let here = claim_here s a.first a.starts.now a.ends.now a.claims.now i k.0 in
    let part : length (between s from start) ≡ start - from = part_length s from start l.order (omega (arith, l.rise, l.inside, c.requires.0.within)) in
    let size : start - from + c.digit_count.result ≡ length (each i) = omega (arith, c.digit_count.ensures.0, part, length-append (between s from start) (digits n), ap length here) in (
      starts_behind 0 _ _ _ (sym (add-zero _)),
      next_measured each i k.1 size,
      omega (arith, k.2, c.digit_count.ensures.1, l.order, l.rise),
    )

pub overflow_sub-result : goal.overflow_sub-result
overflow_sub-result c = ends_inside c.requires.0 c.loop-i.i (omega arith) c.loop-i.invariant.0

pub overflow_add-result : goal.overflow_add-result
overflow_add-result c =
    let behind = ends_inside c.requires.0 c.loop-i.i (omega arith) c.loop-i.invariant.0 in
    omega (arith, c.loop-i.invariant.2, behind, c.requires.0.within, c.requires.1, c.requires.2, log_small)

pub returns : goal.returns
returns c =
    let a = c.args in
    let k = c.loop-i.invariant in
    let behind = ends_inside c.requires.0 c.loop-i.i (omega arith) k.0 in
    let all = claims_length a.s.now a.first a.starts.now a.ends.now a.claims.now c.loop-i.i c.loop-i.from (omega arith) k.0 in
    let part = part_length a.s.now c.loop-i.from a.first behind c.requires.0.within in
    (omega (arith, all, part, k.1), omega (arith, k.2, behind, c.requires.0.within, c.requires.1))
