-- The number of a turn begins and ends within the text, and its places are laid over the lists.
use native.Mathlib.Omega.{arith}
use Prim.Native.Nat.{ℕ}
use mathlib.Core.Path.{◌≡◌, refl, ap, ◌∙◌}
use lib.ListN.{length}
use Rattle.writer.specs.ClaimsText.{number_start, number_end, line_behind, claim_start, claim_end, claim_starts, claim_ends}
use Rattle.writer.specs.Written.{written}
use Rattle.writer.proofs.ClaimLoops.{number_is, number_within, line_first, line_next_lem}
use Rattle.writer.proofs.TextsLaws.{row_begins, row_next, row_all}
use Rattle.writer.proofs.claims_at.Goals as goal

pub loop-i-init : goal.loop-i-init
loop-i-init c = (line_first _ _, row_begins _ _, row_begins _ _)

pub overflow_add-start : goal.overflow_add-start
overflow_add-start c = omega (arith, c.requires.0 c.loop-i.i c.loop-i-test.true, c.loop-i.invariant.0)

pub line_behind-next-requires : goal.line_behind-next-requires
line_behind-next-requires c =
    let start = number_start c.loop-i.next in
    let begins = c.requires.0 c.loop-i.i c.loop-i-test.true in
    omega (arith, number_is c.args.s.now start c.run-end.ensures, number_within c.args.s.now start (omega (arith, begins, c.loop-i.invariant.0)))

pub loop-i-preserved : goal.loop-i-preserved
loop-i-preserved c =
    let a = c.args in
    let s = a.s.now in
    let k = c.loop-i in
    let inside = c.loop-i-test.true in
    let ends = number_is s (number_start k.next) c.run-end.ensures ∙ ap (λ (n : ℕ). number_end s (number_start n)) k.invariant.0 in (
      c.line_behind-next.ensures ∙ ap (line_behind s) ends ∙ line_next_lem s a.line k.i,
      row_next (claim_start s a.line) a.starts.now k.i inside k.invariant.1 (ap number_start k.invariant.0),
      row_next (claim_end s a.line) a.ends.now k.i (omega (arith, inside, c.requires.1)) k.invariant.2 ends,
    )

pub returns-clause-starts : goal.returns-clause-starts
returns-clause-starts c =
    let a = c.args in
    let e : c.loop-i.i ≡ length a.starts.now = omega arith in
    row_all (claim_start a.s.now a.line) a.starts.now (length a.starts.now) refl (c.loop-i.invariant.1 ∙ ap (λ (n : ℕ). written a.starts.now 0 (claim_starts a.s.now a.line n)) e)

pub returns-clause-ends : goal.returns-clause-ends
returns-clause-ends c =
    let a = c.args in
    let e : c.loop-i.i ≡ length a.starts.now = omega arith in
    row_all (claim_end a.s.now a.line) a.ends.now (length a.starts.now) c.requires.1 (c.loop-i.invariant.2 ∙ ap (λ (n : ℕ). written a.ends.now 0 (claim_ends a.s.now a.line n)) e)
