-- Each count is taken off in its turn, and nothing is left exactly where they come to the number.
use native.Mathlib.Omega.{arith}
use mathlib.Core.Path.{refl, sym, ◌∙◌}
use Rattle.judge.proofs.SumLaws.{come_begun, come_on, come_over, come_all}
use Rattle.judge.proofs.come_to.Goals as goal

pub loop-count-init : goal.loop-count-init
loop-count-init c = refl

pub returns-then-left-count : goal.returns-then-left-count
returns-then-left-count c =
    come_over _ 11 _ _ (omega arith) c.if-left-count.true
    ∙ sym (come_begun c.args.m c.mode_numbers.result c.args.n c.mode_numbers.ensures ∙ c.loop-count.invariant)

pub loop-count-preserved : goal.loop-count-preserved
loop-count-preserved c = c.loop-count.invariant ∙ come_on _ 11 _ _ (omega arith) c.if-left-count.false

pub returns : goal.returns
returns c =
    come_all _ 11 _ _ (omega arith)
    ∙ sym (come_begun c.args.m c.mode_numbers.result c.args.n c.mode_numbers.ensures ∙ c.loop-count.invariant)
