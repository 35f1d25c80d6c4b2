-- The search goes on from record to record, and what is left to look at gives the same answer.
-- Assumes nothing.
use Rattle.std.proofs.Common.{◌≡◌, arith, refl, sym, ◌∙◌}
use Rattle.session.proofs.LookLaws.{like, first_over, four_inside, past_next, past_found}
use Rattle.session.proofs.Kept.next_like_tail.Goals as goal

pub loop-k-init : goal.loop-k-init
loop-k-init c = refl

pub four_of-requires : goal.four_of-requires
four_of-requires c =
    let a = c.args in
    four_inside a.self.bytes.now a.self.width a.at a.from a.self.n a.four c.loop-k-test.true a.self.there c.requires.0

pub returns-then-four_of-four : goal.returns-then-four_of-four
returns-then-four_of-four c =
    let a = c.args in
    past_found a.self.bytes.now a.self.width a.at a.from a.self.n a.four c.loop-k-test.true c.loop-k.invariant c.four_of.ensures c.if-four_of-four.true

pub loop-k-preserved : goal.loop-k-preserved
loop-k-preserved c =
    let a = c.args in
    past_next a.self.bytes.now a.self.width a.at a.from a.self.n a.four c.loop-k-test.true c.loop-k.invariant c.four_of.ensures c.if-four_of-four.false refl

pub returns : goal.returns
returns c =
    let a = c.args in
    let last : a.self.n ≡ c.loop-k.k = omega (arith, c.loop-k.auto.k-end c.requires.1, c.loop-k-test.false) in
    last ∙ sym (c.loop-k.invariant ∙ first_over (like a.self.bytes.now a.self.width a.at a.four) a.self.n c.loop-k.k c.loop-k-test.false)
