-- The search goes from one record that has the four bytes to the next, and ends at the first that has the whole part.
-- Assumes nothing.
use Rattle.std.proofs.Common.{◌≡◌, arith, sym, ◌∙◌}
use Rattle.session.specs.Entry.{stands_at}
use Rattle.session.proofs.LookLaws.{first_over, first_found, first_turn, onward_first, part_compared, held_told, next_forward, next_within, next_onward}
use Rattle.session.proofs.Kept.is_held.Goals.{then-self-k, else-self-k+then-same_text}
use Rattle.session.proofs.Kept.is_held.Goals as goal

pub look-init : goal.look-init
look-init c = (omega arith, onward_first _ _ _ _ _)

pub next_at-k-requires : goal.next_at-k-requires
next_at-k-requires c = (omega (arith, c.requires.0, c.requires.1), c.look.invariant.0)

pub look-smaller : goal.look-smaller
look-smaller c =
    let a = c.args in
    let forward = next_forward a.self.bytes.now a.part.now a.self.width a.self.n a.at a.mark c.four_at-four.ensures c.look.invariant.0 c.next_at-k.ensures in
    omega (arith, c.if-self-k.false, forward)

pub look-preserved : goal.look-preserved
look-preserved c =
    let a = c.args in
    let onward = next_onward a.self.bytes.now a.part.now a.self.width a.self.n a.at a.mark c.four_at-four.ensures c.look.invariant.0 c.next_at-k.ensures c.requires.1 c.look.invariant.1 in
    let unlike = sym (part_compared a.self.bytes.now a.part.now a.self.width a.self.n a.at c.next_at-k.result) ∙ sym c.same_text.ensures ∙ c.if-same_text.false in
    (omega (arith, c.if-self-k.false), onward ∙ first_turn (stands_at a.self.bytes.now a.self.width a.at a.part.now) a.self.n c.next_at-k.result c.if-self-k.false unlike)

pub returns : goal.returns
returns c =
    let a = c.args in
    let r = c.next_at-k.result in
    let stands = stands_at a.self.bytes.now a.self.width a.at a.part.now in
    let within = next_within a.self.bytes.now a.part.now a.self.width a.self.n a.at a.mark c.four_at-four.ensures c.look.invariant.0 c.next_at-k.ensures in
    let onward = next_onward a.self.bytes.now a.part.now a.self.width a.self.n a.at a.mark c.four_at-four.ensures c.look.invariant.0 c.next_at-k.ensures c.requires.1 c.look.invariant.1 in
    held_told a.self.bytes.now a.part.now a.self.width a.self.n a.at c.if-self-k.found
    (elim c.if-self-k.branch [
      | then-self-k w ↦
          let none : c.if-self-k.found ≡ r = omega (arith, w.found-is, w.if-self-k.true, within) in
          none ∙ sym (onward ∙ first_over stands a.self.n r w.if-self-k.true)
      | else-self-k+then-same_text w ↦
          let alike = sym (part_compared a.self.bytes.now a.part.now a.self.width a.self.n a.at r) ∙ sym w.same_text.ensures ∙ w.if-same_text.true in
          w.found-is ∙ sym (onward ∙ first_found stands a.self.n r w.if-self-k.false alike)
    ])
