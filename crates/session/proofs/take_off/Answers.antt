-- What a record brought is taken off the sums and the count of its mode, where they hold it.
-- Assumes nothing.
use Rattle.std.proofs.Common.{arith, sym, ap, ◌∙◌}
use Rattle.session.specs.Session.{refused_by}
use Rattle.session.specs.declared.Session.{Session}
use Rattle.session.proofs.SessionLaws.{mode_read, less_made, off_tally, off_mode, off_both}
use Rattle.session.proofs.take_off.Goals as goal

pub returns-then-not-holds : goal.returns-then-not-holds
returns-then-not-holds c = c.refused.ensures ∙ off_tally _ _ _ (sym c.holds.ensures ∙ c.if-not-holds.true)

pub returns-then-list-mode : goal.returns-then-list-mode
returns-then-list-mode c =
    let a = c.args in
    let held = sym c.holds.ensures ∙ c.if-not-holds.false in
    c.refused-then-list-mode.ensures
    ∙ off_mode a.s a.brought a.mode held (omega (arith, mode_read a.s a.mode c.mode_numbers-list.ensures, c.if-list-mode.true))

pub less-requires : goal.less-requires
less-requires c = sym c.holds.ensures ∙ c.if-not-holds.false

pub returns : goal.returns
returns c =
    let a = c.args in
    let held = sym c.holds.ensures ∙ c.if-not-holds.false in
    c.accepted.ensures
    ∙ ap (λ (x : Session). refused_by x 0 0) (less_made a.s a.brought a.mode c.mode_numbers-list.ensures c.less.ensures c.modes_in.ensures)
    ∙ off_both a.s a.brought a.mode held (omega (arith, mode_read a.s a.mode c.mode_numbers-list.ensures, c.if-list-mode.false))
