-- The three texts are laid over zero bytes, one behind the other, and behind them the points and the mode are written.
-- Assumes nothing.
use Rattle.session.proofs.StepLaws.{worked_told, entry_told}
use Rattle.session.proofs.entry_of.Goals as goal

pub returns : goal.returns
returns c =
    let a = c.args in
    entry_told a.line.now a.c c.requires
    (worked_told a.line.now a.c c.requires c.square_length.ensures c.put_text.ensures.slice c.put_text-2.ensures.slice c.put_text-3.ensures.slice)
    c.mode_byte.ensures
