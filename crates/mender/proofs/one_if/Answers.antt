-- Nothing was done, or one thing.
-- Assumes nothing.
use Rattle.mender.proofs.KindLaws.{one_if_some}
use Rattle.mender.proofs.one_if.Goals as goal

pub returns : goal.returns
returns c =
    let one = one_if_some c.args.done in
    rw (c.from.ensures, c.is_some.ensures) one
