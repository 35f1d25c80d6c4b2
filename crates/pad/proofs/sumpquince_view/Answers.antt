-- What a view answers is handed out in C's struct.
use Rattle.std.proofs.Common.{◌≡◌, rules}
use Rattle.pad.specs.Face.{one_if}
use Rattle.pad.proofs.FaceLaws.{seen_shown, unseen_shown}
use Rattle.pad.proofs.sumpquince_view.Goals as goal

pub returns-in-Ok : goal.returns-in-Ok
returns-in-Ok c =
    let told : c.from.result ≡ one_if c.in-Ok.seen.listed = search rules in
    seen_shown _ _ c.no_refusal.ensures told c.in-Ok.ensures

pub returns-in-Err : goal.returns-in-Err
returns-in-Err c = unseen_shown _ _ c.from-in-Err.ensures c.in-Err.ensures
