-- What the mender answers is handed out in C's struct, and each slice is as the mender leaves it.
-- Assumes nothing.
use Rattle.pad.proofs.FaceLaws.{changes_shown, unmended_shown}
use Rattle.pad.proofs.sumpquince_mend.Goals as goal

pub returns-in-Ok-clause-answer : goal.returns-in-Ok-clause-answer
returns-in-Ok-clause-answer c = changes_shown _ c.no_refusal.ensures c.in-Ok.ensures.answer

pub returns-in-Err-clause-answer : goal.returns-in-Err-clause-answer
returns-in-Err-clause-answer c = unmended_shown _ c.from.ensures c.in-Err.ensures.answer
