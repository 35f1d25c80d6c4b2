-- A line that is kept at the next place is counted, and one that is refused changes nothing.
use Rattle.std.proofs.Common.{ap, ◌∙◌}
use Rattle.rules.specs.Rules.{base}
use Rattle.session.specs.Session.{accepted}
use Rattle.session.specs.declared.Session.{Session}
use Rattle.session.proofs.SessionLaws.{refused_told, accepted_told, verdicts_told, bytes_told}
use Rattle.session.proofs.taken.Goals as goal

pub returns-in-Ok : goal.returns-in-Ok
returns-in-Ok c =
    let place = c.next_place-n.ensures in
    let told = c.keep_line.ensures in
    let a = c.args in
    let added = c.accepted.ensures ∙ ap (λ (x : Session). accepted x) c.with_record.ensures in
    (added ∙ accepted_told base a.s _ a.verdicts.now a.kept.now place told.answer c.in-Ok.is, verdicts_told base a.s _ _ _ place told.verdicts, bytes_told base a.s _ _ _ place told.kept)

pub returns-in-Err : goal.returns-in-Err
returns-in-Err c =
    let place = c.next_place-n.ensures in
    let told = c.keep_line.ensures in
    let a = c.args in
    (c.refused.ensures ∙ refused_told base a.s _ a.verdicts.now a.kept.now place told.answer c.in-Err.is, verdicts_told base a.s _ _ _ place told.verdicts, bytes_told base a.s _ _ _ place told.kept)
