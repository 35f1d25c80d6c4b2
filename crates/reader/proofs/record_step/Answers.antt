-- A record that is kept leads to the next, and another is refused.
use mathlib.Core.Path.{sym, ap, ◌∙◌}
use Rattle.std.specs.Prelude.{Err}
use Rattle.std.proofs.lemmas.Result.{err_from_is_err_and}
use Rattle.rules.specs.Reading.{records_due}
use Rattle.rules.specs.Rules.{base}
use Rattle.reader.proofs.DueLaws.{record_bad, record_next_lem}
use Rattle.reader.proofs.record_step.Goals as goal

pub returns-in_err-record : goal.returns-in_err-record
returns-in_err-record c =
    let p = err_from_is_err_and c.from_residual.result c.from_residual.ensures.1 in
    p.1 ∙ ap Err p.2 ∙ record_bad base _ _ (sym c.record.ensures ∙ c.in_err-record.was)

pub returns : goal.returns
returns c = record_next_lem base _ _ (sym c.record.ensures ∙ c.in_ok-record.was) (c.records_due.ensures ∙ ap records_due c.saturating_sub.ensures)
