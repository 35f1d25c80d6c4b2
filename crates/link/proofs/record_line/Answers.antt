-- What is told of a record's line, and its verdict and bytes behind the others.
use Rattle.std.proofs.Common.{◌∙◌}
use Rattle.rules.specs.Rules.{base}
use Rattle.link.proofs.TakenLaws.{kept_worth, record_refused, record_kept, record_verdicts, record_worked}
use Rattle.link.proofs.record_line.Goals as goal

-- It is taken.
pub with_record-requires : goal.with_record-requires
with_record-requires c =
    (c.requires.0, c.requires.1, kept_worth base c.args.s _ c.args.verdicts.now c.args.worked.now c.keep_line.ensures.answer c.in-Ok.is)

pub returns-clause-answer : goal.returns-clause-answer
returns-clause-answer c =
    c.with_record.ensures ∙ record_kept base c.args.s _ c.args.verdicts.now c.args.worked.now c.keep_line.ensures.answer c.in-Ok.is

pub returns-clause-verdicts : goal.returns-clause-verdicts
returns-clause-verdicts c = record_verdicts base _ _ _ _ c.keep_line.ensures.verdicts

pub returns-clause-worked : goal.returns-clause-worked
returns-clause-worked c = record_worked base _ _ _ _ c.keep_line.ensures.kept

-- It is refused.
pub returns-in-Err-clause-answer : goal.returns-in-Err-clause-answer
returns-in-Err-clause-answer c =
    c.stopped_here.ensures ∙ record_refused base c.args.s _ c.args.verdicts.now c.args.worked.now c.keep_line.ensures.answer c.in-Err.is

pub returns-in-Err-clause-verdicts : goal.returns-in-Err-clause-verdicts
returns-in-Err-clause-verdicts c = record_verdicts base _ _ _ _ c.keep_line.ensures.verdicts

pub returns-in-Err-clause-worked : goal.returns-in-Err-clause-worked
returns-in-Err-clause-worked c = record_worked base _ _ _ _ c.keep_line.ensures.kept
