-- The step goes by what is due: a record, or what stands in front of the records.
use Rattle.rules.specs.Rules.{base}
use Rattle.reader.proofs.DueLaws.{at_end_lem, at_record}
use Rattle.reader.proofs.step.Goals as goal

pub returns-in-Record : goal.returns-in-Record
returns-in-Record c = at_record base _ _ _ c.in-Record.is c.record_step-next.ensures

pub returns-in-End : goal.returns-in-End
returns-in-End c = at_end_lem base _ _ _ c.in-End.is c.refused-next.ensures
