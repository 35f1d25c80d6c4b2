-- The step in front of the records goes by what is due.
use Rattle.rules.specs.Log.{identifier, remarks_line}
use Rattle.rules.specs.Rules.{base}
use Rattle.reader.proofs.DueLaws.{at_identifier, at_remark, at_remarks}
use Rattle.reader.proofs.head_step.Goals as goal

pub returns-in-Identifier : goal.returns-in-Identifier
unfolding identifier
returns-in-Identifier c = at_identifier base _ _ _ c.in-Identifier.is c.whole_step-next.ensures

pub returns-in-Remarks : goal.returns-in-Remarks
unfolding remarks_line
returns-in-Remarks c = at_remarks base _ _ _ c.in-Remarks.is c.whole_step-next-in-Remarks.ensures

pub returns-in-Remark : goal.returns-in-Remark
returns-in-Remark c = at_remark base _ _ _ c.in-Remark.is c.remark_step-next.ensures
