-- What the head leads to is told of the log: its refusal, or its records.
use Rattle.std.proofs.Common.{sym, ◌∙◌}
use Rattle.std.proofs.lemmas.Result.{err_from_is_err_and}
use Rattle.rules.specs.Rules.{base}
use Rattle.reader.proofs.HeadLaws.{head_begins}
use Rattle.reader.proofs.NotedLaws.{records_listed, records_read, refused_listed, refused_read}
use Rattle.reader.proofs.survey.Goals as goal

pub survey_records-requires : goal.survey_records-requires
survey_records-requires c =
    let q = head_begins base _ (sym c.read_head.ensures ∙ c.in_ok-told.was) in
    (q.0.line, q.0.within, q.1)

pub returns-clause-answer : goal.returns-clause-answer
returns-clause-answer c = records_read base _ (sym c.read_head.ensures ∙ c.in_ok-told.was) c.survey_records.ensures.answer

pub returns-clause-calls : goal.returns-clause-calls
returns-clause-calls c = records_listed base _ (sym c.read_head.ensures ∙ c.in_ok-told.was) (λ d. d.call) _ c.survey_records.ensures.calls

pub returns-clause-exchanges : goal.returns-clause-exchanges
returns-clause-exchanges c = records_listed base _ (sym c.read_head.ensures ∙ c.in_ok-told.was) (λ d. d.exchange) _ c.survey_records.ensures.exchanges

pub returns-clause-points : goal.returns-clause-points
returns-clause-points c = records_listed base _ (sym c.read_head.ensures ∙ c.in_ok-told.was) (λ d. d.points) _ c.survey_records.ensures.points

pub returns-clause-pointsends : goal.returns-clause-pointsends
returns-clause-pointsends c = records_listed base _ (sym c.read_head.ensures ∙ c.in_ok-told.was) (λ d. d.pointsend) _ c.survey_records.ensures.pointsends

pub returns-clause-ends : goal.returns-clause-ends
returns-clause-ends c = records_listed base _ (sym c.read_head.ensures ∙ c.in_ok-told.was) (λ d. d.end) _ c.survey_records.ensures.ends

pub returns-in_err-told-clause-answer : goal.returns-in_err-told-clause-answer
returns-in_err-told-clause-answer c =
    let p = err_from_is_err_and c.from_residual.result c.from_residual.ensures.1 in
    rw (p.1, p.2) (refused_read base _ (sym c.read_head.ensures ∙ c.in_err-told.was))

pub returns-in_err-told-clause-calls : goal.returns-in_err-told-clause-calls
returns-in_err-told-clause-calls c = refused_listed base _ (sym c.read_head.ensures ∙ c.in_err-told.was) (λ d. d.call) _

pub returns-in_err-told-clause-exchanges : goal.returns-in_err-told-clause-exchanges
returns-in_err-told-clause-exchanges c = refused_listed base _ (sym c.read_head.ensures ∙ c.in_err-told.was) (λ d. d.exchange) _

pub returns-in_err-told-clause-points : goal.returns-in_err-told-clause-points
returns-in_err-told-clause-points c = refused_listed base _ (sym c.read_head.ensures ∙ c.in_err-told.was) (λ d. d.points) _

pub returns-in_err-told-clause-pointsends : goal.returns-in_err-told-clause-pointsends
returns-in_err-told-clause-pointsends c = refused_listed base _ (sym c.read_head.ensures ∙ c.in_err-told.was) (λ d. d.pointsend) _

pub returns-in_err-told-clause-ends : goal.returns-in_err-told-clause-ends
returns-in_err-told-clause-ends c = refused_listed base _ (sym c.read_head.ensures ∙ c.in_err-told.was) (λ d. d.end) _
