-- The records so far are read, and a place of each is noted in each list.
use Rattle.rules.specs.Rules.{base}
use Rattle.reader.proofs.NotedLaws.{Fills, Surveys}
use Rattle.reader.proofs.survey_records.Given as goal

abbrev pub invariant-loop-i : goal.invariant-loop-i
invariant-loop-i l = record {
  read : Surveys base l.log l.records l.first l.heading l.before l.at l.line l.i;
  calls : Fills base l.log l.records l.first (λ c. c.call) l.initial.calls l.at l.i l.calls;
  exchanges : Fills base l.log l.records l.first (λ c. c.exchange) l.initial.exchanges l.at l.i l.exchanges;
  points : Fills base l.log l.records l.first (λ c. c.points) l.initial.points l.at l.i l.points;
  pointsends : Fills base l.log l.records l.first (λ c. c.pointsend) l.initial.pointsends l.at l.i l.pointsends;
  ends : Fills base l.log l.records l.first (λ c. c.end) l.initial.ends l.at l.i l.ends;
}
