-- The log is read, with the places of its records noted, and an accepted one is weighed.
use native.Mathlib.Omega.{arith}
use lib.ListN.{replicate}
use Rattle.std.proofs.Common.{sym, ◌∙◌}
use Rattle.std.proofs.lemmas.Result.{err_from_is_err_and}
use Rattle.rules.specs.Rules.{base}
use Rattle.reader.specs.Read.{read_of}
use Rattle.reader.proofs.WholeLaws.{contacts_accepted}
use Rattle.judge.specs.Weigh.{Accepts}
use Rattle.judge.proofs.JudgeLaws.{accepts, all_listed, contacts_are, few_records, kept_unread, refused_unread}
use Rattle.judge.proofs.weigh.Goals as goal

pub returns-in_err-read-clause-answer : goal.returns-in_err-read-clause-answer
unfolding read_of
returns-in_err-read-clause-answer c =
    let p = err_from_is_err_and c.from_residual.result c.from_residual.ensures.1 in
    rw (p.1, p.2) (refused_unread base c.args.log.now c.args.verdicts.now (sym c.survey.ensures.answer ∙ c.in_err-read.was))

pub returns-in_err-read-clause-slice : goal.returns-in_err-read-clause-slice
unfolding read_of
returns-in_err-read-clause-slice c = kept_unread base c.args.log.now c.args.verdicts.now (sym c.survey.ensures.answer ∙ c.in_err-read.was)

pub weigh_accepted-requires-clause-accepts : goal.weigh_accepted-requires-clause-accepts
unfolding read_of
weigh_accepted-requires-clause-accepts c = accepts base c.args.log.now (sym c.survey.ensures.answer ∙ c.in_ok-read.was)

pub weigh_accepted-requires-clause-listings : goal.weigh_accepted-requires-clause-listings
unfolding read_of base
weigh_accepted-requires-clause-listings c =
    let s = c.args.log.now in
    let read = c.in_ok-read.read in
    let noted = c.survey.ensures in
    let accept : Accepts base s read.records read.first read.heading = accepts base s (sym noted.answer ∙ c.in_ok-read.was) in
    let contacts = contacts_are accept (contacts_accepted base s accept.log accept.is_read) in
    let few = few_records accept in
    record {
      calls_listed = all_listed base s _ _ (λ c. c.call) (replicate base.most_records 0) contacts noted.calls few;
      exchanges_listed = all_listed base s _ _ (λ c. c.exchange) (replicate base.most_records 0) contacts noted.exchanges few;
      points_listed = all_listed base s _ _ (λ c. c.points) c.args.points.now contacts noted.points (omega arith);
      ends_listed = all_listed base s _ _ (λ c. c.pointsend) c.args.pointsends.now contacts noted.pointsends (omega arith);
    }
