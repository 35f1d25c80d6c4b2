-- `striker::strike` meets its contract: what the reader tells of an accepted log is what striking asks for, and a refusal is the reader's.
-- Assumes nothing.
use mathlib.Core.Path.{refl}
use lib.ListN.{replicate}
use lib.Seq.{length-take-le}
use Rattle.std.proofs.Common.{sym, ◌∙◌}
use Rattle.std.proofs.lemmas.Result.{err_from_is_err_and}
use Rattle.rules.specs.Rules.{base}
use Rattle.reader.proofs.WholeLaws.{contacts_accepted}
use Rattle.striker.proofs.StruckLaws.{many_noted, strikable, unread_told}
use Rattle.striker.proofs.strike.Goals as goal

pub returns-in_err-read-clause-answer : goal.returns-in_err-read-clause-answer
returns-in_err-read-clause-answer c =
    let p = err_from_is_err_and c.from_residual.result c.from_residual.ensures.1 in
    let told = unread_told base _ (sym c.survey.ensures.answer ∙ c.in_err-read.was) c.args.struck.now c.args.out.now in
    rw (p.1, p.2) told.0

pub returns-in_err-read-clause-slice : goal.returns-in_err-read-clause-slice
returns-in_err-read-clause-slice c =
    let told = unread_told base _ (sym c.survey.ensures.answer ∙ c.in_err-read.was) c.args.struck.now c.args.out.now in
    told.1

pub slice_bounds-ends-end : goal.slice_bounds-ends-end
unfolding base
slice_bounds-ends-end c =
    many_noted base _ (sym c.survey.ensures.answer ∙ c.in_ok-read.was) (contacts_accepted base c.args.log.now) (replicate base.most_records 0) refl c.survey.ensures.ends

pub slice_bounds-strike_read-end : goal.slice_bounds-strike_read-end
unfolding base
slice_bounds-strike_read-end c =
    let many =
    many_noted base _ (sym c.survey.ensures.answer ∙ c.in_ok-read.was) (contacts_accepted base c.args.log.now) (replicate base.most_records 0) refl c.survey.ensures.ends in
    sym (length-take-le _ _ many)

pub strike_read-requires : goal.strike_read-requires
unfolding base
strike_read-requires c =
    strikable base _ (sym c.survey.ensures.answer ∙ c.in_ok-read.was) (contacts_accepted base c.args.log.now) (replicate base.most_records 0) refl c.survey.ensures.ends
