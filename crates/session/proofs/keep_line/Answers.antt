-- A line that is no record is refused, then one for which there is no place; any other is kept.
use Rattle.std.proofs.Common.{arith, refl, sym, ◌∙◌, ◌≡◌}
use Rattle.std.specs.Prelude.{Err}
use Rattle.rules.specs.Rules.{base}
use Rattle.reader.proofs.LineHeld.{alone_told, kept_rule}
use Rattle.session.proofs.StepLaws.{keeps_stopped, keeps_full, keeps_one}
use Rattle.session.proofs.keep_line.Goals as goal

-- It is no record.
pub returns-in_err-c-clause-answer : goal.returns-in_err-c-clause-answer
returns-in_err-c-clause-answer c =
    let handed : c.from_residual.result ≡ Err c.in_err-c.field-0.0 = grind arith in
    (keeps_stopped base _ _ _ _ _ (sym c.record.ensures ∙ c.in_err-c.was) handed).0

pub returns-in_err-c-clause-verdicts : goal.returns-in_err-c-clause-verdicts
returns-in_err-c-clause-verdicts c =
    let handed : c.from_residual.result ≡ Err c.in_err-c.field-0.0 = grind arith in
    (keeps_stopped base _ c.args.n c.args.width c.args.verdicts.now c.args.kept.now (sym c.record.ensures ∙ c.in_err-c.was) handed).1.0

pub returns-in_err-c-clause-kept : goal.returns-in_err-c-clause-kept
returns-in_err-c-clause-kept c =
    let handed : c.from_residual.result ≡ Err c.in_err-c.field-0.0 = grind arith in
    (keeps_stopped base _ c.args.n c.args.width c.args.verdicts.now c.args.kept.now (sym c.record.ensures ∙ c.in_err-c.was) handed).1.1

-- There is no place for it.
pub returns-then-not-has_place-clause-answer : goal.returns-then-not-has_place-clause-answer
returns-then-not-has_place-clause-answer c =
    (keeps_full base _ _ _ _ _ (kept_rule base _ (sym c.record.ensures ∙ c.in_ok-c.was)) (sym c.has_place.ensures ∙ c.if-not-has_place.true) refl).0

pub returns-then-not-has_place-clause-verdicts : goal.returns-then-not-has_place-clause-verdicts
returns-then-not-has_place-clause-verdicts c =
    (keeps_full base _ _ _ _ _ (kept_rule base _ (sym c.record.ensures ∙ c.in_ok-c.was)) (sym c.has_place.ensures ∙ c.if-not-has_place.true) refl).1.0

pub returns-then-not-has_place-clause-kept : goal.returns-then-not-has_place-clause-kept
returns-then-not-has_place-clause-kept c =
    (keeps_full base _ _ _ _ _ (kept_rule base _ (sym c.record.ensures ∙ c.in_ok-c.was)) (sym c.has_place.ensures ∙ c.if-not-has_place.true) refl).1.1

-- It is kept.
pub keep_record-requires : goal.keep_record-requires
keep_record-requires c = (alone_told base _ (sym c.record.ensures ∙ c.in_ok-c.was), sym c.has_place.ensures ∙ c.if-not-has_place.false)

pub returns-clause-answer : goal.returns-clause-answer
returns-clause-answer c =
    let e = c.keep_record.ensures in
    (keeps_one base _ _ _ _ _ (kept_rule base _ (sym c.record.ensures ∙ c.in_ok-c.was)) (sym c.has_place.ensures ∙ c.if-not-has_place.false) (e.answer, (e.verdicts, e.kept))).0

pub returns-clause-verdicts : goal.returns-clause-verdicts
returns-clause-verdicts c =
    let e = c.keep_record.ensures in
    (keeps_one base _ _ _ _ _ (kept_rule base _ (sym c.record.ensures ∙ c.in_ok-c.was)) (sym c.has_place.ensures ∙ c.if-not-has_place.false) (e.answer, (e.verdicts, e.kept))).1.0

pub returns-clause-kept : goal.returns-clause-kept
returns-clause-kept c =
    let e = c.keep_record.ensures in
    (keeps_one base _ _ _ _ _ (kept_rule base _ (sym c.record.ensures ∙ c.in_ok-c.was)) (sym c.has_place.ensures ∙ c.if-not-has_place.false) (e.answer, (e.verdicts, e.kept))).1.1
