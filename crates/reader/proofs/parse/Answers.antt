-- Each field is read where the one before it ends, and the first bad one is told.
use native.Mathlib.Omega.{arith}
use Rattle.std.specs.Prelude.{Ok}
use Prim.Native.Nat.{◌+◌}
use mathlib.Core.Bool.{Bool, false}
use mathlib.Core.List.{[], ◌∷◌}
use mathlib.Core.Path.{◌≡◌, sym, ap, ◌∙◌}
use lib.ListN.{get_or}
use Rattle.fields.proofs.Picked.{call_picked, call_refused, end_picked, end_refused, mark_picked, mark_refused}
use Rattle.figures.proofs.Picked.{number_picked, number_refused, time_picked, time_refused}
use Rattle.reader.specs.Contact.{last_end, value_by}
use Rattle.reader.specs.Record.{rules_at, score_rule}
use Rattle.rules.specs.Fields.{call, empty_or, error_call, exchange, locator, mode, new_mark, report, serial, time_of_day}
use Rattle.rules.specs.Rules.{base}
use Rattle.rules.specs.Text.{number_of, same}
use Rattle.reader.proofs.FirstLaws.{date_beyond, dated_picked, dated_refused, error_known}
use Rattle.reader.proofs.RecordLaws.{Stands, contact_is, country_is_lem, field_broken, field_kept, fields_told, near, stands_broken, stands_first, stands_next, test_is, tests_are, text_of, worth_is_lem}
use Rattle.reader.proofs.parse.Goals as goal

-- From behind each field to behind the one before it.
abbrev back2 : goal.In-Some-time → goal.In-Some
back2 c = record { before = c.before.before.before; type_inv = record { s = c.type_inv.s } }

abbrev back3 : goal.In-Some-call → goal.In-Some-time
back3 c = record { before = c.before.before.before; type_inv = record { s = c.type_inv.s } }

abbrev back4 : goal.In-Some-mode → goal.In-Some-call
back4 c = record { before = c.before.before.before; type_inv = record { s = c.type_inv.s } }

abbrev back5 : goal.In-Some-report → goal.In-Some-mode
back5 c = record { before = c.before.before.before; type_inv = record { s = c.type_inv.s } }

abbrev back6 : goal.In-Some-serial → goal.In-Some-report
back6 c = record { before = c.before.before.before; type_inv = record { s = c.type_inv.s } }

abbrev back7 : goal.In-Some-report-2 → goal.In-Some-serial
back7 c = record { before = c.before.before.before; type_inv = record { s = c.type_inv.s } }

abbrev back8 : goal.In-Some-serial-2 → goal.In-Some-report-2
back8 c = record { before = c.before.before.before; type_inv = record { s = c.type_inv.s } }

abbrev back9 : goal.In-Some-exchange → goal.In-Some-serial-2
back9 c = record { before = c.before.before.before; type_inv = record { s = c.type_inv.s } }

abbrev back10 : goal.In-Some-locator_or_empty → goal.In-Some-exchange
back10 c = record { before = c.before.before.before; type_inv = record { s = c.type_inv.s } }

abbrev back11 : goal.In-Some-scored → goal.In-Some-locator_or_empty
back11 c = record { before = c.before.before.before; type_inv = record { s = c.type_inv.s } }

abbrev back12 : goal.In-Some-mark → goal.In-Some-scored
back12 c = record { before = c.before.before.before; type_inv = record { s = c.type_inv.s } }

abbrev back13 : goal.In-Some-mark-2 → goal.In-Some-mark
back13 c = record { before = c.before.before.before; type_inv = record { s = c.type_inv.s } }

abbrev back14 : goal.In-Some-mark-3 → goal.In-Some-mark-2
back14 c = record { before = c.before.before.before; type_inv = record { s = c.type_inv.s } }

-- What stands behind each field, by what stands behind the one before it.
stands1 : (c : goal.In-Some) → Stands base c.args.s.now c.args.at 1 (c.in-Some.date + 1)
stands1 c =
    let q = dated_picked _ _ (sym c.dated.ensures ∙ c.in-Some.is) in
    stands_next (stands_first base _ _) q.1 (test_is base _ _ 0 (tests_are base _ _) ∙ q.0)

stands2 : (c : goal.In-Some-time) → Stands base c.args.s.now c.args.at 2 (c.in-Some-time.time + 1)
stands2 c =
    let q = time_picked _ _ (sym c.time.ensures ∙ c.in-Some-time.is) in
    field_kept (stands1 (back2 c)) time_of_day (test_is base _ _ 1 (tests_are base _ _)) (record { holds = q.0; ending = q.2 })

stands3 : (c : goal.In-Some-call) → Stands base c.args.s.now c.args.at 3 (c.in-Some-call.field-0.end + 1)
stands3 c = field_kept (stands2 (back3 c)) call (test_is base _ _ 2 (tests_are base _ _)) (call_picked _ _ _ (sym c.call.ensures ∙ c.in-Some-call.is)).0

stands4 : (c : goal.In-Some-mode) → Stands base c.args.s.now c.args.at 4 (c.in-Some-mode.mode + 1)
stands4 c = field_kept (stands3 (back4 c)) mode (test_is base _ _ 3 (tests_are base _ _)) (end_picked _ _ _ (sym c.mode.ensures ∙ c.in-Some-mode.is))

stands5 : (c : goal.In-Some-report) → Stands base c.args.s.now c.args.at 5 (c.in-Some-report.sent + 1)
stands5 c = field_kept (stands4 (back5 c)) report (test_is base _ _ 4 (tests_are base _ _)) (end_picked _ _ _ (sym c.report.ensures ∙ c.in-Some-report.is))

stands6 : (c : goal.In-Some-serial) → Stands base c.args.s.now c.args.at 6 (c.in-Some-serial.sentnumber + 1)
stands6 c = field_kept (stands5 (back6 c)) serial (test_is base _ _ 5 (tests_are base _ _)) (end_picked _ _ _ (sym c.serial.ensures ∙ c.in-Some-serial.is))

stands7 : (c : goal.In-Some-report-2) → Stands base c.args.s.now c.args.at 7 (c.in-Some-report-2.received + 1)
stands7 c = field_kept (stands6 (back7 c)) report (test_is base _ _ 6 (tests_are base _ _)) (end_picked _ _ _ (sym c.report-2.ensures ∙ c.in-Some-report-2.is))

stands8 : (c : goal.In-Some-serial-2) → Stands base c.args.s.now c.args.at 8 (c.in-Some-serial-2.receivednumber + 1)
stands8 c = field_kept (stands7 (back8 c)) serial (test_is base _ _ 7 (tests_are base _ _)) (end_picked _ _ _ (sym c.serial-2.ensures ∙ c.in-Some-serial-2.is))

stands9 : (c : goal.In-Some-exchange) → Stands base c.args.s.now c.args.at 9 (c.in-Some-exchange.exchangeend + 1)
stands9 c = field_kept (stands8 (back9 c)) (exchange base) (test_is base _ _ 8 (tests_are base _ _)) (end_picked _ _ _ (sym c.exchange.ensures ∙ c.in-Some-exchange.is))

stands10 : (c : goal.In-Some-locator_or_empty) → Stands base c.args.s.now c.args.at 10 (c.in-Some-locator_or_empty.locatorend + 1)
stands10 c = field_kept (stands9 (back10 c)) (empty_or locator) (test_is base _ _ 9 (tests_are base _ _)) (end_picked _ _ _ (sym c.locator_or_empty.ensures ∙ c.in-Some-locator_or_empty.is))

-- Whether the call, read eight fields before, is ERROR.
abbrev call_before : goal.In-Some-locator_or_empty → goal.In-Some-call
call_before c = back4 (back5 (back6 (back7 (back8 (back9 (back10 c))))))

error_known3 : (c : goal.In-Some-call) → c.in-Some-call.field-0.error ≡ same (text_of c.args.s.now c.args.at 2) error_call
error_known3 c = error_known _ _ 2 (stands2 (back3 c)).place (sym c.call.ensures ∙ c.in-Some-call.is)

points_test : (c : goal.In-Some-locator_or_empty) → get_or (rules_at base c.args.s.now c.args.at) 10 false ≡ score_rule base c.in-Some-call.field-0.error (text_of c.args.s.now c.args.at 10)
points_test c =
    test_is base _ _ 10 (tests_are base _ _)
    ∙ ap (λ (b : Bool). score_rule base b (text_of c.args.s.now c.args.at 10)) (sym (error_known3 (call_before c)))

stands11 : (c : goal.In-Some-scored) → Stands base c.args.s.now c.args.at 11 (c.in-Some-scored.pointsend + 1)
stands11 c =
    let q = number_picked _ _ _ (sym c.scored.ensures ∙ c.in-Some-scored.is) in
    field_kept (stands10 (back11 c)) (score_rule base _) (points_test (back11 c)) (record { holds = q.0; ending = q.2 })

stands12 : (c : goal.In-Some-mark) → Stands base c.args.s.now c.args.at 12 (c.in-Some-mark.field-0.end + 1)
stands12 c = field_kept (stands11 (back12 c)) (empty_or (same (78 ∷ []))) (test_is base _ _ 11 (tests_are base _ _)) (mark_picked _ _ _ (sym c.mark.ensures ∙ c.in-Some-mark.is)).0

stands13 : (c : goal.In-Some-mark-2) → Stands base c.args.s.now c.args.at 13 (c.in-Some-mark-2.field-0.end + 1)
stands13 c = field_kept (stands12 (back13 c)) (empty_or (same (78 ∷ []))) (test_is base _ _ 12 (tests_are base _ _)) (mark_picked _ _ _ (sym c.mark-2.ensures ∙ c.in-Some-mark-2.is)).0

stands14 : (c : goal.In-Some-mark-3) → Stands base c.args.s.now c.args.at 14 (c.in-Some-mark-3.field-0.end + 1)
stands14 c = field_kept (stands13 (back14 c)) (empty_or (same (78 ∷ []))) (test_is base _ _ 13 (tests_are base _ _)) (mark_picked _ _ _ (sym c.mark-3.ensures ∙ c.in-Some-mark-3.is)).0

-- The worth of the points, and the mark of a new country.
worth11 : (c : goal.In-Some-scored) → c.in-Some-scored.worth ≡ value_by (number_of base.points_digits) (text_of c.args.s.now c.args.at 10)
worth11 c =
    let q = number_picked _ _ _ (sym c.scored.ensures ∙ c.in-Some-scored.is) in
    worth_is_lem base _ _ c.in-Some-call.field-0.error 10 (stands10 (back11 c)).place q.0 q.1

country14 : (c : goal.In-Some-mark-3) → c.in-Some-mark-3.field-0.set ≡ same (text_of c.args.s.now c.args.at 13) new_mark
country14 c =
    let q = mark_picked _ _ _ (sym c.mark-3.ensures ∙ c.in-Some-mark-3.is) in
    country_is_lem base _ _ 13 (stands13 (back14 c)).place q.0.holds q.1

pub returns-then-s-at : goal.returns-then-s-at
returns-then-s-at c =
    stands_broken (stands_first base _ _) (omega arith) (test_is base _ _ 0 (tests_are base _ _) ∙ date_beyond _ _ c.if-s-at.true)

pub returns-in_default : goal.returns-in_default
returns-in_default c =
    stands_broken (stands_first base _ _) (omega arith)
    (test_is base _ _ 0 (tests_are base _ _) ∙ dated_refused _ _ (sym c.dated.ensures ∙ c.in_default.is))

pub overflow_add-date : goal.overflow_add-date
overflow_add-date c = omega (arith, near (stands1 c) (omega (arith, c.if-s-at.false)), c.well_formed.0.1)

pub returns-in_default-time : goal.returns-in_default-time
returns-in_default-time c =
    field_broken (stands1 (record { before = c.before.before.before; type_inv = record { s = c.type_inv.s } })) time_of_day (test_is base _ _ 1 (tests_are base _ _)) (omega arith) (time_refused _ _ (sym c.time.ensures ∙ c.in_default-time.is))

pub overflow_add-call : goal.overflow_add-call
overflow_add-call c = omega (arith, near (stands2 c) (omega (arith, c.if-s-at.false)), c.well_formed.0.1)

pub returns-in_default-call : goal.returns-in_default-call
returns-in_default-call c =
    field_broken (stands2 (record { before = c.before.before.before; type_inv = record { s = c.type_inv.s } })) call (test_is base _ _ 2 (tests_are base _ _)) (omega arith) (call_refused _ _ _ (sym c.call.ensures ∙ c.in_default-call.is))

pub overflow_add-callend : goal.overflow_add-callend
overflow_add-callend c = omega (arith, near (stands3 c) (omega (arith, c.if-s-at.false)), c.well_formed.0.1)

pub returns-in_default-mode : goal.returns-in_default-mode
returns-in_default-mode c =
    field_broken (stands3 (record { before = c.before.before.before; type_inv = record { s = c.type_inv.s } })) mode (test_is base _ _ 3 (tests_are base _ _)) (omega arith) (end_refused _ _ _ (sym c.mode.ensures ∙ c.in_default-mode.is))

pub overflow_add-mode : goal.overflow_add-mode
overflow_add-mode c = omega (arith, near (stands4 c) (omega (arith, c.if-s-at.false)), c.well_formed.0.1)

pub returns-in_default-report : goal.returns-in_default-report
returns-in_default-report c =
    field_broken (stands4 (record { before = c.before.before.before; type_inv = record { s = c.type_inv.s } })) report (test_is base _ _ 4 (tests_are base _ _)) (omega arith) (end_refused _ _ _ (sym c.report.ensures ∙ c.in_default-report.is))

pub overflow_add-sent : goal.overflow_add-sent
overflow_add-sent c = omega (arith, near (stands5 c) (omega (arith, c.if-s-at.false)), c.well_formed.0.1)

pub returns-in_default-serial : goal.returns-in_default-serial
returns-in_default-serial c =
    field_broken (stands5 (record { before = c.before.before.before; type_inv = record { s = c.type_inv.s } })) serial (test_is base _ _ 5 (tests_are base _ _)) (omega arith) (end_refused _ _ _ (sym c.serial.ensures ∙ c.in_default-serial.is))

pub overflow_add-sentnumber : goal.overflow_add-sentnumber
overflow_add-sentnumber c = omega (arith, near (stands6 c) (omega (arith, c.if-s-at.false)), c.well_formed.0.1)

pub returns-in_default-report-2 : goal.returns-in_default-report-2
returns-in_default-report-2 c =
    field_broken (stands6 (record { before = c.before.before.before; type_inv = record { s = c.type_inv.s } })) report (test_is base _ _ 6 (tests_are base _ _)) (omega arith) (end_refused _ _ _ (sym c.report-2.ensures ∙ c.in_default-report-2.is))

pub overflow_add-received : goal.overflow_add-received
overflow_add-received c = omega (arith, near (stands7 c) (omega (arith, c.if-s-at.false)), c.well_formed.0.1)

pub returns-in_default-serial-2 : goal.returns-in_default-serial-2
returns-in_default-serial-2 c =
    field_broken (stands7 (record { before = c.before.before.before; type_inv = record { s = c.type_inv.s } })) serial (test_is base _ _ 7 (tests_are base _ _)) (omega arith) (end_refused _ _ _ (sym c.serial-2.ensures ∙ c.in_default-serial-2.is))

pub overflow_add-exchange : goal.overflow_add-exchange
overflow_add-exchange c = omega (arith, near (stands8 c) (omega (arith, c.if-s-at.false)), c.well_formed.0.1)

pub returns-in_default-exchange : goal.returns-in_default-exchange
returns-in_default-exchange c =
    field_broken (stands8 (record { before = c.before.before.before; type_inv = record { s = c.type_inv.s } })) (exchange base) (test_is base _ _ 8 (tests_are base _ _)) (omega arith) (end_refused _ _ _ (sym c.exchange.ensures ∙ c.in_default-exchange.is))

pub overflow_add-locator : goal.overflow_add-locator
overflow_add-locator c = omega (arith, near (stands9 c) (omega (arith, c.if-s-at.false)), c.well_formed.0.1)

pub returns-in_default-locator_or_empty : goal.returns-in_default-locator_or_empty
returns-in_default-locator_or_empty c =
    field_broken (stands9 (record { before = c.before.before.before; type_inv = record { s = c.type_inv.s } })) (empty_or locator) (test_is base _ _ 9 (tests_are base _ _)) (omega arith) (end_refused _ _ _ (sym c.locator_or_empty.ensures ∙ c.in_default-locator_or_empty.is))

pub overflow_add-points : goal.overflow_add-points
overflow_add-points c = omega (arith, near (stands10 c) (omega (arith, c.if-s-at.false)), c.well_formed.0.1)

pub returns-in_default-scored : goal.returns-in_default-scored
returns-in_default-scored c =
    field_broken (stands10 (record { before = c.before.before.before; type_inv = record { s = c.type_inv.s } })) (score_rule base _) (points_test (record { before = c.before.before.before; type_inv = record { s = c.type_inv.s } })) (omega arith) (number_refused _ _ _ (sym c.scored.ensures ∙ c.in_default-scored.is))

pub overflow_add-pointsend : goal.overflow_add-pointsend
overflow_add-pointsend c = omega (arith, near (stands11 c) (omega (arith, c.if-s-at.false)), c.well_formed.0.1)

pub returns-in_default-mark : goal.returns-in_default-mark
returns-in_default-mark c =
    field_broken (stands11 (record { before = c.before.before.before; type_inv = record { s = c.type_inv.s } })) (empty_or (same (78 ∷ []))) (test_is base _ _ 11 (tests_are base _ _)) (omega arith) (mark_refused _ _ _ (sym c.mark.ensures ∙ c.in_default-mark.is))

pub overflow_add-newexchange : goal.overflow_add-newexchange
overflow_add-newexchange c = omega (arith, near (stands12 c) (omega (arith, c.if-s-at.false)), c.well_formed.0.1)

pub returns-in_default-mark-2 : goal.returns-in_default-mark-2
returns-in_default-mark-2 c =
    field_broken (stands12 (record { before = c.before.before.before; type_inv = record { s = c.type_inv.s } })) (empty_or (same (78 ∷ []))) (test_is base _ _ 12 (tests_are base _ _)) (omega arith) (mark_refused _ _ _ (sym c.mark-2.ensures ∙ c.in_default-mark-2.is))

pub overflow_add-newsquare : goal.overflow_add-newsquare
overflow_add-newsquare c = omega (arith, near (stands13 c) (omega (arith, c.if-s-at.false)), c.well_formed.0.1)

pub returns-in_default-mark-3 : goal.returns-in_default-mark-3
returns-in_default-mark-3 c =
    field_broken (stands13 (record { before = c.before.before.before; type_inv = record { s = c.type_inv.s } })) (empty_or (same (78 ∷ []))) (test_is base _ _ 13 (tests_are base _ _)) (omega arith) (mark_refused _ _ _ (sym c.mark-3.ensures ∙ c.in_default-mark-3.is))

pub overflow_add-newcountry : goal.overflow_add-newcountry
overflow_add-newcountry c = omega (arith, near (stands14 c) (omega (arith, c.if-s-at.false)), c.well_formed.0.1)

pub returns : goal.returns
returns c =
    let d14 : goal.In-Some-mark-3 = record { before = c.before.before; type_inv = record { s = c.type_inv.s } } in
    let d11 = back12 (back13 (back14 d14)) in
    let d10 = back11 d11 in
    let d9 = back10 d10 in
    let d8 = back9 d9 in
    let d3 = call_before d10 in
    ap Ok
    (contact_is base c.args.s.now c.args.at (stands2 (back3 d3)).place (stands3 d3).place (stands8 d8).place (stands9 d9).place (stands10 d10).place (stands11 d11).place (worth11 d11)
    (error_known3 d3) (country14 d14) (c.last_end-end.ensures ∙ ap (last_end c.args.s.now) (stands14 d14).place))
    ∙ fields_told (stands14 d14)
