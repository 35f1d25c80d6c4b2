-- Two dates: each part is one, the last ends with the text, and the first is not behind it.
use Prim.Native.Nat.{ℕ, ◌+◌}
use native.Mathlib.Omega.{arith}
use mathlib.Core.List.{[], ◌∷◌}
use mathlib.Core.Path.{◌≡◌, sym, ◌∙◌}
use Rattle.std.specs.Prelude.{Some}
use borrow.Author.Tests.{eq-eqb, ne_eqb}
use Rattle.rules.specs.Fields.{long_date}
use Rattle.rules.specs.Rules.{base}
use Rattle.rules.specs.Text.{Text}
use Rattle.fields.proofs.PartLaws.{end_within}
use Rattle.figures.specs.Figure.{long_date_at}
use Rattle.figures.proofs.Picked.{number_refused}
use Rattle.header.proofs.DateLaws.{date_kept, dates, no_dates, dates_compared}
use Rattle.header.proofs.DueLaws.{Due, due_first, due_next, due_broken, due_last}
use Rattle.header.proofs.is_two_dates.Goals as goal

-- The last date is due behind the first.
behind_first : (t : Text) {v e : ℕ} → long_date_at t 0 ≡ Some (v, e) → Due dates (long_date ∷ []) t (e + 1)
behind_first t p = due_next (due_first dates t) (date_kept t 0 p).0

pub returns-in_default : goal.returns-in_default
returns-in_default c =
    no_dates base _ (due_broken (due_first dates c.args.t.now) (number_refused long_date _ 0 (sym c.long_date.ensures ∙ c.in_default.is)))

pub overflow_add-between : goal.overflow_add-between
overflow_add-between c =
    omega (arith, (date_kept c.args.t.now 0 (sym c.long_date.ensures ∙ c.in-Some.is)).0.ending, end_within c.args.t.now 0)

pub returns-in_default-long_date : goal.returns-in_default-long_date
returns-in_default-long_date c =
    no_dates base _
    (due_broken (behind_first c.args.t.now (sym c.long_date.ensures ∙ c.in-Some.is))
    (number_refused long_date _ _ (sym c.long_date-2.ensures ∙ c.in_default-long_date.is)))

pub returns-then-end-t : goal.returns-then-end-t
returns-then-end-t c =
    let t = c.args.t.now in
    let last = date_kept t (c.in-Some.between + 1) (sym c.long_date-2.ensures ∙ c.in-Some-long_date.is) in
    no_dates base t
    (sym (ne_eqb _ _ c.if-end-t.true) ∙ due_last (behind_first t (sym c.long_date.ensures ∙ c.in-Some.is)) last.0)

pub returns : goal.returns
returns c =
    let t = c.args.t.now in
    let first = date_kept t 0 (sym c.long_date.ensures ∙ c.in-Some.is) in
    let last = date_kept t (c.in-Some.between + 1) (sym c.long_date-2.ensures ∙ c.in-Some-long_date.is) in
    dates_compared base t first.0 first.1 last.1
    (sym (eq-eqb _ _ c.if-end-t.false) ∙ due_last (behind_first t (sym c.long_date.ensures ∙ c.in-Some.is)) last.0)
