-- A long date is read as the definition says: eight digits, a year in the window, and a day that exists.
use native.Mathlib.Omega.{arith}
use mathlib.Core.Path.{sym, ◌∙◌}
use Rattle.figures.proofs.DateLaws.{long_date_unended, long_date_other, long_date_below, long_date_early, long_date_late, long_date_no_day, long_date_good}
use Rattle.figures.proofs.NumberLaws.{end_here}
use Rattle.figures.proofs.long_date.Goals.{then-year-lt1990-via-then-year-lt1990, then-year-lt1990-via-else-year-lt1990+then-year-gt2089}
use Rattle.figures.proofs.long_date.Goals as goal

pub returns-then-not-ends : goal.returns-then-not-ends
returns-then-not-ends c = long_date_unended _ _ _ c.read_digits-digits.ensures (rw (sym c.ends.ensures ∙ c.if-not-ends.true))

pub overflow_sub-end : goal.overflow_sub-end
overflow_sub-end c = omega (arith, end_here _ _ _ _ c.read_digits-digits.ensures (sym c.ends.ensures ∙ c.if-not-ends.false))

pub returns-then-end-at-ne8 : goal.returns-then-end-at-ne8
returns-then-end-at-ne8 c =
    long_date_other _ _ _ c.read_digits-digits.ensures (sym c.ends.ensures ∙ c.if-not-ends.false) c.if-end-at-ne8.true

pub overflow_cast-value : goal.overflow_cast-value
overflow_cast-value c =
    omega (arith, long_date_below _ _ _ c.read_digits-digits.ensures (sym c.ends.ensures ∙ c.if-not-ends.false) c.if-end-at-ne8.false)

pub returns-then-year-lt1990 : goal.returns-then-year-lt1990
returns-then-year-lt1990 c =
    elim c.then-year-lt1990.branch [
      | then-year-lt1990-via-then-year-lt1990 w ↦
          long_date_early _ _ _ c.read_digits-digits.ensures (sym c.ends.ensures ∙ c.if-not-ends.false) c.if-end-at-ne8.false
          w.if-year-lt1990.true
      | then-year-lt1990-via-else-year-lt1990+then-year-gt2089 w ↦
          long_date_late _ _ _ c.read_digits-digits.ensures (sym c.ends.ensures ∙ c.if-not-ends.false) c.if-end-at-ne8.false
          w.if-year-lt1990.false w.if-year-gt2089.true
    ]

pub returns-then-not-day_exists : goal.returns-then-not-day_exists
returns-then-not-day_exists c =
    long_date_no_day _ _ _ c.read_digits-digits.ensures (sym c.ends.ensures ∙ c.if-not-ends.false) c.if-end-at-ne8.false
    c.if-year-lt1990.false c.if-year-gt2089.false c.day_exists.ensures (rw c.if-not-day_exists.true)

pub returns : goal.returns
returns c =
    long_date_good _ _ _ c.read_digits-digits.ensures (sym c.ends.ensures ∙ c.if-not-ends.false) c.if-end-at-ne8.false
    c.if-year-lt1990.false c.if-year-gt2089.false c.day_exists.ensures (rw c.if-not-day_exists.false)
