-- Laws of the calendar: leap years, the lengths of months, and the days that exist.
-- Assumes nothing.
use Prim.Native.Nat.{ℕ, zero, suc, ◌+◌, ◌-◌, ◌%◌, ◌≤◌, ◌<◌}
use native.Mathlib.Nat.{add-zero}
use native.Mathlib.Omega.{arith}
use mathlib.Core.Bool.{Bool, true, false, not, ◌&&◌, and-false, and-true, or-false, or-true}
use mathlib.Core.List.{List, [], ◌∷◌}
use mathlib.Core.Path.{◌≡◌, refl, sym, ap, ◌∙◌}
use lib.Dec.{leb, eqb}
use lib.ListN.{length, get_or}
use borrow.Author.Tests.{not-true, eqb-true, eq-eqb, ne_eqb, le-leb, lt-leb}
use Rattle.rules.specs.Fields.{month_lengths, leap, month_length, day_exists, full_year}
use Rattle.rules.proofs.Tests.{and_l, and_r}
use Rattle.figures.proofs.Turns.{turn, common, february}

module _ (year : ℕ) where
  pub leap_four_hundred : year % 400 ≡ 0 → true ≡ leap year
  unfolding leap
  leap_four_hundred h = rw (eq-eqb (year % 400) 0 h, or-true)

  pub leap_hundred : (year % 400 ≡ 0 → ⊥) → year % 100 ≡ 0 → false ≡ leap year
  unfolding leap
  leap_hundred h c = rw (ne_eqb (year % 400) 0 h, eq-eqb (year % 100) 0 c, and-false)

  pub leap_four : (year % 400 ≡ 0 → ⊥) → (year % 100 ≡ 0 → ⊥) → eqb (year % 4) 0 ≡ leap year
  unfolding leap
  leap_four h c = rw (ne_eqb (year % 400) 0 h, ne_eqb (year % 100) 0 c, and-true, or-false)

-- A formula gives the numbers of a list, the first of them at a place and each other one place further on.
unfoldable gives : (ℕ → ℕ) → ℕ → List ℕ → Bool
gives f at [] = true
gives f at (n ∷ l) = eqb (f at) n && gives f (at + 1) l

each_given : (f : ℕ → ℕ) (at : ℕ) (l : List ℕ) (i : ℕ) → gives f at l ≡ true → i < length l → f (at + i) ≡ get_or l i 0
unfolding gives
each_given f at [] i t h = absurd (omega arith)
each_given f at (n ∷ l) zero t h = ap f (add-zero at) ∙ eqb-true (f at) n (and_l (eqb (f at) n) (gives f (at + 1) l) t)
each_given f at (n ∷ l) (suc i) t h =
    let further : at + suc i ≡ at + 1 + i = omega arith in
    ap f further ∙ each_given f (at + 1) l i (and_r (eqb (f at) n) (gives f (at + 1) l) t) (omega (arith, h))

-- From the first month on they are the calendar's twelve.
twelve : gives common 1 month_lengths ≡ true
unfolding common gives month_lengths
twelve = refl

common_length : (month : ℕ) → (1 ≤ month) × (month ≤ 12) → common month ≡ get_or month_lengths (month - 1) 0
unfolding month_lengths
common_length month is =
    let place : month ≡ 1 + (month - 1) = omega (arith, is.0) in
    ap common place ∙ each_given common 1 month_lengths (month - 1) twelve (omega (arith, is.0, is.1))

module _ (year month : ℕ) where
  module _ (is : (1 ≤ month) × (month ≤ 12)) where
    pub length_plain : (month ≡ 2 → ⊥) → turn month ≡ month_length year month
    unfolding month_length common
    length_plain h = rw (sym (common_length month is), ne_eqb month 2 h) (omega arith)

    pub length_common : month ≡ 2 → not (leap year) ≡ true → february month ≡ month_length year month
    unfolding month_length common
    length_common e h = rw (sym (common_length month is), eq-eqb month 2 e, not-true (leap year) h) (omega arith)

    pub length_leap : month ≡ 2 → leap year ≡ true → turn month - 1 ≡ month_length year month
    unfolding month_length common
    length_leap e h = rw (sym (common_length month is), eq-eqb month 2 e, h) (omega arith)

  module _ (day : ℕ) where
    pub exists_no_month : month < 1 → false ≡ day_exists year month day
    unfolding day_exists
    exists_no_month h = rw (lt-leb 1 month h)

    pub exists_beyond : 1 ≤ month → 12 < month → false ≡ day_exists year month day
    unfolding day_exists
    exists_beyond h k = rw (le-leb 1 month h, lt-leb month 12 k)

    pub exists_no_day : 1 ≤ month → month ≤ 12 → day < 1 → false ≡ day_exists year month day
    unfolding day_exists
    exists_no_day h k l = rw (le-leb 1 month h, le-leb month 12 k, lt-leb 1 day l)

    pub exists_within : {days : ℕ} → 1 ≤ month → month ≤ 12 → 1 ≤ day → days ≡ month_length year month
        → leb day days ≡ day_exists year month day
    unfolding day_exists
    exists_within h k l e = rw (le-leb 1 month h, le-leb month 12 k, le-leb 1 day l, e)

pub year_ninety : (yy : ℕ) → 90 ≤ yy → 1900 + yy ≡ full_year yy
unfolding full_year
year_ninety yy h = rw (le-leb 90 yy h)

pub year_later : (yy : ℕ) → yy < 90 → 2000 + yy ≡ full_year yy
unfolding full_year
year_later yy h = rw (lt-leb 90 yy h)
