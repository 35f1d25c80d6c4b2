-- What each reader answers of the field at a place of a line: where it ends, with what it says, if it keeps its rule; else nothing.
-- Assumes nothing.
use Rattle.std.specs.Prelude.{ℕ, zero, suc, ◌+◌, ◌*◌, ◌/◌, ◌%◌, Bool, cond, [], ◌∷◌, take, drop, Option, Some, None}
use Rattle.rules.specs.Fields.{short_date, long_date, time_of_day}
use Rattle.rules.specs.Text.{Text, digit, empty, value, value_after}
use Rattle.fields.specs.Field.{text_at, end_of}
use Rattle.figures.specs.declared.DateRead.{DateRead}
use Rattle.figures.specs.declared.TimeOfDay.{TimeOfDay}

unfoldable pub date_at : Text → ℕ → DateRead
unfolding text_at end_of short_date
date_at s at =
    cond (short_date (text_at s at)) (DateRead.Date (end_of s at)) (cond (empty (text_at s at)) DateRead.Empty DateRead.Bad)

unfoldable pub time_at : Text → ℕ → Option (TimeOfDay × ℕ)
unfolding text_at end_of time_of_day value
time_at s at =
    cond (time_of_day (text_at s at)) (Some (record { digits = value (text_at s at) }, end_of s at)) None

-- The time that four characters write: two digits of hours and two of minutes.
unfoldable pub time_made : ℕ → ℕ → ℕ → ℕ → Option TimeOfDay
unfolding time_of_day value
time_made a b c d =
    cond (time_of_day (a ∷ b ∷ c ∷ d ∷ [])) (Some (record { digits = value (a ∷ b ∷ c ∷ d ∷ []) })) None

-- The minutes from 0000 on.
unfoldable pub minutes_of : TimeOfDay → ℕ
minutes_of t = 60 * (t.digits / 100) + t.digits % 100

-- A number that keeps a rule, and its value.
unfoldable pub number_at : (Text → Bool) → Text → ℕ → Option (ℕ × ℕ)
unfolding text_at end_of value
number_at rule s at = cond (rule (text_at s at)) (Some (value (text_at s at), end_of s at)) None

-- The value of a number that was read, and 0 where none was.
abbrev pub value_told : Option (ℕ × ℕ) → ℕ
value_told None = 0
value_told (Some number) = number.0

abbrev pub long_date_at : Text → ℕ → Option (ℕ × ℕ)
long_date_at = number_at long_date

-- How many characters at the front are digits, counted no further than so many.
unfoldable pub leading_digits : ℕ → Text → ℕ
leading_digits zero s = 0
leading_digits (suc most) [] = 0
leading_digits (suc most) (c ∷ s) =
    let more = suc (leading_digits most s) in
    cond (digit c) more 0

-- The digits from a place on, and no more than so many, after those that wrote n: what they all write, and the place behind them.
unfoldable pub digits_from : ℕ → ℕ → Text → ℕ → ℕ × ℕ
unfolding leading_digits value_after
digits_from most n s at =
    (value_after n (take (leading_digits most (drop at s)) (drop at s)), at + leading_digits most (drop at s))

unfoldable pub digits_at : ℕ → Text → ℕ → ℕ × ℕ
unfolding digits_from
digits_at most s at = digits_from most 0 s at
