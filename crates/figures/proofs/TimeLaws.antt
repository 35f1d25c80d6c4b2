-- Laws of times of day: what four characters make, what a time says, and the answers of its reader.
-- Assumes nothing.
use Rattle.std.specs.Prelude.{Option, Some, None}
use Prim.Native.Nat.{ℕ, ◌+◌, ◌*◌, ◌-◌, ◌/◌, ◌%◌, ◌≤◌, ◌<◌}
use native.Mathlib.Omega.{arith}
use mathlib.Core.Bool.{true, false, ◌&&◌}
use mathlib.Core.List.{[], ◌∷◌}
use mathlib.Core.Path.{◌≡◌, sym, ap, ◌∙◌}
use lib.Dec.{leb, eqb}
use lib.ListN.{length, take, drop, get_or, length-drop}
use borrow.Author.Tests.{leb-true, eqb-true, le-leb, lt-leb}
use Rattle.std.proofs.lemmas.Option.{none-some}
use Rattle.rules.specs.Fields.{time_of_day}
use Rattle.rules.specs.Text.{Text, digit, all, value, value_after}
use Rattle.rules.proofs.Tests.{and_l, and_r, passed, picked}
use Rattle.fields.specs.Field.{text_at, ends_at, end_of}
use Rattle.figures.specs.declared.TimeOfDay.{TimeOfDay}
use Rattle.figures.specs.Figure.{time_made, time_at}
use Rattle.figures.proofs.ExactLaws.{too_short_lem, not_ended, other_characters, exact_text}
use Rattle.figures.proofs.NumberLaws.{value_split, end_is_length}

-- The number that two digits write.
pub two_digits : (a b : ℕ) → 10 * (a - 48) + (b - 48) ≡ value (a ∷ b ∷ [])
unfolding value value_after
two_digits a b = omega arith

-- The answers on four characters, one for each.
module _ (a b c d : ℕ) where
  abbrev four : Text
  four = a ∷ b ∷ c ∷ d ∷ []

  pub made_kind : all digit four ≡ false → None ≡ time_made a b c d
  unfolding time_made time_of_day
  made_kind h = rw h

  module _ (h : all digit four ≡ true) {hours : ℕ} (e : hours ≡ value (a ∷ b ∷ [])) where
    pub made_hours : 23 < hours → None ≡ time_made a b c d
    unfolding time_made time_of_day
    made_hours l = rw (h, ← e, lt-leb hours 23 l)

    pub made_minutes : {minutes : ℕ} → hours ≤ 23 → minutes ≡ value (c ∷ d ∷ []) → 59 < minutes → None ≡ time_made a b c d
    unfolding time_made time_of_day
    made_minutes {minutes} l m n = rw (h, ← e, le-leb hours 23 l, ← m, lt-leb minutes 59 n)

    pub made_time : {minutes : ℕ} → hours ≤ 23 → minutes ≡ value (c ∷ d ∷ []) → minutes ≤ 59
        → Some (record { digits = 100 * hours + minutes }) ≡ time_made a b c d
    unfolding time_made time_of_day value value_after
    made_time {minutes} l m n =
        rw (h, ← e, le-leb hours 23 l, ← m, le-leb minutes 59 n)
        (ap (λ (k : ℕ). Some (record { digits = k })) (omega arith))

-- What the answer on four characters tells of them.
module _ (a b c d : ℕ) where
  pub made_picked : {t : TimeOfDay} → time_made a b c d ≡ Some t
      → (time_of_day (a ∷ b ∷ c ∷ d ∷ []) ≡ true) × (t.digits ≡ value (a ∷ b ∷ c ∷ d ∷ []))
  unfolding time_made
  made_picked {t} p =
      let q : (time_of_day (a ∷ b ∷ c ∷ d ∷ []) ≡ true) × (Some (record { digits = value (a ∷ b ∷ c ∷ d ∷ []) }) ≡ Some t) = picked (time_of_day (a ∷ b ∷ c ∷ d ∷ [])) p (none-some _) in
      let r : record { digits = value (a ∷ b ∷ c ∷ d ∷ []) } ≡ t = cc in
      (q.0, ap (λ (t : TimeOfDay). t.digits) (sym r))

  pub made_refused : time_made a b c d ≡ None → time_of_day (a ∷ b ∷ c ∷ d ∷ []) ≡ false
  unfolding time_made
  made_refused p = (passed (time_of_day (a ∷ b ∷ c ∷ d ∷ [])) p (λ q. none-some _ (sym q))).0

-- A time has four characters, and all of them are digits.
time_long : (t : Text) → time_of_day t ≡ true → length t ≡ 4
unfolding time_of_day
time_long t h =
    let hours = leb (value (take 2 t)) 23 in
    let minutes = leb (value (drop 2 t)) 59 in
    let long = eqb (length t) 4 in
    eqb-true (length t) 4 (and_l long (all digit t) (and_l (long && all digit t) hours (and_l (long && all digit t && hours) minutes h)))

time_digits : (t : Text) → time_of_day t ≡ true → all digit t ≡ true
unfolding time_of_day
time_digits t h =
    let hours = leb (value (take 2 t)) 23 in
    let minutes = leb (value (drop 2 t)) 59 in
    let long = eqb (length t) 4 in
    and_r long (all digit t) (and_l (long && all digit t) hours (and_l (long && all digit t && hours) minutes h))

-- The hours and the minutes of a time, in the number that it writes; so the last time of a day is 2359, 1439 minutes from the first.
time_parts : (t : Text) → time_of_day t ≡ true
    → (value t ≡ value (take 2 t) * 100 + value (drop 2 t)) × (value (take 2 t) ≤ 23) × (value (drop 2 t) ≤ 59)
unfolding time_of_day
time_parts t h =
    let long = eqb (length t) 4 in
    let hours = leb (value (take 2 t)) 23 in
    let minutes = leb (value (drop 2 t)) 59 in
    let before : (long && all digit t && hours) ≡ true = and_l (long && all digit t && hours) minutes h in
    let two : length (drop 2 t) ≡ 2 = omega (arith, time_long t h, length-drop 2 t) in (
      rw two at (value_split 2 t),
      leb-true (value (take 2 t)) 23 (and_r (long && all digit t) hours before),
      leb-true (value (drop 2 t)) 59 (and_r (long && all digit t && hours) minutes h),
    )

pub time_last : (t : Text) → time_of_day t ≡ true → value t ≤ 2359
time_last t h = omega (arith, time_parts t h)

pub minutes_last : (t : Text) → time_of_day t ≡ true → 60 * (value t / 100) + value t % 100 ≤ 1439
minutes_last t h = omega (arith, time_parts t h)

pub made_within : (a b c d : ℕ) {t : TimeOfDay} → time_made a b c d ≡ Some t → t.digits ≤ 2359
made_within a b c d p =
    omega (arith, (made_picked a b c d p).1, time_last (a ∷ b ∷ c ∷ d ∷ []) (made_picked a b c d p).0)

module _ (s : Text) (at : ℕ) where
  time_bad : time_of_day (text_at s at) ≡ false → None ≡ time_at s at
  unfolding time_at
  time_bad h = rw h

  time_good : {t : TimeOfDay} {e : ℕ} → time_of_day (text_at s at) ≡ true → t.digits ≡ value (text_at s at) → e ≡ end_of s at
      → Some (t, e) ≡ time_at s at
  unfolding time_at
  time_good {t} {e} h p q = rw (h, q) (ap (λ (k : ℕ). Some (record { digits = k }, end_of s at)) p)

  pub time_short : length s < at + 4 → None ≡ time_at s at
  time_short h = time_bad (too_short_lem 4 time_of_day time_long s at (omega arith) h)

  pub time_unended : ends_at s (at + 4) ≡ false → None ≡ time_at s at
  time_unended h = time_bad (not_ended 4 time_of_day time_long s at h)

  abbrev made : Option TimeOfDay
  made = time_made (get_or s at 0) (get_or s (at + 1) 0) (get_or s (at + 2) 0) (get_or s (at + 3) 0)

  pub time_none : at + 4 ≤ length s → made ≡ None → None ≡ time_at s at
  time_none h p = time_bad (other_characters 4 time_of_day time_long s at h (made_refused _ _ _ _ p))

  pub time_some : {t : TimeOfDay} → at + 4 ≤ length s → ends_at s (at + 4) ≡ true → made ≡ Some t
      → Some (t, at + 4) ≡ time_at s at
  time_some h e p =
      let q = made_picked _ _ _ _ p in
      let text = exact_text 4 time_of_day time_long s at h time_digits e q.0 in
      time_good (ap time_of_day text ∙ q.0) (q.1 ∙ ap value (sym text)) (sym (end_is_length s at ∙ ap (λ (t : Text). at + length t) text))
