-- Laws of dates: what their digits say, and the answers of their readers.
-- Assumes nothing.
use Rattle.std.specs.Prelude.{Some, None}
use Prim.Native.Nat.{ℕ, ◌+◌, ◌*◌, ◌-◌, ◌/◌, ◌%◌, ◌≤◌, ◌<◌}
use native.Mathlib.Omega.{arith}
use mathlib.Core.Bool.{Bool, true, false, not, ◌&&◌}
use mathlib.Core.List.{[], ◌∷◌}
use mathlib.Core.Path.{◌≡◌, refl, sym, ap, ◌∙◌}
use lib.Dec.{leb, eqb}
use lib.ListN.{length, take, drop, length-drop}
use lib.Seq.{drop-drop}
use borrow.Author.Tests.{not-true, not-false, eq-eqb, ne_eqb, eqb-true, le-leb, lt-leb}
use Rattle.rules.specs.Fields.{day_exists, full_year, short_date, long_date}
use Rattle.rules.specs.Text.{Text, digit, all, value}
use Rattle.rules.proofs.NumberLaws.{value_below}
use Rattle.rules.proofs.Tests.{and_l, and_r}
use Rattle.rules.proofs.TextLaws.{all_drop}
use Rattle.fields.specs.Field.{text_at, ends_at}
use Rattle.fields.proofs.FieldLaws.{characters}
use Rattle.fields.proofs.ShapeLaws.{ended_text}
use Rattle.figures.specs.declared.DateRead.{DateRead}
use Rattle.figures.specs.Figure.{digits_at, date_at, long_date_at, number_at}
use Rattle.figures.proofs.ExactLaws.{too_short_lem, not_ended, other_characters, exact_text}
use Rattle.figures.proofs.NumberLaws.{value_split, is_read_lem, not_read, end_here, end_is_length}

-- The year, the month and the day of a date's digits, from the number that they write.
module _ (k : ℕ) (t : Text) (l : length t ≡ k + 4) (h : all digit t ≡ true) where
  rest : length (drop k t) ≡ 4
  rest = omega (arith, length-drop k t)

  last : length (drop (k + 2) t) ≡ 2
  last = omega (arith, length-drop (k + 2) t)

  whole_is : value t ≡ value (take k t) * 10000 + value (drop k t)
  whole_is = rw rest at (value_split k t)

  rest_is : value (drop k t) ≡ value (take 2 (drop k t)) * 100 + value (drop (k + 2) t)
  rest_is = rw (drop-drop, last) at (value_split 2 (drop k t))

  rest_below : value (drop k t) < 10000
  rest_below = rw rest at (value_below (drop k t) (all_drop digit k t h))

  last_below : value (drop (k + 2) t) < 100
  last_below = rw last at (value_below (drop (k + 2) t) (all_drop digit (k + 2) t h))

  pub year_is : value (take k t) ≡ value t / 10000
  year_is = omega (arith, whole_is, rest_below)

  pub month_is : value (take 2 (drop k t)) ≡ value t / 100 % 100
  month_is = omega (arith, whole_is, rest_is, rest_below, last_below)

  pub day_is : value (drop (k + 2) t) ≡ value t % 100
  day_is = omega (arith, whole_is, rest_is, last_below)

-- A date of so many digits is bad where the field does not end behind so many, and where it has another length.
unended : (n : ℕ) (t : Text) → (all digit t && leb (length t) n) ≡ false → (eqb (length t) n && all digit t) ≡ false
unended n t h = by (eqb (length t) n) refl (all digit t) h
  where
    by : (b : Bool) → eqb (length t) n ≡ b → (d : Bool) → (d && leb (length t) n) ≡ false → (b && d) ≡ false
    by true e true h = sym (le-leb (length t) n (omega (arith, eqb-true (length t) n e))) ∙ h
    by true e false h = refl
    by false e d h = refl

long_unended : (t : Text) → (all digit t && leb (length t) 8) ≡ false → long_date t ≡ false
unfolding long_date
long_unended t h = rw (unended 8 t h)

long_other : (t : Text) → (length t ≡ 8 → ⊥) → long_date t ≡ false
unfolding long_date
long_other t h = rw (ne_eqb (length t) 8 h)

-- A long date of the right length is one exactly when its year is in the window, and its day exists.
module _ (t : Text) (l : length t ≡ 8) (h : all digit t ≡ true) where
  long_early : value t / 10000 < 1990 → long_date t ≡ false
  unfolding long_date
  long_early k = rw (eq-eqb (length t) 8 l, h, year_is 4 t l h, lt-leb 1990 (value t / 10000) k)

  long_late : 1990 ≤ value t / 10000 → 2089 < value t / 10000 → long_date t ≡ false
  unfolding long_date
  long_late j k =
      rw (eq-eqb (length t) 8 l, h, year_is 4 t l h, le-leb 1990 (value t / 10000) j, lt-leb (value t / 10000) 2089 k)

  long_is : 1990 ≤ value t / 10000 → value t / 10000 ≤ 2089
      → long_date t ≡ day_exists (value t / 10000) (value t / 100 % 100) (value t % 100)
  unfolding long_date
  long_is j k =
      rw
      (eq-eqb (length t) 8 l, h, year_is 4 t l h, le-leb 1990 (value t / 10000) j, le-leb (value t / 10000) 2089 k, month_is 4 t l h, day_is 4 t l h)

-- A short date has six characters, and all of them are digits.
short_long : (t : Text) → short_date t ≡ true → length t ≡ 6
unfolding short_date
short_long t h =
    let day = day_exists (full_year (value (take 2 t))) (value (take 2 (drop 2 t))) (value (drop 4 t)) in
    eqb-true (length t) 6 (and_l (eqb (length t) 6) (all digit t) (and_l (eqb (length t) 6 && all digit t) day h))

short_digits : (t : Text) → short_date t ≡ true → all digit t ≡ true
unfolding short_date
short_digits t h =
    let day = day_exists (full_year (value (take 2 t))) (value (take 2 (drop 2 t))) (value (drop 4 t)) in
    and_r (eqb (length t) 6) (all digit t) (and_l (eqb (length t) 6 && all digit t) day h)

-- The answers on six characters.
module _ (a b c d e f : ℕ) where
  abbrev six : Text
  six = a ∷ b ∷ c ∷ d ∷ e ∷ f ∷ []

  pub six_kind : all digit six ≡ false → false ≡ short_date six
  unfolding short_date
  six_kind h = rw h

  pub six_day : all digit six ≡ true
      → day_exists (full_year (value (a ∷ b ∷ []))) (value (c ∷ d ∷ [])) (value (e ∷ f ∷ [])) ≡ short_date six
  unfolding short_date
  six_day h = rw h

-- The answers of the reader of short dates, one for each.
module _ (s : Text) (at : ℕ) where
  pub date_empty : ends_at s at ≡ true → DateRead.Empty ≡ date_at s at
  unfolding date_at short_date
  date_empty h = rw (ended_text s at h)

  pub date_good : at + 6 ≤ length s → ends_at s (at + 6) ≡ true → short_date (characters s at 6) ≡ true → DateRead.Date (at + 6) ≡ date_at s at
  unfolding date_at
  date_good h e r =
      let text : text_at s at ≡ characters s at 6 = exact_text 6 short_date short_long s at h short_digits e r in
      rw (end_is_length s at, text, r)

  module _ (n : ends_at s at ≡ false) where
    date_bad : short_date (text_at s at) ≡ false → DateRead.Bad ≡ date_at s at
    unfolding date_at ends_at
    date_bad h = rw (h, n)

    pub date_short : length s < at + 6 → DateRead.Bad ≡ date_at s at
    date_short h = date_bad (too_short_lem 6 short_date short_long s at (omega arith) h)

    pub date_unended : ends_at s (at + 6) ≡ false → DateRead.Bad ≡ date_at s at
    date_unended h = date_bad (not_ended 6 short_date short_long s at h)

    pub date_other : at + 6 ≤ length s → short_date (characters s at 6) ≡ false → DateRead.Bad ≡ date_at s at
    date_other h r = date_bad (other_characters 6 short_date short_long s at h r)

-- The answers of the reader of long dates, one for each.
module _ (s : Text) (at : ℕ) (r : ℕ × ℕ) (e : r ≡ digits_at 8 s at) where
  long_bad : long_date (text_at s at) ≡ false → None ≡ long_date_at s at
  unfolding number_at
  long_bad h = rw h

  pub long_date_unended : not (ends_at s r.1) ≡ true → None ≡ long_date_at s at
  long_date_unended h = long_bad (long_unended (text_at s at) (not_read 8 s at r e (not-true (ends_at s r.1) h)))

  module _ (h : ends_at s r.1 ≡ true) where
    same : r.0 ≡ value (text_at s at)
    same = (is_read_lem 8 s at r e h).value

    digits : all digit (text_at s at) ≡ true
    digits = (is_read_lem 8 s at r e h).digits

    pub long_date_other : (r.1 - at ≡ 8 → ⊥) → None ≡ long_date_at s at
    long_date_other m = long_bad (long_other (text_at s at) (λ k. m (omega (arith, end_here 8 s at r e h))))

    module _ (l : r.1 - at ≡ 8) where
      eight : length (text_at s at) ≡ 8
      eight = omega (arith, end_here 8 s at r e h)

      pub long_date_below : r.0 < 100000000
      long_date_below = omega (arith, same, rw eight at (value_below (text_at s at) digits))

      pub long_date_early : r.0 / 10000 < 1990 → None ≡ long_date_at s at
      long_date_early k = long_bad (long_early (text_at s at) eight digits (omega (arith, same)))

      module _ (j : 1990 ≤ r.0 / 10000) where
        pub long_date_late : 2089 < r.0 / 10000 → None ≡ long_date_at s at
        long_date_late k = long_bad (long_late (text_at s at) eight digits (omega (arith, same)) (omega (arith, same)))

        module _ (k : r.0 / 10000 ≤ 2089) {b : Bool}
            (d : b ≡ day_exists (r.0 / 10000) (r.0 / 100 % 100) (r.0 % 100)) where
          long_date_is : long_date (text_at s at) ≡ b
          long_date_is =
              long_is (text_at s at) eight digits (omega (arith, same)) (omega (arith, same))
              ∙ ap (λ (v : ℕ). day_exists (v / 10000) (v / 100 % 100) (v % 100)) (sym same)
              ∙ sym d

          pub long_date_no_day : not b ≡ true → None ≡ long_date_at s at
          long_date_no_day n = long_bad (long_date_is ∙ not-true b n)

          pub long_date_good : not b ≡ false → Some (r.0, r.1) ≡ long_date_at s at
          unfolding number_at
          long_date_good n = rw (long_date_is ∙ not-false b n, same, (is_read_lem 8 s at r e h).end)
