-- Laws of what is kept of a record: how long its parts are, where they lie, and what giving back reads of them.
-- Assumes nothing.
use Prim.Native.Nat.{ℕ, ◌+◌, ◌≤◌, ◌<◌}
use native.Mathlib.Omega.{arith}
use mathlib.Core.Path.{◌≡◌, refl, sym, ap, ◌∙◌}
use mathlib.Core.Bool.{Bool, true, false, cond, not, ◌||◌}
use mathlib.Core.List.{[], ◌∷◌, ◌++◌, append_assoc}
use lib.Dec.{eqb}
use lib.ListN.{length, take, drop, get_or, replicate, length-append, length-take, take-append-drop}
use lib.Seq.{length-take-le, take_at, drop_at, get_or-append-add}
use Rattle.rules.specs.declared.Class.{Class}
use Rattle.rules.specs.declared.Class.TheVariants.{Credited}
use Rattle.rules.specs.Text.{Text, bytes, same, empty, value, number_of}
use Rattle.rules.specs.Rules.{Rules}
use Rattle.rules.specs.Fields.{Qso, call, is_error, points_rule, field_rules, fields_of}
use Rattle.rules.specs.Log.{conjunction}
use Rattle.rules.specs.Judging.{is, square, exchange_of}
use Rattle.rules.proofs.Tests.{so, holds, and_l}
use Rattle.rules.proofs.TextLaws.{all_front}
use Rattle.rules.proofs.NumberLaws.{number_below}
use Rattle.rules.proofs.FieldLaws.{field_character, Fits, fields_fit}
use Rattle.rules.proofs.ValidLogs.{rule_at, points_ruled}
use Rattle.session.specs.Entry.{filled, worked_part, points_part, points_in, entry_of, kept_of, FitsBytes}
use Rattle.session.proofs.FilledLaws.{no_zero, all_not_zero, Part, length_filled}

-- # The points in three bytes

pub points_back : (n : ℕ) (rest : Text) → n < 16_777_216 → points_in (points_part n ++ rest) ≡ n
unfolding points_in points_part
points_back n rest h = omega arith

-- What stands in the middle.
middle : (e x y z : Text) (m n : ℕ) → length x ≡ m → length y ≡ n → e ≡ x ++ (y ++ z) → take n (drop m e) ≡ y
middle e x y z m n h k i =
    ap (λ (t : Text). take n (drop m t)) i ∙ ap (take n) (drop_at x (y ++ z) m h) ∙ take_at y z n k

first_filled : (t : Text) → get_or (filled 1 t) 0 0 ≡ get_or t 0 0
unfolding filled
first_filled [] = refl
first_filled (c ∷ t) = refl

-- # The parts of a record that keeps its rules

fits_clean : {most : ℕ} {t : Text} → Fits most t → no_zero t ≡ true
fits_clean {t = t} f = all_not_zero field_character refl t f.clean

front_part : (t : Text) → no_zero t ≡ true → Part 4 (take 4 t)
front_part t h =
    record {
      short = omega (arith, length-take 4 t);
      clean = all_front (λ b. not (eqb b 0)) (take 4 t) (drop 4 t) (rw (take-append-drop 4 t) h);
    }

module _ {R : Rules} (B : FitsBytes R) (q : Qso) (rules : conjunction (field_rules R q) ≡ true) where
  call_ruled : call q.call ≡ true
  unfolding field_rules
  call_ruled = so (call q.call) (rule_at (field_rules R q) 2 (holds rules))

  pub home_part : Part 14 (R.home q.call)
  home_part = record { short = B.home_short q.call call_ruled; clean = B.home_plain q.call call_ruled }

  pub home_there_lem : empty (R.home q.call) ≡ false
  home_there_lem = B.home_there q.call call_ruled

  mode_fits : Fits 1 q.mode
  unfolding fields_of
  mode_fits = (fields_fit R q rules).1.1.1.0

  exchange_fits : Fits R.longest_exchange q.exchange
  unfolding fields_of
  exchange_fits = (fields_fit R q rules).1.1.1.1.1.1.1.1.0

  locator_fits : Fits 6 q.locator
  unfolding fields_of
  locator_fits = (fields_fit R q rules).1.1.1.1.1.1.1.1.1.0

  pub square_part : Part 4 (square q)
  unfolding square
  square_part = front_part q.locator (fits_clean locator_fits)

  pub exchange_part : Part 6 (exchange_of R q)
  exchange_part = record { short = omega (arith, exchange_fits.short, B.exchange_short); clean = fits_clean exchange_fits }

  pub points_small : value q.points < 16_777_216
  unfolding points_rule
  points_small =
      let n = number_of R.points_digits q.points in
      let e = and_l n (not (is_error q) || same q.points (bytes "0")) (so (points_rule R q) (points_ruled R q (holds rules))) in
      omega (arith, number_below R.points_digits q.points e, B.worth_small)

  -- # An entry

  abbrev home_bytes : Text
  home_bytes = filled 14 (R.home q.call)

  abbrev square_bytes : Text
  square_bytes = filled 4 (square q)

  abbrev exchange_bytes : Text
  exchange_bytes = filled 6 (exchange_of R q)

  abbrev points_bytes : Text
  points_bytes = points_part (value q.points)

  abbrev mode_bytes : Text
  mode_bytes = filled 1 q.mode

  home_long : length home_bytes ≡ 14
  home_long = length_filled 14 (R.home q.call) home_part.short

  square_long : length square_bytes ≡ 4
  square_long = length_filled 4 (square q) square_part.short

  exchange_long : length exchange_bytes ≡ 6
  exchange_long = length_filled 6 (exchange_of R q) exchange_part.short

  points_long_lem : length points_bytes ≡ 3
  unfolding points_part
  points_long_lem = refl

  mode_long : length mode_bytes ≡ 1
  mode_long = length_filled 1 q.mode mode_fits.short

  worked_long : length (worked_part R q) ≡ 24
  unfolding worked_part
  worked_long = omega (arith, length-append (home_bytes ++ square_bytes) exchange_bytes, length-append home_bytes square_bytes, home_long, square_long, exchange_long)

  entry_long : length (entry_of R q) ≡ 28
  unfolding entry_of
  entry_long = omega (arith, length-append (worked_part R q ++ points_bytes) mode_bytes, length-append (worked_part R q) points_bytes, worked_long, points_long_lem, mode_long)

  pub length_entry : (class : Class) → length (kept_of R class q) ≡ 28
  unfolding kept_of
  length_entry class = by (is Credited class)
    where
      by : (b : Bool) → length (cond b (entry_of R q) (replicate 28 0)) ≡ 28
      by true = entry_long
      by false = refl

  pub length_front : (width : ℕ) → width ≤ 28 → (class : Class) → length (take width (kept_of R class q)) ≡ width
  length_front width narrow class = length-take-le width (kept_of R class q) (omega (arith, length_entry class))

  -- Where its parts lie.
  pub home_lies : take 14 (drop 0 (entry_of R q)) ≡ home_bytes
  unfolding entry_of worked_part
  home_lies = middle (entry_of R q) [] home_bytes (square_bytes ++ exchange_bytes ++ points_bytes ++ mode_bytes) 0 14 refl home_long (simp append_assoc)

  pub square_lies : take 4 (drop 14 (entry_of R q)) ≡ square_bytes
  unfolding entry_of worked_part
  square_lies = middle (entry_of R q) home_bytes square_bytes (exchange_bytes ++ points_bytes ++ mode_bytes) 14 4 home_long square_long (simp append_assoc)

  pub exchange_lies : take 6 (drop 18 (entry_of R q)) ≡ exchange_bytes
  unfolding entry_of worked_part
  exchange_lies =
      middle (entry_of R q) (home_bytes ++ square_bytes) exchange_bytes (points_bytes ++ mode_bytes) 18 6
      (omega (arith, length-append home_bytes square_bytes, home_long, square_long)) exchange_long (simp append_assoc)

  -- What giving back reads.
  pub entry_points : (rest : Text) → points_in (drop 24 (entry_of R q ++ rest)) ≡ value q.points
  unfolding entry_of
  entry_points rest =
      let behind : entry_of R q ++ rest ≡ worked_part R q ++ (points_bytes ++ (mode_bytes ++ rest)) = simp append_assoc in
      ap (λ (t : Text). points_in (drop 24 t)) behind
      ∙ ap points_in (drop_at (worked_part R q) (points_bytes ++ (mode_bytes ++ rest)) 24 worked_long)
      ∙ points_back (value q.points) (mode_bytes ++ rest) points_small

  pub entry_mode : get_or (entry_of R q) 27 0 ≡ get_or q.mode 0 0
  unfolding entry_of points_part
  entry_mode =
      ap (λ (t : Text). get_or t 27 0) (append_assoc (worked_part R q) points_bytes mode_bytes)
      ∙ ap (λ (n : ℕ). get_or (worked_part R q ++ (points_bytes ++ mode_bytes)) (n + 3) 0) (sym worked_long)
      ∙ get_or-append-add (worked_part R q) (points_bytes ++ mode_bytes) 3 0
      ∙ first_filled q.mode
