-- The refusals 1 to 6 of reading, each given exactly when its row of the table says, over any rules.
-- Assumes nothing.
use Prim.Native.Nat.{ℕ, ◌≤◌, ◌<◌}
use mathlib.Core.Path.{◌≡◌, refl, sym, ap, ◌∙◌}
use mathlib.Core.Logic.{◌⊎◌, inl, inr, ◌↔◌}
use mathlib.Core.Bool.{Bool, cond}
use lib.ListN.{length}
use native.Mathlib.Decide.{dec_lt}
use native.Mathlib.Omega.{arith}
use borrow.Author.Tests.{lt-ltb}
use Rattle.rules.specs.declared.Refusal.{Refusal}
use Rattle.rules.specs.declared.Due.{Due}
use Rattle.rules.specs.Text.{Text}
use Rattle.rules.specs.Rules.{Rules}
use Rattle.rules.specs.Reading.{lines, refused, refusal, read}
use Rattle.rules.specs.Given.{AtLine, OfTheLine, EndsOrGoesOn, HasNoEnd, IsNotTheLineDue, BreaksItsRule, FirstBadField, BreaksField, GivenByReading, LineAndField}
use Rattle.rules.proofs.Format.{by_line, read_law}
use Rattle.rules.proofs.GivenLines.{front_left}
use Rattle.rules.proofs.GivenStops.{same_refusal, refused_at, at_refused}
use Rattle.rules.proofs.GivenRows.{Row, two, three, four, five, six, stopped_row, row_stopped}

-- At the line of this number stands what the row says.
abbrev RowAt : Rules → Text → ℕ → ℕ → ℕ → Type 0
RowAt R s number n field = AtLine R s n (λ due rest. Row R field due rest number)

module _ (R : Rules) (s : Text) where
  read_long : R.longest_log < length s → read R s ≡ refused (refusal 1 0 0)
  read_long h = read_law R s ∙ ap (λ (b : Bool). cond b (refused (refusal 1 0 0)) (by_line R (lines R s))) (lt-ltb R.longest_log (length s) h)

  -- A refusal is 1, of a text that is too long, or one of a row.
  which_row : (number n field : ℕ) → read R s ≡ refused (refusal number n field) →
      ((refusal 1 0 0 ≡ refusal number n field) × (R.longest_log < length s)) ⊎ RowAt R s number n field
  which_row number n field e = by (dec_lt R.longest_log (length s))
    where
      by : Dec (R.longest_log < length s) → ((refusal 1 0 0 ≡ refusal number n field) × (R.longest_log < length s)) ⊎ RowAt R s number n field
      by (yes h) = inl (same_refusal (sym (read_long h) ∙ e), h)
      by (no h) =
          let (due, rest, c, stopped) = refused_at R s number n field (omega arith) e in
          inr (due, rest, c, stopped_row R n field due rest number (front_left R c.front) stopped)

  row_at : (number n field : ℕ) → (number ≡ 1 → ⊥) → read R s ≡ refused (refusal number n field) → RowAt R s number n field
  row_at number n field k e = by (which_row number n field e)
    where
      by : ((refusal 1 0 0 ≡ refusal number n field) × (R.longest_log < length s)) ⊎ RowAt R s number n field → RowAt R s number n field
      by (inl (q, h)) = absurd (k (sym (ap (λ (r : Refusal). r.number) q)))
      by (inr row) = row

  at_row : (number n field : ℕ) → RowAt R s number n field → read R s ≡ refused (refusal number n field)
  at_row number n field p =
      let (due, rest, c, row) = p in
      at_refused R s number n field (due, rest, c, row_stopped R n field due rest row)

  -- A number whose row has no field.
  without_field : (number n field : ℕ) (Fault : Due → Text → Type 0) → (number ≡ 1 → ⊥) →
      ((due : Due) (rest : Text) → Row R field due rest number ↔ ((field ≡ 0) × Fault due rest)) →
      (read R s ≡ refused (refusal number n field)) ↔ ((field ≡ 0) × AtLine R s n Fault)
  without_field number n field Fault k h = (
    λ e.
        let (due, rest, c, row) = row_at number n field k e in
        let (z, fault) = (h due rest).0 row in
        (z, (due, rest, c, fault)),
    λ p.
        let (z, (due, rest, c, fault)) = p in
        at_row number n field (due, rest, c, (h due rest).1 (z, fault)),
  )

-- What each row holds, and that there is no other.
module _ (R : Rules) (field : ℕ) (due : Due) (rest : Text) where
  is_two : Row R field due rest 2 ↔ ((field ≡ 0) × HasNoEnd R due rest)
  is_two = (elim [ two z h ↦ (z, h) ], λ p. two p.0 p.1)

  is_three : Row R field due rest 3 ↔ ((field ≡ 0) × OfTheLine R IsNotTheLineDue due rest)
  is_three = (elim [ three z h ↦ (z, h) ], λ p. three p.0 p.1)

  is_four : Row R field due rest 4 ↔ ((field ≡ 0) × OfTheLine R (BreaksItsRule R) due rest)
  is_four = (elim [ four z h ↦ (z, h) ], λ p. four p.0 p.1)

  is_five : Row R field due rest 5 ↔ OfTheLine R (BreaksField R field) due rest
  is_five = (elim [ five h ↦ h ], λ h. five h)

  is_six : Row R field due rest 6 ↔ ((field ≡ 0) × EndsOrGoesOn due rest)
  is_six = (elim [ six z h ↦ (z, h) ], λ p. six p.0 p.1)

  row_number : {number : ℕ} → Row R field due rest number → (2 ≤ number) × (number ≤ 6)
  row_number (two z h) = (omega arith, omega arith)
  row_number (three z h) = (omega arith, omega arith)
  row_number (four z h) = (omega arith, omega arith)
  row_number (five h) = (omega arith, omega arith)
  row_number (six z h) = (omega arith, omega arith)

  row_field : {number : ℕ} → Row R field due rest number → (number ≡ 5 → ⊥) → field ≡ 0
  row_field (two z h) k = z
  row_field (three z h) k = z
  row_field (four z h) k = z
  row_field (five h) k = absurd (k refl)
  row_field (six z h) k = z

  bad_field_number : (l : Text) → FirstBadField R l field → field ≤ 15
  bad_field_number l (inl (z, h)) = omega arith
  bad_field_number l (inr (h, low, high, bad, earlier)) = high

  row_fields : {number : ℕ} → Row R field due rest number → field ≤ 15
  row_fields (two z h) = omega arith
  row_fields (three z h) = omega arith
  row_fields (four z h) = omega arith
  row_fields (five (l, after, t, rule, (left, d, h))) = bad_field_number l h
  row_fields (six z h) = omega arith

-- A refusal, or none, with no line and no field.
pub no_place : (number : ℕ) → (number ≤ 1) ⊎ (7 ≤ number) → LineAndField (refusal number 0 0)
no_place number h = record { no_line = λ k. refl; a_line = λ k. absurd (apart h k); no_field = λ k. refl; a_field = omega arith }
  where
    apart : (number ≤ 1) ⊎ (7 ≤ number) → (2 ≤ number) × (number ≤ 6) → ⊥
    apart (inl h) (low, high) = omega arith
    apart (inr h) (low, high) = omega arith

module _ (R : Rules) (s : Text) where
  one_when : (n f : ℕ) → (read R s ≡ refused (refusal 1 n f)) ↔ ((n ≡ 0) × (f ≡ 0) × (R.longest_log < length s))
  one_when n f = (λ e. by (which_row R s 1 n f e), λ p. let (k, z, h) = p in read_long R s h ∙ cc)
    where
      by : ((refusal 1 0 0 ≡ refusal 1 n f) × (R.longest_log < length s)) ⊎ RowAt R s 1 n f → (n ≡ 0) × (f ≡ 0) × (R.longest_log < length s)
      by (inl (q, h)) = (sym (ap (λ (r : Refusal). r.line) q), sym (ap (λ (r : Refusal). r.field) q), h)
      by (inr (due, rest, c, row)) = absurd (omega (arith, (row_number R f due rest row).0))

  five_when : (n f : ℕ) → (read R s ≡ refused (refusal 5 n f)) ↔ AtLine R s n (OfTheLine R (BreaksField R f))
  five_when n f = (
    λ e.
        let (due, rest, c, row) = row_at R s 5 n f (λ k. omega arith) e in
        (due, rest, c, (is_five R f due rest).0 row),
    λ p.
        let (due, rest, c, fault) = p in
        at_row R s 5 n f (due, rest, c, (is_five R f due rest).1 fault),
  )

  -- The number, the line and the field of a refusal of reading.
  pub numbered : (r : Refusal) → read R s ≡ refused r → (1 ≤ r.number) × (r.number ≤ 6)
  numbered r e = by (which_row R s r.number r.line r.field e)
    where
      by : ((refusal 1 0 0 ≡ r) × (R.longest_log < length s)) ⊎ RowAt R s r.number r.line r.field → (1 ≤ r.number) × (r.number ≤ 6)
      by (inl (q, h)) = let one : 1 ≡ r.number = ap (λ (x : Refusal). x.number) q in (omega arith, omega arith)
      by (inr (due, rest, c, row)) = let k = row_number R r.field due rest row in (omega arith, omega arith)

  pub placed : (r : Refusal) → read R s ≡ refused r → LineAndField r
  placed r e = by (which_row R s r.number r.line r.field e)
    where
      no_line_lem : (r.number ≤ 1) ⊎ (7 ≤ r.number) → (2 ≤ r.number) × (r.number ≤ 6) → r.line ≡ 0
      no_line_lem (inl k) h = omega (arith, h.0)
      no_line_lem (inr k) h = omega (arith, h.1)

      by : ((refusal 1 0 0 ≡ r) × (R.longest_log < length s)) ⊎ RowAt R s r.number r.line r.field → LineAndField r
      by (inl (q, h)) = rw (← q) (no_place 1 (inl (omega arith)))
      by (inr (due, rest, c, row)) =
          record {
            no_line = λ k. no_line_lem k (row_number R r.field due rest row);
            a_line = λ k. omega (arith, c.number);
            no_field = row_field R r.field due rest row;
            a_field = row_fields R r.field due rest row;
          }

pub given_by_reading : (R : Rules) → GivenByReading R
given_by_reading R =
    record {
      one = one_when R;
      two = λ s n f. without_field R s 2 n f (HasNoEnd R) (λ k. omega arith) (is_two R f);
      three = λ s n f. without_field R s 3 n f (OfTheLine R IsNotTheLineDue) (λ k. omega arith) (is_three R f);
      four = λ s n f. without_field R s 4 n f (OfTheLine R (BreaksItsRule R)) (λ k. omega arith) (is_four R f);
      five = five_when R;
      six = λ s n f. without_field R s 6 n f EndsOrGoesOn (λ k. omega arith) (is_six R f);
      no_other = numbered R;
    }
