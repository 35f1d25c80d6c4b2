-- What a reader's answer tells of its field: that it keeps its rule, what it says and where it ends; or that it does not keep it.
-- Assumes nothing.
use Rattle.std.specs.Prelude.{Some, None}
use Prim.Native.Nat.{ℕ}
use native.Mathlib.Omega.{arith}
use mathlib.Core.Bool.{Bool, true, false, cond}
use mathlib.Core.Path.{◌≡◌, sym, ap}
use Rattle.std.proofs.lemmas.Option.{none-some, same_Some}
use Rattle.rules.specs.Fields.{short_date, time_of_day}
use Rattle.rules.specs.Text.{Text, empty, value}
use Rattle.rules.proofs.Tests.{picked, passed}
use Rattle.fields.specs.Field.{text_at, end_of}
use Rattle.figures.specs.declared.DateRead.{DateRead}
use Rattle.figures.specs.declared.TimeOfDay.{TimeOfDay}
use Rattle.figures.specs.Figure.{number_at, date_at, time_at}

module _ (rule : Text → Bool) (s : Text) (at : ℕ) where
  pub number_picked : {v e : ℕ} → number_at rule s at ≡ Some (v, e)
      → (rule (text_at s at) ≡ true) × (v ≡ value (text_at s at)) × (e ≡ end_of s at)
  unfolding number_at
  number_picked {v} {e} p =
      let q = picked (rule (text_at s at)) p (none-some (v, e)) in
      let r = sym (same_Some _ _ q.1) in
      (q.0, ap (λ (x : ℕ × ℕ). x.0) r, ap (λ (x : ℕ × ℕ). x.1) r)

  pub number_refused : number_at rule s at ≡ None → rule (text_at s at) ≡ false
  unfolding number_at
  number_refused p = (passed (rule (text_at s at)) p (λ q. none-some _ (sym q))).0

no_date : {e : ℕ} → DateRead.Bad ≡ DateRead.Date e → ⊥
no_date p = let z : ◌≡◌ {A = ℕ} 0 1 = cc in omega arith

empty_no_date : {e : ℕ} → DateRead.Empty ≡ DateRead.Date e → ⊥
empty_no_date p = let z : ◌≡◌ {A = ℕ} 0 1 = cc in omega arith

bad_not_empty : DateRead.Bad ≡ DateRead.Empty → ⊥
bad_not_empty p = let z : ◌≡◌ {A = ℕ} 0 1 = cc in omega arith

neither : {e : ℕ} (b : Bool) → cond b DateRead.Empty DateRead.Bad ≡ DateRead.Date e → ⊥
neither true p = empty_no_date p
neither false p = no_date p

module _ (s : Text) (at : ℕ) where
  pub date_picked : {e : ℕ} → date_at s at ≡ DateRead.Date e → (short_date (text_at s at) ≡ true) × (e ≡ end_of s at)
  unfolding date_at
  date_picked {e} p =
      let q : (short_date (text_at s at) ≡ true) × (DateRead.Date (end_of s at) ≡ DateRead.Date e) = picked (short_date (text_at s at)) p (neither (empty (text_at s at))) in
      (q.0, cc)

  pub date_is_empty : date_at s at ≡ DateRead.Empty → (short_date (text_at s at) ≡ false) × (empty (text_at s at) ≡ true)
  unfolding date_at
  date_is_empty p =
      let q = passed (short_date (text_at s at)) p (λ r. empty_no_date (sym r)) in
      (q.0, (picked (empty (text_at s at)) q.1 bad_not_empty).0)

  pub date_refused : date_at s at ≡ DateRead.Bad → (short_date (text_at s at) ≡ false) × (empty (text_at s at) ≡ false)
  unfolding date_at
  date_refused p =
      let q = passed (short_date (text_at s at)) p (λ r. no_date (sym r)) in
      (q.0, (passed (empty (text_at s at)) q.1 (λ r. bad_not_empty (sym r))).0)

module _ (s : Text) (at : ℕ) where
  pub time_picked : {t : TimeOfDay} {e : ℕ} → time_at s at ≡ Some (t, e)
      → (time_of_day (text_at s at) ≡ true) × (t.digits ≡ value (text_at s at)) × (e ≡ end_of s at)
  unfolding time_at
  time_picked {t} {e} p =
      let q = picked (time_of_day (text_at s at)) p (none-some (t, e)) in
      let r = sym (same_Some _ _ q.1) in
      (q.0, ap (λ (x : TimeOfDay × ℕ). x.0.digits) r, ap (λ (x : TimeOfDay × ℕ). x.1) r)

  pub time_refused : time_at s at ≡ None → time_of_day (text_at s at) ≡ false
  unfolding time_at
  time_refused p = (passed (time_of_day (text_at s at)) p (λ q. none-some _ (sym q))).0
