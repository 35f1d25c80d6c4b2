-- Laws of the fields whose rule looks at the call: the date, which only an ERROR record may leave empty, and the points.
-- Assumes nothing.
use Rattle.std.specs.Prelude.{Some, None}
use Prim.Native.Nat.{ℕ, ◌+◌, ◌≤◌, max}
use native.Mathlib.Omega.{arith}
use mathlib.Core.Path.{◌≡◌, refl, sym, ap, ◌∙◌}
use mathlib.Core.Bool.{Bool, true, false, cond, not, ◌&&◌, ◌||◌, true≢false}
use mathlib.Core.List.{[], ◌∷◌}
use lib.ListN.{length, drop, drop_of_length-le}
use Rattle.rules.specs.Text.{Text, bytes, digits, empty, number, number_of, same, span, value}
use Rattle.rules.specs.Rules.{Rules}
use Rattle.rules.specs.Fields.{call, date_rule, error_call, is_error, qso_of, short_date}
use Rattle.rules.proofs.TextLaws.{same_eq, same_refl}
use Rattle.rules.proofs.Tests.{and_i, and_l, fails, or_r, passed, picked}
use Rattle.rules.proofs.NumberLaws.{digits_value}
use Rattle.fields.specs.declared.CallField.{CallField}
use Rattle.fields.specs.Field.{call_at, end_of, in_field, text_at}
use Rattle.fields.proofs.Picked.{call_picked, call_refused}
use Rattle.figures.specs.declared.DateRead.{DateRead}
use Rattle.figures.specs.Figure.{date_at, number_at}
use Rattle.figures.proofs.Picked.{date_is_empty, date_picked, date_refused, number_picked, number_refused}
use Rattle.fields.proofs.PartLaws.{end_by_span, end_within}
use Rattle.std.specs.Prelude.{Some, None}
use Rattle.reader.specs.Contact.{field_start}
use Rattle.reader.specs.Record.{dated_at, fields_from, qso_at, score_rule}
use Rattle.reader.proofs.PlaceLaws.{field_ends, field_first, next_start, starts_rise}

-- The end of a field by its run.
pub end_near : (s : Text) (a e : ℕ) → e ≡ a + span in_field (drop a s) → e ≤ max a (length s)
end_near s a e q = omega (arith, end_within s a, end_by_span s a)

-- No field stands at the end of a text, nor behind it.
pub text_beyond : (s : Text) (a : ℕ) → length s ≤ a → text_at s a ≡ []
unfolding text_at span
text_beyond s a h = rw (drop_of_length-le s h)

-- The third field, found behind two semicolons.
pub third_start : (s : Text) (at e f : ℕ) → e ≡ at + span in_field (drop at s) → f ≡ e + 1 + span in_field (drop (e + 1) s) → f + 1 ≡ field_start s at 2
third_start s at e f p q = next_start s at 1 (field_ends s at 1 (next_start s at 0 (field_ends s at 0 (field_first s at) p)) q)

-- What is no call is not `ERROR`.
error_is_call : call error_call ≡ true
unfolding call error_call
error_is_call = refl

no_error : (t : Text) → call t ≡ false → false ≡ same t error_call
no_error t k = sym (fails (same t error_call) (λ e. true≢false (sym error_is_call ∙ ap call (sym (same_eq t error_call e)) ∙ k)))

module _ (s : Text) (at k : ℕ) {a : ℕ} (p : a ≡ field_start s at k) where
  pub error_known : {c : CallField} → call_at s a ≡ Some c → c.error ≡ same (text_at s (field_start s at k)) error_call
  error_known h = (call_picked call s a h).1 ∙ ap (λ (i : ℕ). same (text_at s i) error_call) p

  pub error_unknown : call_at s a ≡ None → false ≡ same (text_at s (field_start s at k)) error_call
  error_unknown h = no_error (text_at s a) (call_refused call s a h) ∙ ap (λ (i : ℕ). same (text_at s i) error_call) p

-- The date.
module _ (s : Text) (at : ℕ) where
  abbrev third : Bool
  third = same (text_at s (field_start s at 2)) error_call

  pub date_rule_lem : date_rule (qso_at s at) ≡ (short_date (text_at s at) || empty (text_at s at) && third)
  unfolding date_rule is_error qso_at qso_of fields_from field_start
  date_rule_lem = refl

  dated_by : (b c : Bool) → short_date (text_at s at) ≡ b → (empty (text_at s at) && third) ≡ c → cond (b || c) (Some (end_of s at)) None ≡ dated_at s at
  unfolding dated_at
  dated_by b c p q = rw (date_rule_lem, p, q)

  pub date_known : {e : ℕ} → date_at s at ≡ DateRead.Date e → Some e ≡ dated_at s at
  date_known h = ap Some (date_picked s at h).1 ∙ dated_by true _ (date_picked s at h).0 refl

  pub date_bad : date_at s at ≡ DateRead.Bad → None ≡ dated_at s at
  date_bad h = dated_by false false (date_refused s at h).0 (ap (λ (b : Bool). b && third) (date_refused s at h).1)

  pub date_missing : date_at s at ≡ DateRead.Empty → third ≡ true → Some at ≡ dated_at s at
  unfolding end_of
  date_missing h e = ap Some (ends_at_once (text_at s at) refl (date_is_empty s at h).1) ∙ dated_by false true (date_is_empty s at h).0 (rw ((date_is_empty s at h).1, e))
    where
      ends_at_once : (t : Text) → text_at s at ≡ t → empty t ≡ true → at ≡ end_of s at
      ends_at_once [] p k = let n : length (text_at s at) ≡ 0 = ap length p in omega arith
      ends_at_once (c ∷ t) p k = absurd (true≢false (sym k))

  pub date_missed : date_at s at ≡ DateRead.Empty → third ≡ false → None ≡ dated_at s at
  date_missed h e = dated_by false false (date_is_empty s at h).0 (rw ((date_is_empty s at h).1, e))

-- The points: a number is 0 exactly where it is written `0`.
zero_written : (t : Text) → number t ≡ true → value t ≡ 0 → t ≡ bytes "0"
unfolding digits
zero_written t e z = sym (digits_value t e) ∙ ap digits z

not_written : (t : Text) → (value t ≡ 0 → ⊥) → same t (bytes "0") ≡ false
unfolding value
not_written t z = by (same t (bytes "0")) refl
  where
    by : (b : Bool) → same t (bytes "0") ≡ b → b ≡ false
    by true e = absurd (z (ap value (same_eq t (bytes "0") e)))
    by false e = refl

module _ (R : Rules) (error : Bool) (s : Text) (a : ℕ) where
  scored_by : (b : Bool) → score_rule R error (text_at s a) ≡ b → cond b (Some (value (text_at s a), end_of s a)) None ≡ number_at (score_rule R error) s a
  unfolding number_at
  scored_by b e = rw e

  pub points_bad : number_at (number_of R.points_digits) s a ≡ None → None ≡ number_at (score_rule R error) s a
  unfolding score_rule
  points_bad h =
      scored_by false
      (ap (λ (b : Bool). b && (not error || same (text_at s a) (bytes "0"))) (number_refused (number_of R.points_digits) s a h))

  module _ {v e : ℕ} (h : number_at (number_of R.points_digits) s a ≡ Some (v, e)) where
    is_number : number_of R.points_digits (text_at s a) ≡ true
    is_number = (number_picked (number_of R.points_digits) s a h).0

    is_value : v ≡ value (text_at s a)
    is_value = (number_picked (number_of R.points_digits) s a h).1

    good : score_rule R error (text_at s a) ≡ true → Some (v, e) ≡ number_at (score_rule R error) s a
    good r =
        ap (λ (n : ℕ). Some (n, e)) is_value
        ∙ ap (λ (n : ℕ). Some (value (text_at s a), n)) (number_picked (number_of R.points_digits) s a h).2
        ∙ scored_by true r

    pub points_plain : not error ≡ true → Some (v, e) ≡ number_at (score_rule R error) s a
    unfolding score_rule
    points_plain n = good (rw (is_number, n))

    pub points_none : v ≡ 0 → Some (v, e) ≡ number_at (score_rule R error) s a
    unfolding score_rule number_of
    points_none z =
        good
        (and_i is_number
        (or_r (not error)
        (ap (λ (t : Text). same t (bytes "0")) (zero_written (text_at s a) (and_l _ _ is_number) (sym is_value ∙ z)) ∙ same_refl (bytes "0"))))

    pub points_left : not error ≡ false → (v ≡ 0 → ⊥) → None ≡ number_at (score_rule R error) s a
    unfolding score_rule
    points_left n z = scored_by false (rw (is_number, n) (not_written (text_at s a) (λ k. z (is_value ∙ k))))

-- What the answer tells of the date.
no_date : {e : ℕ} → None ≡ Some e → ⊥
no_date p = let z : ◌≡◌ {A = ℕ} 0 1 = cc in omega arith

module _ (s : Text) (at : ℕ) where
  pub dated_picked : {e : ℕ} → dated_at s at ≡ Some e → (date_rule (qso_at s at) ≡ true) × (e ≡ end_of s at)
  unfolding dated_at
  dated_picked {e} p =
      let q : (date_rule (qso_at s at) ≡ true) × (Some (end_of s at) ≡ Some e) =
      picked (date_rule (qso_at s at)) p no_date in
      (q.0, cc)

  pub dated_refused : dated_at s at ≡ None → date_rule (qso_at s at) ≡ false
  unfolding dated_at
  dated_refused p = (passed (date_rule (qso_at s at)) p (λ q. no_date (sym q))).0

  -- No date stands at the end of a text, nor behind it, and no ERROR.
  pub date_beyond : length s ≤ at → date_rule (qso_at s at) ≡ false
  unfolding short_date error_call same
  date_beyond h =
      let here : text_at s at ≡ [] = text_beyond s at h in
      let third_one : text_at s (field_start s at 2) ≡ [] = text_beyond s (field_start s at 2) (omega (arith, starts_rise s at 2)) in
      date_rule_lem s at ∙ rw (here, third_one)
