-- Laws of reading a record: at each field, what was read so far is right and the next field begins here; a bad field is told by its number.
-- Assumes nothing.
use Prim.Native.Nat.{ℕ, zero, suc, ◌+◌, ◌≤◌, ◌<◌}
use native.Mathlib.Omega.{arith}
use native.Mathlib.Nat.{le_of_suc-le-suc, not-suc-le-zero}
use mathlib.Core.Path.{◌≡◌, refl, sym, ap, ◌∙◌}
use mathlib.Core.Bool.{Bool, true, false, cond, not, ◌||◌, true≢false}
use mathlib.Core.List.{List, [], ◌∷◌}
use lib.ListN.{length, drop, get_or}
use Rattle.rules.specs.Text.{Text, bytes, empty, number_of, same, value}
use Rattle.rules.specs.Rules.{Rules}
use Rattle.rules.specs.Fields.{call, date_rule, empty_or, error_call, exchange, field_rules, is_error, locator, mode, new_mark, points_rule, qso_of, report, serial, time_of_day}
use Rattle.rules.specs.Reading.{breaks, first_broken}
use Rattle.rules.proofs.Tests.{and_l}
use Rattle.rules.proofs.TextLaws.{same_eq, same_of_eq}
use Rattle.fields.specs.Field.{end_of, text_at}
use Rattle.fields.proofs.Picked.{Kept}
use Rattle.reader.specs.declared.Contact.{Contact}
use Rattle.std.specs.Prelude.{Ok, Err}
use Rattle.reader.specs.Contact.{contact_at, field_start, last_end, value_by}
use Rattle.reader.specs.Record.{fields_from, parsed_at, parsed_by, qso_at, rules_at, score_rule}
use Rattle.reader.proofs.PlaceLaws.{field_first, next_start, start_within}

-- Tests one after the other: the first that fails is told by its number.
passes : (bs : List Bool) (m k : ℕ) → get_or bs k false ≡ true → first_broken m (drop k bs) ≡ first_broken (suc m) (drop (suc k) bs)
unfolding first_broken
passes [] m k e = absurd (true≢false (sym e))
passes (b ∷ bs) m zero e = rw e
passes (b ∷ bs) m (suc k) e = passes bs m k e

fails : (bs : List Bool) (m k : ℕ) → k < length bs → get_or bs k false ≡ false → first_broken m (drop k bs) ≡ breaks m
unfolding first_broken
fails [] m k h e = absurd (not-suc-le-zero h)
fails (b ∷ bs) m zero h e = rw e
fails (b ∷ bs) m (suc k) h e = fails bs m k (le_of_suc-le-suc h) e

-- The text of the field of a number, from 0.
abbrev pub text_of : Text → ℕ → ℕ → Text
text_of s at k = text_at s (field_start s at k)

-- The fourteen tests, each over the text of its field but for the first and the eleventh, which look at the call too.
pub tests_are : (R : Rules) (s : Text) (at : ℕ) →
    rules_at R s at
    ≡ date_rule (qso_at s at)
    ∷ time_of_day (text_of s at 1)
    ∷ call (text_of s at 2)
    ∷ mode (text_of s at 3)
    ∷ report (text_of s at 4)
    ∷ serial (text_of s at 5)
    ∷ report (text_of s at 6)
    ∷ serial (text_of s at 7)
    ∷ exchange R (text_of s at 8)
    ∷ empty_or locator (text_of s at 9)
    ∷ score_rule R (same (text_of s at 2) error_call) (text_of s at 10)
    ∷ empty_or (same (78 ∷ [])) (text_of s at 11)
    ∷ empty_or (same (78 ∷ [])) (text_of s at 12)
    ∷ empty_or (same (78 ∷ [])) (text_of s at 13)
    ∷ []
unfolding rules_at field_rules qso_at qso_of fields_from field_start score_rule points_rule is_error new_mark
tests_are R s at = refl

pub test_is : (R : Rules) (s : Text) (at k : ℕ) {bs : List Bool} → rules_at R s at ≡ bs → get_or (rules_at R s at) k false ≡ get_or bs k false
test_is R s at k e = ap (λ (bs : List Bool). get_or bs k false) e

-- The field of number k, from 0, begins at this place, and those before it are right.
pub record Stands (R : Rules) (s : Text) (at k a : ℕ) : Type 0 where
  pub place : a ≡ field_start s at k
  pub right : first_broken 1 (rules_at R s at) ≡ first_broken (suc k) (drop k (rules_at R s at))

pub stands_first : (R : Rules) (s : Text) (at : ℕ) → Stands R s at 0 at
stands_first R s at = record { place = field_first s at; right = refl }

bad_told : (R : Rules) (s : Text) (at : ℕ) {field : ℕ} → first_broken 1 (rules_at R s at) ≡ breaks field → Err field ≡ parsed_at R s at
unfolding parsed_at parsed_by
bad_told R s at e = sym (ap (parsed_by (contact_at R s at)) e)

module _ {R : Rules} {s : Text} {at k a : ℕ} (p : Stands R s at k a) where
  -- The place is not far behind the text.
  pub near : at ≤ length s → a ≤ length s + k
  near h = omega (arith, p.place, start_within s at k)

  -- The field is right by its test, and ends here: the next begins behind the semicolon.
  pub stands_next : {e : ℕ} → e ≡ end_of s a → get_or (rules_at R s at) k false ≡ true → Stands R s at (suc k) (e + 1)
  stands_next {e} q t =
      record {
        place = next_start s at k (q ∙ ap (end_of s) p.place);
        right = p.right ∙ passes (rules_at R s at) (suc k) k t;
      }

  pub stands_broken : k < 14 → get_or (rules_at R s at) k false ≡ false → Err (suc k) ≡ parsed_at R s at
  stands_broken h t =
      bad_told R s at (p.right ∙ fails (rules_at R s at) (suc k) k (rw (tests_are R s at) h) t)

  -- The same for a field whose test is a rule of its text alone.
  module _ (rule : Text → Bool) (is : get_or (rules_at R s at) k false ≡ rule (text_of s at k)) where
    here : rule (text_of s at k) ≡ rule (text_at s a)
    here = ap (λ (i : ℕ). rule (text_at s i)) (sym p.place)

    pub field_kept : {e : ℕ} → Kept rule s a e → Stands R s at (suc k) (e + 1)
    field_kept f = stands_next f.ending (is ∙ here ∙ f.holds)

    pub field_broken : k < 14 → rule (text_at s a) ≡ false → Err (suc k) ≡ parsed_at R s at
    field_broken h f = stands_broken h (is ∙ here ∙ f)

-- All fourteen fields are right: what is told is where they lie.
pub fields_told : {R : Rules} {s : Text} {at a : ℕ} → Stands R s at 14 a → Ok (contact_at R s at) ≡ parsed_at R s at
unfolding parsed_at parsed_by first_broken
fields_told {R} {s} {at} p =
    sym (ap (parsed_by (contact_at R s at)) (p.right ∙ ap (λ (bs : List Bool). first_broken 15 (drop 14 bs)) (tests_are R s at)))

-- What is told of a record, by the places of its fields.
module _ (R : Rules) (s : Text) (at : ℕ) where
  ends_there : (k : ℕ) {e : ℕ} → e + 1 ≡ field_start s at (suc k) → e ≡ end_of s (field_start s at k)
  unfolding field_start
  ends_there k h = omega arith

  -- Points that are right are a number.
  pub worth_is_lem : (error : Bool) (k : ℕ) {a v : ℕ} → a ≡ field_start s at k → score_rule R error (text_at s a) ≡ true → v ≡ value (text_at s a) → v ≡ value_by (number_of R.points_digits) (text_of s at k)
  unfolding value_by score_rule
  worth_is_lem error k {a} p h e =
      let t : Text = text_at s a in
      let is : number_of R.points_digits t ≡ true = and_l (number_of R.points_digits t) (not error || same t (bytes "0")) h in
      e
      ∙ ap (λ (b : Bool). cond b (value t) 0) (sym is)
      ∙ ap (λ (i : ℕ). value_by (number_of R.points_digits) (text_at s i)) p

  -- A mark that is right is the mark of a new one, or nothing.
  pub country_is_lem : (k : ℕ) {a : ℕ} {b : Bool} → a ≡ field_start s at k → empty_or (same (78 ∷ [])) (text_at s a) ≡ true → b ≡ not (empty (text_at s a)) → b ≡ same (text_of s at k) new_mark
  unfolding empty_or new_mark same
  country_is_lem k {a} p h e = e ∙ by (text_at s a) h ∙ ap (λ (i : ℕ). same (text_at s i) new_mark) p
    where
      by : (t : Text) → empty_or (same (78 ∷ [])) t ≡ true → not (empty t) ≡ same t new_mark
      by [] g = refl
      by (c ∷ t) g = sym (same_of_eq (c ∷ t) (78 ∷ []) (sym (same_eq (78 ∷ []) (c ∷ t) g)))

  pub contact_is : {call callend exchange exchangeend locatorend pointsend worth end : ℕ} {error country : Bool} →
      call ≡ field_start s at 2 →
      callend + 1 ≡ field_start s at 3 →
      exchange ≡ field_start s at 8 →
      exchangeend + 1 ≡ field_start s at 9 →
      locatorend + 1 ≡ field_start s at 10 →
      pointsend + 1 ≡ field_start s at 11 →
      worth ≡ value_by (number_of R.points_digits) (text_of s at 10) →
      error ≡ same (text_of s at 2) error_call →
      country ≡ same (text_of s at 13) new_mark →
      end ≡ last_end s (field_start s at 14) →
      ◌≡◌ {A = Contact}
      (record {
        call = call;
        callend = callend;
        exchange = exchange;
        exchangeend = exchangeend;
        locator = exchangeend + 1;
        locatorend = locatorend;
        points = locatorend + 1;
        pointsend = pointsend;
        worth = worth;
        error = error;
        country = country;
        end = end;
      })
      (contact_at R s at)
  unfolding contact_at
  contact_is p2 p3 p8 p9 p10 p11 w e n l =
      rw (p9, p10, p2, p8, ends_there 2 p3, ends_there 8 p9, ends_there 9 p10, ends_there 10 p11, w, e, n, l)
