-- Laws of places: of a field by where it ends, and of the fields and records behind one another.
-- Assumes nothing.
use Rattle.std.specs.Prelude.{Some, None}
use Prim.Native.Nat.{ℕ, zero, suc, ◌+◌, ◌-◌, ◌≤◌, ◌<◌, max}
use native.Mathlib.Omega.{arith}
use native.Mathlib.Nat.{add-zero, add-suc}
use native.Mathlib.Numerals.{add-one}
use mathlib.Core.List.{List, [], ◌∷◌, ◌++◌}
use mathlib.Core.Path.{◌≡◌, refl, sym, ap, ◌∙◌}
use mathlib.Core.Bool.{Bool, true, false, cond, and-true}
use lib.Dec.{eqb}
use lib.ListN.{length, take, drop, get_or, drop_of_length-le, length-drop}
use borrow.Author.Tests.{eq-eqb, ne_eqb}
use Rattle.rules.specs.Text.{Text, begins, span, same, value}
use Rattle.rules.specs.Rules.{Rules}
use Rattle.rules.specs.Fields.{Qso, duplicate_mark, error_call, new_mark}
use Rattle.rules.specs.Log.{crlf}
use Rattle.rules.proofs.TextLaws.{span_short, same_apart}
use Rattle.fields.specs.Field.{in_field, text_at, end_of}
use Rattle.fields.proofs.FieldLaws.{next}
use Rattle.figures.specs.Figure.{number_at, value_told}
use Rattle.fields.proofs.PartLaws.{end_by_span, end_within}
use Rattle.reader.specs.Contact.{field_start, value_by, last_end, contact_at, behind, Holds}

module _ (s : Text) where
  -- A run ends within the text, or where it begins.
  pub run_within : (f : ℕ → Bool) (i : ℕ) → i + span f (drop i s) ≤ max i (length s)
  run_within f i = omega (arith, span_short f (drop i s), length-drop i s)

  -- A field by its two ends.
  module _ (a : ℕ) {e : ℕ} (h : e ≡ end_of s a) where
    pub ends_behind : a ≤ e
    ends_behind = omega (arith, end_by_span s a)

    pub ends_inside : a < e → e ≤ length s
    ends_inside g = omega (arith, end_within s a)

    pub text_by_end : text_at s a ≡ take (e - a) (drop a s)
    unfolding text_at
    text_by_end =
        let n : span in_field (drop a s) ≡ e - a = omega (arith, end_by_span s a) in
        ap (λ (k : ℕ). take k (drop a s)) n

    pub text_length : length (text_at s a) ≡ e - a
    unfolding end_of
    text_length = omega arith

  -- The fields behind one another.
  pub start_more : (at j k : ℕ) → field_start s (field_start s at j) k ≡ field_start s at (j + k)
  unfolding field_start
  start_more at j zero = rw (add-zero j)
  start_more at j (suc k) = rw (add-suc j k, start_more at j k)

  pub start_next : (at k : ℕ) → end_of s (field_start s at k) + 1 ≡ field_start s at (k + 1)
  unfolding field_start
  start_next at k = rw (add-one k)

  pub start_within : (at k : ℕ) → field_start s at k ≤ max at (length s) + k
  unfolding field_start
  start_within at zero = omega arith
  start_within at (suc k) = omega (arith, start_within at k, end_within s (field_start s at k))

  -- What a number is worth.
  module _ (rule : Text → Bool) (at : ℕ) where
    pub value_is : value_told (number_at rule s at) ≡ value_by rule (text_at s at)
    unfolding number_at value_by
    value_is = by (rule (text_at s at))
      where
        by : (b : Bool) → value_told (cond b (Some (value (text_at s at), end_of s at)) None) ≡ cond b (value (text_at s at)) 0
        by true = refl
        by false = refl

  -- The mark of a new one is one character, and the call of a mistake is five.
  module _ (a : ℕ) {e : ℕ} (h : e ≡ end_of s a) where
    pub no_error : (e - a ≡ 5 → ⊥) → false ≡ same (text_at s a) error_call
    unfolding error_call
    no_error n = same_apart (text_at s a) error_call (λ k. n (sym (text_length a h) ∙ k))

    pub no_new : (e - a ≡ 1 → ⊥) → false ≡ same (text_at s a) new_mark
    unfolding new_mark
    no_new n = same_apart (text_at s a) new_mark (λ k. n (sym (text_length a h) ∙ k))

    pub new_by_byte : e - a ≡ 1 → eqb (get_or s a 0) 78 ≡ same (text_at s a) new_mark
    unfolding new_mark same
    new_by_byte n =
        rw (text_by_end a h, n, next s a (omega (arith, ends_inside a h (omega arith)))) (sym (and-true (eqb (get_or s a 0) 78)))

  -- The first field begins where the record does.
  pub field_first : (at : ℕ) → at ≡ field_start s at 0
  unfolding field_start
  field_first at = refl

  -- One field after the other, from a place on.
  module _ (at k : ℕ) where
    pub field_ends : {a e : ℕ} → a ≡ field_start s at k → e ≡ a + span in_field (drop a s) → e ≡ end_of s (field_start s at k)
    field_ends g h = h ∙ sym (end_by_span s _) ∙ ap (end_of s) g

    pub next_start : {e : ℕ} → e ≡ end_of s (field_start s at k) → e + 1 ≡ field_start s at (suc k)
    unfolding field_start
    next_start g = ap (λ (n : ℕ). n + 1) g

  -- The next record begins behind this one, and behind its points.
  pub starts_rise : (at k : ℕ) → at ≤ field_start s at k
  unfolding field_start
  starts_rise at zero = omega arith
  starts_rise at (suc k) = omega (arith, starts_rise at k, end_by_span s (field_start s at k))

  pub ends_behind_start : (R : Rules) (at : ℕ) → at ≤ (contact_at R s at).end
  unfolding contact_at last_end
  ends_behind_start R at = omega (arith, starts_rise at 14)

  -- So where a text holds records, they begin within it.
  pub held_within : (R : Rules) (qs : List Qso) (at : ℕ) → Holds R s at qs → at ≤ length s
  held_within R [] at h = omega arith
  held_within R (q ∷ qs) at h = omega (arith, ends_behind_start R at, held_within R qs (behind (contact_at R s at)) h.1)

-- The end of a line is no letter of a duplicate.
pub no_letter : (rest : Text) → begins duplicate_mark (crlf ++ rest) ≡ false
unfolding duplicate_mark crlf begins
no_letter rest = refl

-- The last field, of which a `D` is told by its one character.
module _ (s : Text) (a : ℕ) where
  pub last_behind : a ≤ last_end s a
  unfolding last_end
  last_behind = omega arith

  pub last_beyond : length s ≤ a → a ≡ last_end s a
  unfolding last_end begins duplicate_mark
  last_beyond h = rw (drop_of_length-le s h) (omega arith)

  module _ (h : a < length s) where
    pub last_none : (get_or s a 0 ≡ 68 → ⊥) → a ≡ last_end s a
    unfolding last_end begins duplicate_mark
    last_none e = rw (next s a h, ne_eqb 68 (get_or s a 0) (λ k. e (sym k))) (omega arith)

    pub last_marked : get_or s a 0 ≡ 68 → a + 1 ≡ last_end s a
    unfolding last_end begins duplicate_mark
    last_marked e = rw (next s a h, eq-eqb 68 (get_or s a 0) (sym e))
