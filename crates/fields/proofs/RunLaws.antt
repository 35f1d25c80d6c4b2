-- Laws of the fields that are a run of one kind of characters: how long the field is, and what its rule says of that.
-- Assumes nothing.
use Rattle.std.specs.Prelude.{Some, None}
use Prim.Native.Nat.{ℕ, ◌+◌, ◌-◌, ◌≤◌, ◌<◌}
use native.Mathlib.Omega.{arith}
use mathlib.Core.Bool.{Bool, true, false, not, ◌&&◌, and-false, and-true}
use mathlib.Core.List.{◌∷◌}
use mathlib.Core.Path.{◌≡◌, refl, sym, ap, ◌∙◌}
use lib.Dec.{leb, ltb, eqb}
use lib.ListN.{length, get_or, take, drop, length-take, length-drop}
use borrow.Author.Tests.{le-leb, lt-leb, le-ltb, lt-ltb, leb-true, leb-false, eq-eqb, ne_eqb, not-true, not-false}
use Rattle.rules.specs.Fields.{exchange, exchange_character, call, call_character, error_call}
use Rattle.rules.specs.Rules.{Rules}
use Rattle.rules.specs.Text.{Text, span, all, same}
use Rattle.rules.proofs.TextLaws.{same_apart, take_its_length}
use Rattle.fields.specs.Field.{exchange_at, in_field, text_at, ends_at, end_of, end_by, call_by, call_at}
use Rattle.fields.proofs.FieldLaws.{characters, take_characters, run_is_field, run_is_as_long}

-- The run from a place on ended: the field is no run of the kind, or it is, and ends there.
pub record Run (f : ℕ → Bool) (s : Text) (at end : ℕ) : Type 0 where
  pub kind : all f (text_at s at) ≡ true
  pub ending : end_of s at ≡ end
  pub count : length (text_at s at) ≡ end - at

module _ (f : ℕ → Bool) (apart : f 59 ≡ false) (s : Text) (at end : ℕ) (h : end ≡ at + span f (drop at s)) where
  ended : ends_at s end ≡ all f (text_at s at)
  ended = ap (ends_at s) h ∙ run_is_field f apart s at

  pub no_run : {b : Bool} → b ≡ ends_at s end → not b ≡ true → all f (text_at s at) ≡ false
  no_run q e = sym ended ∙ sym q ∙ not-true _ e

  pub run : {b : Bool} → b ≡ ends_at s end → not b ≡ false → Run f s at end
  unfolding end_of
  run q e =
      let k : all f (text_at s at) ≡ true = sym ended ∙ sym q ∙ not-false _ e in
      let l : end_of s at ≡ end = run_is_as_long f apart s at k ∙ sym h in
      record { kind = k; ending = l; count = omega arith }

-- A field by its length.
pub text_of_length : (s : Text) (at n : ℕ) → length (text_at s at) ≡ n → text_at s at ≡ take n (drop at s)
unfolding text_at
text_of_length s at n e = sym (take_its_length (span in_field (drop at s)) (drop at s)) ∙ ap (λ (k : ℕ). take k (drop at s)) e

-- A field that is not empty lies within the line.
pub text_within : (s : Text) (at : ℕ) → 0 < length (text_at s at) → at + length (text_at s at) ≤ length s
unfolding text_at
text_within s at h =
    omega (arith, length-take (span in_field (drop at s)) (drop at s), length-drop at s)

-- The call `ERROR`.
other_length : (t : Text) → (length t ≡ 5 → ⊥) → false ≡ same t error_call
unfolding error_call
other_length t h = same_apart t error_call h

error_first : (s : Text) (i : ℕ) → i + 5 ≤ length s → same (take 5 (drop i s)) error_call ≡ same (characters s i 5) error_call
error_first s i h = ap (λ (t : Text). same t error_call) (take_characters s i 5 h)

pub error_by : (s : Text) (i : ℕ) → i + 5 ≤ length s
    → same (take 5 (drop i s)) error_call
    ≡ (eqb (get_or s i 0) 69 && (eqb (get_or s (i + 1) 0) 82 && (eqb (get_or s (i + 2) 0) 82 && (eqb (get_or s (i + 3) 0) 79 && eqb (get_or s (i + 4) 0) 82))))
unfolding same error_call
error_by s i h = error_first s i h ∙ rw (and-true (eqb (get_or s (i + 4) 0) 82))

-- A call.
pub call_kind : (s : Text) (at : ℕ) → all call_character (text_at s at) ≡ false → None ≡ call_at s at
unfolding call_by call
call_kind s at e = rw (e, and-false (leb 3 (length (text_at s at)) && leb (length (text_at s at)) 14))

module _ {s : Text} {at end : ℕ} (r : Run call_character s at end) where
  pub call_short_lem : end - at < 3 → None ≡ call_at s at
  unfolding call_by call
  call_short_lem h = rw (lt-leb 3 (length (text_at s at)) (omega arith))

  pub call_long : 14 < end - at → None ≡ call_at s at
  unfolding call_by call
  call_long h = rw (lt-leb (length (text_at s at)) 14 (omega arith), and-false (leb 3 (length (text_at s at))))

  call_read : 3 ≤ end - at → end - at ≤ 14 → Some (record { end = end; error = same (text_at s at) error_call }) ≡ call_at s at
  unfolding call_by call
  call_read h l =
      rw (
        le-leb 3 (length (text_at s at)) (omega arith),
        le-leb (length (text_at s at)) 14 (omega arith),
        r.kind,
        r.ending,
      )

  pub call_other : 3 ≤ end - at → end - at ≤ 14 → (end - at ≡ 5 → ⊥) → Some (record { end = end; error = false }) ≡ call_at s at
  call_other h l n =
      ap (λ (b : Bool). Some (record { end = end; error = b })) (other_length (text_at s at) (λ e. n (sym r.count ∙ e))) ∙ call_read h l

  pub call_five : {b : Bool} → end - at ≡ 5 → b ≡ same (take 5 (drop at s)) error_call → Some (record { end = end; error = b }) ≡ call_at s at
  call_five e h =
      ap (λ (b : Bool). Some (record { end = end; error = b })) (h ∙ ap (λ (t : Text). same t error_call) (sym (text_of_length s at 5 (r.count ∙ e))))
      ∙ call_read (omega arith) (omega arith)

  pub five_within : end - at ≡ 5 → at + 5 ≤ length s
  five_within e = omega (arith, text_within s at (omega arith))

-- An exchange.
module _ (R : Rules) where
  pub exchange_kind : (s : Text) (at : ℕ) → all exchange_character (text_at s at) ≡ false → None ≡ exchange_at R s at
  unfolding end_by exchange
  exchange_kind s at e = rw (e, and-false (leb (length (text_at s at)) R.longest_exchange))

  module _ {s : Text} {at end most : ℕ} (r : Run exchange_character s at end) (m : most ≡ R.longest_exchange) where
    pub exchange_long : most < end - at → None ≡ exchange_at R s at
    unfolding end_by exchange
    exchange_long h = rw (lt-leb (length (text_at s at)) R.longest_exchange (omega arith))

    pub exchange_read : end - at ≤ most → Some end ≡ exchange_at R s at
    unfolding end_by exchange
    exchange_read h = rw (le-leb (length (text_at s at)) R.longest_exchange (omega arith), r.kind, r.ending)
