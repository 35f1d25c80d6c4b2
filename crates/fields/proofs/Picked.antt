-- What a reader's answer says of its field, for whoever calls it: where there is one the rule is kept and the end is the field's, and where
-- there is none the rule is broken.
-- Assumes nothing.
use Rattle.std.specs.Prelude.{Some, None}
use Prim.Native.Nat.{ℕ}
use mathlib.Core.Bool.{Bool, true, false, not}
use mathlib.Core.List.{[], ◌∷◌}
use mathlib.Core.Path.{◌≡◌, sym, ap}
use Rattle.std.proofs.lemmas.Option.{none-some, same_Some}
use Rattle.rules.specs.Fields.{error_call, empty_or}
use Rattle.rules.specs.Text.{Text, same, empty}
use Rattle.rules.proofs.Tests.{picked, passed}
use Rattle.fields.specs.declared.CallField.{CallField}
use Rattle.fields.specs.declared.MarkField.{MarkField}
use Rattle.fields.specs.Field.{text_at, end_of, end_by, call_by, mark_at}

-- A field keeps a rule and ends here.
pub record Kept (rule : Text → Bool) (s : Text) (at end : ℕ) : Type 0 where
  pub holds : rule (text_at s at) ≡ true
  pub ending : end ≡ end_of s at

module _ (rule : Text → Bool) (s : Text) (at : ℕ) where
  pub end_picked : {e : ℕ} → end_by rule s at ≡ Some e → Kept rule s at e
  unfolding end_by
  end_picked {e} h =
      let p = picked (rule (text_at s at)) h (none-some e) in
      record { holds = p.0; ending = cc }

  pub end_refused : end_by rule s at ≡ None → rule (text_at s at) ≡ false
  unfolding end_by
  end_refused h = (passed (rule (text_at s at)) h (λ q. none-some _ (sym q))).0

  -- A call's field.
  pub call_picked : {c : CallField} → call_by rule s at ≡ Some c → Kept rule s at c.end × (c.error ≡ same (text_at s at) error_call)
  unfolding call_by
  call_picked {c} h =
      let p = picked (rule (text_at s at)) h (none-some c) in
      let q = same_Some _ _ (sym p.1) in
      (record { holds = p.0; ending = ap (λ (d : CallField). d.end) q }, ap (λ (d : CallField). d.error) q)

  pub call_refused : call_by rule s at ≡ None → rule (text_at s at) ≡ false
  unfolding call_by
  call_refused h = (passed (rule (text_at s at)) h (λ q. none-some _ (sym q))).0

-- A mark.
module _ (letter : ℕ) (s : Text) (at : ℕ) where
  pub mark_picked : {m : MarkField} → mark_at letter s at ≡ Some m → Kept (empty_or (same (letter ∷ []))) s at m.end × (m.set ≡ not (empty (text_at s at)))
  unfolding mark_at
  mark_picked {m} h =
      let p = picked (empty_or (same (letter ∷ [])) (text_at s at)) h (none-some m) in
      let q = same_Some _ _ (sym p.1) in
      (record { holds = p.0; ending = ap (λ (n : MarkField). n.end) q }, ap (λ (n : MarkField). n.set) q)

  pub mark_refused : mark_at letter s at ≡ None → empty_or (same (letter ∷ [])) (text_at s at) ≡ false
  unfolding mark_at
  mark_refused h =
      (passed (empty_or (same (letter ∷ [])) (text_at s at)) h (λ q. none-some _ (sym q))).0
