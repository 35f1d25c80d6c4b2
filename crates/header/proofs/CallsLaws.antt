-- Laws of an argument that is empty or holds calls: every part keeps one rule.
-- Assumes nothing.
use Prim.Native.Nat.{ℕ, ◌+◌, ◌≤◌, ◌<◌}
use native.Mathlib.Omega.{arith}
use mathlib.Core.Bool.{Bool, true, false}
use mathlib.Core.List.{[], ◌∷◌}
use mathlib.Core.Path.{◌≡◌, refl, sym, ap}
use lib.ListN.{length, drop, drop_of_length-le}
use Rattle.rules.specs.Arguments.{every, meets, empty_or_calls}
use Rattle.rules.specs.Fields.{call}
use Rattle.rules.specs.Rules.{Rules}
use Rattle.rules.specs.Text.{Text, all, parts}
use Rattle.fields.specs.Field.{text_at}
use Rattle.fields.proofs.PartLaws.{at_end_lem, parts_last, parts_more}
use Rattle.fields.proofs.Picked.{Kept}

module _ (rule : Text → Bool) (t : Text) (at : ℕ) where
  pub every_broken : rule (text_at t at) ≡ false → every rule (parts (drop at t)) ≡ false
  unfolding every
  every_broken e = rw (at_end_lem t at, e)

  pub every_last : {e : ℕ} → Kept rule t at e → e ≡ length t → every rule (parts (drop at t)) ≡ true
  unfolding every
  every_last k h = rw (parts_last t at (omega (arith, k.ending)), k.holds)

  pub every_more : {e : ℕ} → Kept rule t at e → e < length t → every rule (parts (drop at t)) ≡ every rule (parts (drop (e + 1) t))
  unfolding every
  every_more k h =
      rw (parts_more t at (omega (arith, k.ending)), k.holds)
      (ap (λ (n : ℕ). every rule (parts (drop (n + 1) t))) (sym k.ending))

-- Behind the last semicolon an empty part is left, which is no call.
pub every_none : (t : Text) (at : ℕ) → length t ≤ at → every call (parts (drop at t)) ≡ false
unfolding every parts call all
every_none t at h = rw (drop_of_length-le t h)

pub calls_none : (R : Rules) (t : Text) → length t ≡ 0 → true ≡ meets R empty_or_calls t
unfolding meets
calls_none R [] h = refl
calls_none R (c ∷ t) h = absurd (omega arith)

pub calls_told : (R : Rules) (t : Text) (b : Bool) → (length t ≡ 0 → ⊥) → every call (parts t) ≡ b → b ≡ meets R empty_or_calls t
unfolding meets
calls_told R [] b n e = absurd (n refl)
calls_told R (c ∷ t) b n e = sym e
