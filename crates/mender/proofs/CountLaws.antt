-- Laws of the count line that is made anew.
-- Assumes nothing.
use Prim.Native.Nat.{ℕ, ◌+◌, ◌-◌, ◌≤◌}
use native.Mathlib.Omega.{arith}
use mathlib.Core.Path.{◌≡◌, refl, sym, ap, ◌∙◌}
use mathlib.Core.Bool.{Bool, true, false, cond, ◌&&◌}
use mathlib.Core.List.{[], ◌∷◌}
use lib.Dec.{leb}
use lib.ListN.{length, take, drop, length-drop}
use lib.Seq.{take_all}
use borrow.Author.Tests.{le-leb}
use Rattle.rules.specs.Log.{count_start, count_line}
use Rattle.rules.specs.Mending.{digits_then_end}
use Rattle.rules.specs.Text.{Text, digit, same, span}
use Rattle.rules.proofs.TextLaws.{span_short}
use Rattle.std.specs.Prelude.{Some, None}
use Rattle.mender.specs.declared.Kind.TheVariants.{CountSet}
use Rattle.mender.specs.Lines.{count_kind}

-- What stands behind `[QSORecords;`: digits, and then `]`.
module _ (t : Text) {n : ℕ} (run : n ≡ 0 + span digit (drop 0 t)) where
  digits_by : digits_then_end t ≡ (leb 1 n && same (drop n t) (93 ∷ []))
  unfolding digits_then_end
  digits_by = let r : span digit t ≡ n = omega (arith, run) in rw r

  pub run_within : n ≤ length t
  run_within = omega (arith, run, span_short digit t)

  pub no_digits : n ≡ 0 → false ≡ digits_then_end t
  no_digits z = sym (digits_by ∙ rw z)

  pub some_digits : {r : Bool} → (n ≡ 0 → ⊥) → r ≡ same (take (length t - n) (drop n t)) (93 ∷ []) → r ≡ digits_then_end t
  some_digits z e =
      e
      ∙ ap (λ (u : Text). same u (93 ∷ [])) (take_all (length t - n) (drop n t) (omega (arith, length-drop n t)))
      ∙ sym (digits_by ∙ ap (λ (b : Bool). b && same (drop n t) (93 ∷ [])) (le-leb 1 n (omega arith)))

-- What has to be done to a line that begins as the count line does, by what stands behind its word.
module _ (follow : ℕ) (l : Text) {b : Bool} (behind : b ≡ digits_then_end (take (length l - 12) (drop 12 l))) where
  digits_told : digits_then_end (drop 12 l) ≡ b
  digits_told = sym (behind ∙ ap digits_then_end (take_all (length l - 12) (drop 12 l) (omega (arith, length-drop 12 l))))

  kind_by : (c : Bool) → same (count_line follow) l ≡ c → count_kind follow l ≡ cond b (cond c None (Some CountSet)) None
  unfolding count_kind count_start
  kind_by c q = rw (digits_told, q)

  pub count_none : b ≡ false → None ≡ count_kind follow l
  count_none e = sym (kind_by (same (count_line follow) l) refl ∙ rw e)

  module _ (e : b ≡ true) {c : Bool} (told : c ≡ same (count_line follow) l) where
    pub count_right : c ≡ true → None ≡ count_kind follow l
    count_right t = sym (kind_by c (sym told) ∙ rw (e, t))

    pub count_wrong : c ≡ false → Some CountSet ≡ count_kind follow l
    count_wrong t = sym (kind_by c (sym told) ∙ rw (e, t))
