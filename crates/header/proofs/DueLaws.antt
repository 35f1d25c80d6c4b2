-- Laws of reading a text part by part: each part keeps the rule at its place, and the last ends with the text.
-- Assumes nothing.
use Prim.Native.Nat.{ℕ, ◌+◌, ◌≤◌, ◌<◌}
use native.Mathlib.Decide.{dec_lt, dec_le}
use native.Mathlib.Omega.{arith}
use mathlib.Core.Bool.{Bool, true, false, and-false, and-true}
use mathlib.Core.List.{List, [], ◌∷◌}
use mathlib.Core.Path.{◌≡◌, refl, sym, ap, ◌∙◌}
use lib.Dec.{eqb}
use lib.ListN.{length, drop}
use lib.Seq.{take_all}
use borrow.Author.Tests.{eq-eqb, ne_eqb}
use Rattle.rules.specs.Arguments.{each}
use Rattle.rules.specs.Text.{Text, span, all, parts}
use Rattle.fields.specs.Field.{in_field, text_at, end_of}
use Rattle.fields.proofs.PartLaws.{parts_split, end_by_span, end_within, at_end_lem, parts_last, parts_more, whole_span}
use Rattle.fields.proofs.Picked.{Kept}

-- The rules that are left are those of the parts from this place on; beyond the end there are too few parts.
pub record Due (rules left : List (Text → Bool)) (t : Text) (at : ℕ) : Type 0 where
  pub within : at ≤ length t → each rules (parts t) ≡ each left (parts (drop at t))
  pub beyond : length t < at → each rules (parts t) ≡ false

pub due_first : (rules : List (Text → Bool)) (t : Text) → Due rules rules t 0
due_first rules t = record { within = λ h. refl; beyond = λ h. absurd (omega arith) }

-- There is no text without a part.
no_rule : (s : Text) → each [] (parts s) ≡ false
unfolding each
no_rule s = rw (parts_split s)

module _ {rules : List (Text → Bool)} {rule : Text → Bool} {t : Text} {at : ℕ} where
  pub due_broken : {left : List (Text → Bool)} → Due rules (rule ∷ left) t at → rule (text_at t at) ≡ false → false ≡ each rules (parts t)
  unfolding each
  due_broken d e = by (dec_le at (length t))
    where
      by : Dec (at ≤ length t) → false ≡ each rules (parts t)
      by (yes h) = sym (d.within h ∙ rw (at_end_lem t at, e))
      by (no h) = sym (d.beyond (omega arith))

  pub due_next : {next : Text → Bool} {left : List (Text → Bool)} {e : ℕ} → Due rules (rule ∷ next ∷ left) t at → Kept rule t at e → Due rules (next ∷ left) t (e + 1)
  unfolding each
  due_next {next} {left} {e} d k =
      record {
        within = λ h.
            let inside : end_of t at < length t = omega (arith, k.ending) in
            d.within (omega (arith, end_by_span t at))
            ∙ rw (parts_more t at inside, k.holds)
            (ap (λ (n : ℕ). each (next ∷ left) (parts (drop (n + 1) t))) (sym k.ending));
        beyond = λ h. by (dec_le at (length t)) h;
      }
    where
      by : Dec (at ≤ length t) → length t < e + 1 → each rules (parts t) ≡ false
      by (yes h) l =
          d.within h ∙ rw (parts_last t at (omega (arith, k.ending)), and-false (rule (text_at t at)))
      by (no h) l = d.beyond (omega arith)

  pub due_last : {e : ℕ} → Due rules (rule ∷ []) t at → Kept rule t at e → eqb e (length t) ≡ each rules (parts t)
  unfolding each
  due_last {e} d k = by (dec_le at (length t)) (dec_lt (end_of t at) (length t))
    where
      by : Dec (at ≤ length t) → Dec (end_of t at < length t) → eqb e (length t) ≡ each rules (parts t)
      by (yes h) (yes l) =
          ne_eqb e (length t) (λ q. omega (arith, k.ending))
          ∙ sym (d.within h ∙ rw (parts_more t at l, no_rule (drop (end_of t at + 1) t), and-false (rule (text_at t at))))
      by (yes h) (no l) =
          eq-eqb e (length t) (omega (arith, k.ending, end_within t at))
          ∙ sym (d.within h ∙ rw (parts_last t at (omega arith), k.holds))
      by (no h) l = ne_eqb e (length t) (λ q. omega (arith, k.ending, end_by_span t at)) ∙ sym (d.beyond (omega arith))

-- A rule that lets no semicolon through: a text that keeps it is its only part.
module _ (rule : Text → Bool) (apart : (t : Text) → rule t ≡ true → all in_field t ≡ true) (t : Text) where
  whole_text : length t ≤ end_of t 0 → text_at t 0 ≡ t
  unfolding text_at
  whole_text h = take_all (span in_field t) t (omega (arith, end_by_span t 0))

  alone : each (rule ∷ []) (parts t) ≡ rule t
  unfolding each
  alone = by (dec_lt (end_of t 0) (length t))
    where
      broken : (b : Bool) → rule t ≡ b → end_of t 0 < length t → false ≡ b
      broken true e h = absurd (omega (arith, end_by_span t 0, whole_span in_field t (apart t e)))
      broken false e h = refl

      by : Dec (end_of t 0 < length t) → each (rule ∷ []) (parts t) ≡ rule t
      by (yes h) =
          rw (parts_more t 0 h, no_rule (drop (end_of t 0 + 1) t), and-false (rule (text_at t 0))) (broken (rule t) refl h)
      by (no h) =
          let l : length t ≤ end_of t 0 = omega arith in
          rw (parts_last t 0 l, whole_text l, and-true (rule t))

  pub argument_broken : rule (text_at t 0) ≡ false → false ≡ rule t
  argument_broken e = due_broken (due_first (rule ∷ []) t) e ∙ alone

  pub argument_ends : {e : ℕ} → Kept rule t 0 e → eqb e (length t) ≡ rule t
  argument_ends k = due_last (due_first (rule ∷ []) t) k ∙ alone
