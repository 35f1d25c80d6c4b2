-- A lent slice in whose front something stands: what is laid behind it stands there too.
-- Assumes nothing.
use Prim.Native.Nat.{ℕ, ◌+◌, ◌≤◌, ◌<◌}
use native.Mathlib.Omega.{arith}
use native.Mathlib.Nat.{zero-add}
use mathlib.Core.Path.{◌≡◌, refl, sym, ap, ◌∙◌}
use mathlib.Core.List.{List, [], ◌∷◌, ◌++◌}
use lib.ListN.{length, take, drop, set, length-append, length-drop}
use lib.Seq.{take-append_seam}
use Rattle.rules.specs.Text.{Text}
use Rattle.rules.specs.Answers.{over}
use Rattle.writer.specs.Written.{written}
use Rattle.writer.proofs.WrittenLaws.{written_then, written_byte}

-- Nothing stands in its front.
pub over_nothing : (d : List ℕ) → over [] d ≡ d
unfolding over
over_nothing d = refl

module _ (t : Text) (d : List ℕ) where
  over_written : over t d ≡ written d 0 t
  unfolding over written
  over_written = ap (λ (n : ℕ). t ++ drop n d) (sym (zero-add (length t)))

  -- It is as long as it was.
  pub over_length : length t ≤ length d → length (over t d) ≡ length d
  unfolding over
  over_length h = omega (arith, length-append t (drop (length t) d), length-drop (length t) d)

  pub over_front : (n : ℕ) → length t ≡ n → take n (over t d) ≡ t
  unfolding over
  over_front n e = ap (λ (m : ℕ). take m (over t d)) (sym e) ∙ take-append_seam t (drop (length t) d)

  -- A text behind it.
  pub over_more : (u : Text) (n : ℕ) → length t ≡ n → n + length u ≤ length d → written (over t d) n u ≡ over (t ++ u) d
  unfolding over written
  over_more u n e h =
      let at : n ≡ 0 + length t = omega (arith, e) in
      (λ i. written (over_written i) (at i) u)
      ∙ written_then d 0 t (omega (arith, e, h)) u
      ∙ ap (λ (m : ℕ). (t ++ u) ++ drop m d) (zero-add (length (t ++ u)))

  pub over_byte : (b n : ℕ) → length t ≡ n → n < length d → set (over t d) n b ≡ over (t ++ (b ∷ [])) d
  over_byte b n e h =
      written_byte (over t d) n b (omega (arith, over_length (omega (arith, e, h)), h)) ∙ over_more (b ∷ []) n e (omega (arith, h))
