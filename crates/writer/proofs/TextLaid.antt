-- What a caller of `put_text` and `count_line` may rely on: a text for which there is room was laid, and for one without room nothing was.
-- Assumes nothing.
use Prim.Native.Nat.{ℕ, ◌+◌, ◌^◌, ◌≤◌, ◌<◌}
use native.Mathlib.Omega.{arith}
use mathlib.Core.Bool.{cond}
use mathlib.Core.List.{List, [], ◌∷◌, ◌++◌}
use mathlib.Core.Path.{◌≡◌, refl, sym, ap, subst, ◌∙◌}
use lib.ListN.{length, take, drop, length-append}
use lib.Seq.{take-append_seam}
use borrow.Author.Tests.{le-leb}
use Rattle.rules.specs.Answers.{over}
use Rattle.rules.specs.Log.{count_start, count_line}
use Rattle.rules.specs.Text.{Text, digits}
use Rattle.writer.specs.Written.{Puts, has_room, written}
use Rattle.writer.proofs.WrittenLaws.{count_most}

module _ (d : List ℕ) (at : ℕ) (t : Text) where
  pub text_laid_lem : {e : List ℕ} {r : ℕ} → at + length t ≤ length d
      → r ≡ cond (has_room d at t) (at + length t) at → e ≡ cond (has_room d at t) (written d at t) d
      → Puts d at t e r
  text_laid_lem h place list =
      record { fits = h; list = rw (le-leb (at + length t) (length d) h) at list; place = rw (le-leb (at + length t) (length d) h) at place }

-- What `put_text` answered of a text that has room, which is known by another name.
pub laid_text : {d e : List ℕ} {at r : ℕ} {t u : Text} → t ≡ u → at + length u ≤ length d → (r ≡ cond (has_room d at t) (at + length t) at) × (e ≡ cond (has_room d at t) (written d at t) d) → Puts d at u e r
laid_text {d} {e} {at} {r} {t} {u} q h p =
    subst (λ (x : Text). Puts d at x e r) q
    (text_laid_lem d at t (subst (λ (x : Text). at + length x ≤ length d) (sym q) h) p.0 p.1)

-- # The count line

-- A count line is its word, the number and `]`.
pub count_parts : (n : ℕ) → count_start ++ digits n ++ (93 ∷ []) ≡ count_line n
unfolding count_line
count_parts n = refl

-- It fits its slice.
pub count_short : (n : ℕ) → n < 2 ^ 64 → length (count_line n) ≤ 33
unfolding count_line count_start
count_short n h = rw (length-append (count_start ++ digits n) (93 ∷ []), length-append count_start (digits n)) (omega (arith, count_most n h))

-- It stands at the front of it.
pub word_is : (n : ℕ) (d : List ℕ) {r : ℕ} {w : List ℕ} → r ≡ length (count_line n) → w ≡ over (count_line n) d → take r w ≡ count_line n
unfolding over
word_is n d {r} {w} p q =
    ap (λ (k : ℕ). take k w) p
    ∙ ap (take (length (count_line n))) q
    ∙ take-append_seam (count_line n) (drop (length (count_line n)) d)

pub word_fits : (n : ℕ) (d : List ℕ) {r : ℕ} {w : List ℕ} → r ≡ length (count_line n) → w ≡ over (count_line n) d → r ≤ length w
unfolding over
word_fits n d {r} {w} p q =
    let l : length w ≡ length (count_line n) + length (drop (length (count_line n)) d) =
    ap length q ∙ length-append (count_line n) (drop (length (count_line n)) d) in
    omega arith
