-- Laws of texts that are filled with zero bytes: where they have none of their own, nothing is lost.
-- Assumes nothing.
use Prim.Native.Nat.{ℕ, zero, suc, ◌+◌, ◌-◌, ◌≤◌}
use native.Mathlib.Omega.{arith}
use mathlib.Core.Path.{◌≡◌, refl, sym, ap, ◌∙◌}
use mathlib.Core.Bool.{Bool, true, false, not, ◌&&◌}
use mathlib.Core.List.{[], ◌∷◌, ◌++◌}
use lib.Dec.{eqb, leb}
use lib.ListN.{length, replicate, length-append, length-replicate}
use borrow.Author.Tests.{not-true, eqb-true, eqb-false, ne_eqb, leb-true}
use Rattle.rules.specs.Text.{Text, all, same, empty}
use Rattle.rules.specs.Rules.{base}
use Rattle.rules.specs.Fields.{call, call_character}
use Rattle.rules.proofs.Tests.{never, fails, clash, not_false, and_l, and_r}
use Rattle.rules.proofs.TextLaws.{all_weaker, same_refl}
use Rattle.session.specs.Entry.{filled, FitsBytes}

-- A text without zero bytes.
abbrev pub no_zero : Text → Bool
no_zero t = all (λ b. not (eqb b 0)) t

-- A test that zero does not pass keeps zero bytes out.
pub all_not_zero : (f : ℕ → Bool) → f 0 ≡ false → (t : Text) → all f t ≡ true → no_zero t ≡ true
all_not_zero f e =
    all_weaker f (λ b. not (eqb b 0))
    (λ c h. not_false (fails (eqb c 0) (λ z. clash h (ap f (eqb-true c 0 z) ∙ e))))

-- A text that can be kept in so many bytes.
pub record Part (width : ℕ) (t : Text) : Type 0 where
  pub short : length t ≤ width
  pub clean : no_zero t ≡ true

pub length_filled : (n : ℕ) (t : Text) → length t ≤ n → length (filled n t) ≡ n
unfolding filled
length_filled n t h = omega (arith, length-append t (replicate (n - length t) 0), length-replicate {A = ℕ} (n - length t) 0)

-- # Filled texts are the same where the texts are

module _ (c : ℕ) (t : Text) (h : no_zero (c ∷ t) ≡ true) where
  head_not_zero : c ≡ 0 → ⊥
  unfolding all
  head_not_zero = eqb-false c 0 (not-true (eqb c 0) (and_l (not (eqb c 0)) (no_zero t) h))

  tail_no_zero : no_zero t ≡ true
  unfolding all
  tail_no_zero = and_r (not (eqb c 0)) (no_zero t) h

same_behind : (a b : Text) (k l : ℕ) → no_zero a ≡ true → no_zero b ≡ true → length a + k ≡ length b + l → same (a ++ replicate k 0) (b ++ replicate l 0) ≡ same a b
unfolding same
same_behind [] [] k l p q e = let z : k ≡ l = omega arith in rw z (same_refl (replicate l 0))
same_behind [] (d ∷ b) k l p q e =
    let z : k ≡ suc (length b + l) = omega arith in
    rw (z, ne_eqb 0 d (λ y. head_not_zero d b q (sym y)))
same_behind (c ∷ a) [] k l p q e =
    let z : l ≡ suc (length a + k) = omega arith in
    rw (z, ne_eqb c 0 (head_not_zero c a p))
same_behind (c ∷ a) (d ∷ b) k l p q e =
    ap (λ (x : Bool). eqb c d && x) (same_behind a b k l (tail_no_zero c a p) (tail_no_zero d b q) (omega arith))

pub same_filled : (n : ℕ) (a b : Text) → Part n a → Part n b → same (filled n a) (filled n b) ≡ same a b
unfolding filled
same_filled n a b p q = same_behind a b (n - length a) (n - length b) p.clean q.clean (omega (arith, p.short, q.short))

-- Zero bytes are no text that is there.
pub zero_not_filled : (n : ℕ) (t : Text) → empty t ≡ false → no_zero t ≡ true → same (replicate n 0) (filled n t) ≡ false
unfolding filled same
zero_not_filled n [] e h = clash refl e
zero_not_filled zero (c ∷ t) e h = refl
zero_not_filled (suc n) (c ∷ t) e h = rw (ne_eqb 0 c (λ y. head_not_zero c t h (sym y)))

-- # The rules of document 01 leave all of it room

pub base_fits_bytes : FitsBytes base
unfolding base call
base_fits_bytes =
    record {
      home_short = λ c e. leb-true (length c) 14 (and_r (leb 3 (length c)) (leb (length c) 14) (long c e));
      home_plain = λ c e. all_not_zero call_character refl c (and_r (leb 3 (length c) && leb (length c) 14) (all call_character c) e);
      home_there = there;
      exchange_short = omega arith;
      worth_small = omega arith;
    }
  where
    long : (c : Text) → call c ≡ true → (leb 3 (length c) && leb (length c) 14) ≡ true
    long c e = and_l (leb 3 (length c) && leb (length c) 14) (all call_character c) e

    there : (c : Text) → call c ≡ true → empty c ≡ false
    there [] e = never e
    there (d ∷ c) e = refl
