-- Laws of comparing a word with the front of a text, and texts with each other.
-- Assumes nothing.
use Prim.Native.Nat.{ℕ, ◌+◌, ◌≤◌, ◌<◌}
use native.Mathlib.Nat.{le_of_suc-le-suc, not-suc-le-zero}
use native.Mathlib.Omega.{arith}
use mathlib.Core.Bool.{Bool, true, false, cond, ◌&&◌}
use mathlib.Core.List.{[], ◌∷◌, ◌++◌, map}
use mathlib.Core.Path.{◌≡◌, refl, sym, ap, ◌∙◌}
use lib.Dec.{eqb, leb}
use lib.ListN.{length, take, drop, length-map}
use borrow.Author.Tests.{ne_eqb, leb-true}
use Rattle.std.specs.Cmp.Lexicographic.{pointwise}
use Rattle.std.specs.List.{list_all, zip}
use Rattle.std.proofs.lemmas.List.{map-id}
use Rattle.rules.specs.Arguments.{Entry}
use Rattle.rules.specs.Log.{keyword_start}
use Rattle.rules.specs.Reading.{spelling_on, has_keyword}
use Rattle.rules.specs.Text.{Text, bytes, same, same_but_case, capital, lower, begins}
use Rattle.rules.proofs.Tests.{and_l}

-- A word is at the front of a text where the two are the same for as long as the word goes on.
pub begins_by : (w s : Text) → pointwise eqb w (take (length w) s) ≡ begins w s
unfolding begins
begins_by [] s = refl
begins_by (c ∷ w) [] = refl
begins_by (c ∷ w) (d ∷ s) = ap (λ (t : Bool). eqb c d && t) (begins_by w s)

pub begins_short : (w s : Text) → length s < length w → false ≡ begins w s
unfolding begins
begins_short [] s h = absurd_lt h
  where
    absurd_lt : length s < 0 → false ≡ true
    absurd_lt k = absurd (omega arith)
begins_short (c ∷ w) [] h = refl
begins_short (c ∷ w) (d ∷ s) h = rest (eqb c d) (begins_short w s (le_of_suc-le-suc h))
  where
    rest : (b : Bool) → false ≡ begins w s → false ≡ (b && begins w s)
    rest true e = e
    rest false e = refl

-- The same place by place, by what any function makes of the characters.
pub front_by : (f : ℕ → ℕ) (w s : Text) → length w ≤ length s → list_all (λ (p : ℕ × ℕ). eqb (f p.0) (f p.1)) (zip w s) ≡ begins (map f w) (map f s)
unfolding begins
front_by f [] s h = refl
front_by f (c ∷ w) [] h = absurd (not-suc-le-zero h)
front_by f (c ∷ w) (d ∷ s) h = ap (λ (t : Bool). eqb (f c) (f d) && t) (front_by f w s (le_of_suc-le-suc h))

pub front_same : (w s : Text) → length w ≤ length s → list_all (λ (p : ℕ × ℕ). eqb p.0 p.1) (zip w s) ≡ begins w s
front_same w s h = front_by (λ c. c) w s h ∙ rw (map-id w, map-id s) refl

-- Texts are the same, character by character.
pub same_by : (a b : Text) → pointwise eqb a b ≡ same a b
unfolding same
same_by [] [] = refl
same_by [] (d ∷ b) = refl
same_by (c ∷ a) [] = refl
same_by (c ∷ a) (d ∷ b) = ap (λ (t : Bool). eqb c d && t) (same_by a b)

-- # In either letter case

pub case_short : (w s : Text) → length s < length w → false ≡ begins (map lower w) (map lower s)
case_short w s h = begins_short (map lower w) (map lower s) (rw (length-map w lower, length-map s lower) h)

lower_sign : (d : ℕ) → eqb 61 (lower d) ≡ eqb 61 d
lower_sign d = by (capital d) refl
  where
    by : (b : Bool) → capital d ≡ b → eqb 61 (cond b (d + 32) d) ≡ eqb 61 d
    by true e =
        let low : 65 ≤ d = leb-true 65 d (and_l (leb 65 d) (leb d 90) e) in
        ne_eqb 61 (d + 32) (λ q. omega arith) ∙ sym (ne_eqb 61 d (λ q. omega arith))
    by false e = refl

-- A line has a keyword where, all in small letters, it begins with the keyword and its `=`.
case_begins : (w l : Text) → begins (map lower (w ++ bytes "=")) (map lower l) ≡ (same (map lower w) (map lower (take (length w) l)) && begins (bytes "=") (drop (length w) l))
unfolding begins same
case_begins [] [] = refl
case_begins [] (d ∷ l) = ap (λ (b : Bool). b && true) (lower_sign d)
case_begins (c ∷ w) [] = refl
case_begins (c ∷ w) (d ∷ l) = by (eqb (lower c) (lower d)) (case_begins w l)
  where
    by : (b : Bool) → begins (map lower (w ++ bytes "=")) (map lower l) ≡ (same (map lower w) (map lower (take (length w) l)) && begins (bytes "=") (drop (length w) l)) →
        (b && begins (map lower (w ++ bytes "=")) (map lower l)) ≡ (b && same (map lower w) (map lower (take (length w) l)) && begins (bytes "=") (drop (length w) l))
    by true e = e
    by false e = refl

pub has_keyword_by : (e : Entry) (l : Text) → begins (map lower (keyword_start e.keyword)) (map lower l) ≡ has_keyword e l
unfolding keyword_start has_keyword spelling_on same_but_case
has_keyword_by e l = case_begins e.keyword l
