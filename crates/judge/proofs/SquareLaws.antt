-- Squares by their numbers: of two squares that are there, the numbers are equal exactly where the squares are the same; and the search for a
-- number finds it exactly where it is kept.
-- Assumes nothing.
use Prim.Native.Nat.{ℕ, zero, suc, ◌+◌, ◌*◌, ◌-◌, ◌≤◌, ◌<◌}
use native.Mathlib.Omega.{arith}
use native.Mathlib.Nat.{add-zero}
use mathlib.Core.Path.{◌≡◌, refl, sym, ap, ◌∙◌}
use mathlib.Core.Bool.{Bool, true, false, not, ◌&&◌, ◌||◌}
use mathlib.Core.List.{List, [], ◌∷◌}
use lib.Dec.{T, leb, eqb}
use lib.ListN.{length, take, drop, get_or, set, length-set, length-take, length-drop}
use lib.Seq.{get_or-set_same, get_or-set_other, get_or-take, get_or-drop, take-take}
use borrow.Author.Tests.{eqb-true, eqb-false, eq-eqb, ne_eqb, leb-true}
use Rattle.rules.specs.Text.{Text, digit, all, same, empty}
use Rattle.rules.specs.Fields.{square_letter, locator, empty_or, sub_letter}
use Rattle.rules.proofs.Tests.{so, holds, never, and_l, and_r}
use Rattle.rules.proofs.Passing.{same→equal, equal→same, equal_tests}
use Rattle.reader.specs.Contact.{between}
use Rattle.judge.specs.Count.{worth_if}
use Rattle.judge.specs.Memory.{unseen_square, kept_with}
use Rattle.judge.specs.Step.{NewSquare}
use Rattle.judge.specs.Parts.{square_there, number_of_square, kept_numbers, has_number, First}
use Rattle.judge.proofs.PartLaws.{part_size}

-- # The four characters

-- Two letters and two digits, by their codes.
pub record Codes (a b c d : ℕ) : Type 0 where
  pub a_low : 65 ≤ a
  pub a_high : a ≤ 82
  pub b_low : 65 ≤ b
  pub b_high : b ≤ 82
  pub c_low : 48 ≤ c
  pub c_high : c ≤ 57
  pub d_low : 48 ≤ d
  pub d_high : d ≤ 57

module _ (a b c d : ℕ) (h : square_there (a ∷ b ∷ c ∷ d ∷ []) ≡ true) where
  letters : all square_letter (a ∷ b ∷ []) ≡ true
  unfolding square_there
  letters = and_l (all square_letter (a ∷ b ∷ [])) (all digit (c ∷ d ∷ [])) h

  digits : all digit (c ∷ d ∷ []) ≡ true
  unfolding square_there
  digits = and_r (all square_letter (a ∷ b ∷ [])) (all digit (c ∷ d ∷ [])) h

  codes : Codes a b c d
  unfolding all
  codes =
      let la = and_l (square_letter a) (square_letter b && true) letters in
      let lb = and_l (square_letter b) true (and_r (square_letter a) (square_letter b && true) letters) in
      let dc = and_l (digit c) (digit d && true) digits in
      let dd = and_l (digit d) true (and_r (digit c) (digit d && true) digits) in
      record {
        a_low = leb-true 65 a (and_l (leb 65 a) (leb a 82) la);
        a_high = leb-true a 82 (and_r (leb 65 a) (leb a 82) la);
        b_low = leb-true 65 b (and_l (leb 65 b) (leb b 82) lb);
        b_high = leb-true b 82 (and_r (leb 65 b) (leb b 82) lb);
        c_low = leb-true 48 c (and_l (leb 48 c) (leb c 57) dc);
        c_high = leb-true c 57 (and_r (leb 48 c) (leb c 57) dc);
        d_low = leb-true 48 d (and_l (leb 48 d) (leb d 57) dd);
        d_high = leb-true d 57 (and_r (leb 48 d) (leb d 57) dd);
      }

-- A square is four characters.
pub four : (t : Text) → square_there t ≡ true → t ≡ get_or t 0 0 ∷ get_or t 1 0 ∷ get_or t 2 0 ∷ get_or t 3 0 ∷ []
unfolding square_there
four [] h = never h
four (a ∷ []) h = never h
four (a ∷ b ∷ []) h = never h
four (a ∷ b ∷ c ∷ []) h = never h
four (a ∷ b ∷ c ∷ d ∷ []) h = refl
four (a ∷ b ∷ c ∷ d ∷ e ∷ t) h =
    let size = eqb (length (a ∷ b ∷ c ∷ d ∷ e ∷ t)) 4 in
    let letters = all square_letter (a ∷ b ∷ []) in
    let long = eqb-true (length (a ∷ b ∷ c ∷ d ∷ e ∷ t)) 4 (and_l size letters (and_l (size && letters) (all digit (c ∷ d ∷ e ∷ t)) h)) in
    absurd (omega arith)

pub square_codes : (t : Text) → square_there t ≡ true → Codes (get_or t 0 0) (get_or t 1 0) (get_or t 2 0) (get_or t 3 0)
square_codes t h = codes (get_or t 0 0) (get_or t 1 0) (get_or t 2 0) (get_or t 3 0) (sym (ap square_there (four t h)) ∙ h)

-- # Their numbers

-- The four digits of a number, each below its own base.
digits_tell : (a b c d a' b' c' d' : ℕ) → b ≤ 17 → b' ≤ 17 → c ≤ 9 → c' ≤ 9 → d ≤ 9 → d' ≤ 9 → ((a * 18 + b) * 10 + c) * 10 + d + 1 ≡ ((a' * 18 + b') * 10 + c') * 10 + d' + 1 → (a ≡ a') × (b ≡ b') × (c ≡ c') × (d ≡ d')
digits_tell a b c d a' b' c' d' hb hb' hc hc' hd hd' e = (omega arith, omega arith, omega arith, omega arith)

above : (low high x : ℕ) → x ≤ high → x - low ≤ high - low
above low high x h = omega arith

back : (low x y : ℕ) → low ≤ x → low ≤ y → x - low ≡ y - low → x ≡ y
back low x y h k e = omega arith

-- Equal numbers are equal squares.
number_tells : (t u : Text) → square_there t ≡ true → square_there u ≡ true → number_of_square t ≡ number_of_square u → t ≡ u
unfolding number_of_square
number_tells t u h k e =
    let p = square_codes t h in
    let q = square_codes u k in
    let z =
    digits_tell (get_or t 0 0 - 65) (get_or t 1 0 - 65) (get_or t 2 0 - 48) (get_or t 3 0 - 48) (get_or u 0 0 - 65) (get_or u 1 0 - 65) (get_or u 2 0 - 48) (get_or u 3 0 - 48)
    (above 65 82 (get_or t 1 0) p.b_high) (above 65 82 (get_or u 1 0) q.b_high)
    (above 48 57 (get_or t 2 0) p.c_high) (above 48 57 (get_or u 2 0) q.c_high)
    (above 48 57 (get_or t 3 0) p.d_high) (above 48 57 (get_or u 3 0) q.d_high) e in
    let ea = back 65 (get_or t 0 0) (get_or u 0 0) p.a_low q.a_low z.0 in
    let eb = back 65 (get_or t 1 0) (get_or u 1 0) p.b_low q.b_low z.1 in
    let ec = back 48 (get_or t 2 0) (get_or u 2 0) p.c_low q.c_low z.2 in
    let ed = back 48 (get_or t 3 0) (get_or u 3 0) p.d_low q.d_low z.3 in
    four t h ∙ (λ i. ea i ∷ eb i ∷ ec i ∷ ed i ∷ []) ∙ sym (four u k)

pub same_number : (t u : Text) → T (square_there t) → T (square_there u) → eqb (number_of_square t) (number_of_square u) ≡ same t u
same_number t u h k =
    equal_tests (eqb (number_of_square t) (number_of_square u)) (same t u)
    (λ e. equal→same t u (number_tells t u (so (square_there t) h) (so (square_there u) k) (eqb-true (number_of_square t) (number_of_square u) (so (eqb (number_of_square t) (number_of_square u)) e))))
    (λ e. holds (eq-eqb (number_of_square t) (number_of_square u) (ap number_of_square (same→equal t u e))))

-- # The square of a locator

pub square_stands : (t : Text) → empty_or locator t ≡ true → T (not (empty t)) → (4 ≤ length t) × (square_there (take 4 t) ≡ true)
unfolding empty_or locator square_there
square_stands (a ∷ []) h n = never h
square_stands (a ∷ b ∷ []) h n = never h
square_stands (a ∷ b ∷ c ∷ []) h n = never h
square_stands (a ∷ b ∷ c ∷ d ∷ t) h n =
    let size = eqb (length (a ∷ b ∷ c ∷ d ∷ t)) 4 || eqb (length (a ∷ b ∷ c ∷ d ∷ t)) 6 in
    let first = all square_letter (a ∷ b ∷ []) in
    let second = all digit (c ∷ d ∷ []) in
    let three = and_l (size && first && second) (all sub_letter t) h in
    let l = and_r size first (and_l (size && first) second three) in
    let m = and_r (size && first) second three in
    (omega arith, rw (l, m))
square_stands [] h n = elim n [ ]

-- # The search

module _ (list : List ℕ) (number : ℕ) where
  has_none : (m : ℕ) → ((j : ℕ) → j < m → get_or list j 0 ≡ number → ⊥) → has_number (kept_numbers list m) number ≡ false
  unfolding has_number kept_numbers
  has_none zero f = refl
  has_none (suc m) f =
      rw (ne_eqb (get_or list m 0) number (f m (omega arith)), has_none m (λ j h. f j (omega arith)))

  has_one : (m k : ℕ) → k < m → get_or list k 0 ≡ number → has_number (kept_numbers list m) number ≡ true
  unfolding has_number kept_numbers
  has_one zero k h e = absurd (omega arith)
  has_one (suc m) k h e = by (eqb k m) refl (λ l. has_one m k l e)
    where
      or_true : (b : Bool) → (b || true) ≡ true
      or_true true = refl
      or_true false = refl

      by : (b : Bool) → eqb k m ≡ b → (k < m → has_number (kept_numbers list m) number ≡ true) → (eqb (get_or list m 0) number || has_number (kept_numbers list m) number) ≡ true
      by true p f = rw (eq-eqb (get_or list m 0) number (ap (λ (x : ℕ). get_or list x 0) (sym (eqb-true k m p)) ∙ e))
      by false p f = let d = eqb-false k m p in rw (f (omega arith)) (or_true (eqb (get_or list m 0) number))

  -- The number stands behind those that are kept: it is found there first exactly where it is not among them.
  pub found_last : (m r : ℕ) → First list 0 number r → get_or list m 0 ≡ number → eqb r m ≡ not (has_number (kept_numbers list m) number)
  found_last m r f e = by (eqb r m) refl
    where
      by : (b : Bool) → eqb r m ≡ b → b ≡ not (has_number (kept_numbers list m) number)
      by true p =
          let z : r ≡ m = eqb-true r m p in
          sym (ap not (has_none m (λ j h. f.none j (omega arith) (omega arith))))
      by false p =
          let d = eqb-false r m p in
          let l : m < r → ⊥ = λ h. f.none m (omega arith) h e in
          sym (ap not (has_one m r (under l d) f.stands))
        where
          under : (m < r → ⊥) → (r ≡ m → ⊥) → r < m
          under l d = omega arith

numbers_below : (list : List ℕ) (m x n : ℕ) → n ≤ m → kept_numbers (set list m x) n ≡ kept_numbers list n
unfolding kept_numbers
numbers_below list m x zero h = refl
numbers_below list m x (suc n) h =
    let d : n ≡ m → ⊥ = omega arith in
    rw (get_or-set_other list m n x 0 d, numbers_below list m x n (omega arith))

pub numbers_kept : (list : List ℕ) (m x : ℕ) → kept_numbers (set list m x) m ≡ kept_numbers list m
numbers_kept list m x = numbers_below list m x m (omega arith)

pub numbers_more : (list : List ℕ) (m x : ℕ) → m < length list → kept_numbers (set list m x) (suc m) ≡ x ∷ kept_numbers list m
unfolding kept_numbers
numbers_more list m x h = rw (get_or-set_same list m x 0 h, numbers_kept list m x)

-- # The square at a place

pub record SquareAt (s : Text) (a : ℕ) : Type 0 where
  pub within : a + 4 ≤ length s
  pub codes : Codes (get_or s a 0) (get_or s (a + 1) 0) (get_or s (a + 2) 0) (get_or s (a + 3) 0)
  pub number : (((get_or s a 0 - 65) * 18 + (get_or s (a + 1) 0 - 65)) * 10 + (get_or s (a + 2) 0 - 48)) * 10 + (get_or s (a + 3) 0 - 48) + 1 ≡ number_of_square (take 4 (drop a s))

pub square_at : (s : Text) (a : ℕ) → square_there (take 4 (drop a s)) ≡ true → SquareAt s a
unfolding number_of_square
square_at s a h =
    let t = take 4 (drop a s) in
    let at : (i : ℕ) → i < 4 → get_or t i 0 ≡ get_or s (a + i) 0 = λ i k. get_or-take 4 (drop a s) i 0 k ∙ get_or-drop a s i 0 in
    let first : get_or t 0 0 ≡ get_or s a 0 = at 0 (omega arith) ∙ ap (λ (n : ℕ). get_or s n 0) (add-zero a) in
    let p = square_codes t h in
    let n : length t ≡ 4 = ap length (four t h) in
    let codes : Codes (get_or s a 0) (get_or s (a + 1) 0) (get_or s (a + 2) 0) (get_or s (a + 3) 0) = rw (← first, ← at 1 (omega arith), ← at 2 (omega arith), ← at 3 (omega arith)) p in
    record {
      within = omega (arith, length-take 4 (drop a s), length-drop a s);
      codes = codes;
      number = sym (λ i. (((first i - 65) * 18 + (at 1 (omega arith) i - 65)) * 10 + (at 2 (omega arith) i - 48)) * 10 + (at 3 (omega arith) i - 48) + 1);
    }

-- The square of a locator that is not empty.
pub locator_square : (s : Text) (a e : ℕ) → a ≤ e → e ≤ length s → (a ≡ e → ⊥) → empty_or locator (between s a e) ≡ true → (take 4 (drop a s) ≡ take 4 (between s a e)) × (square_there (take 4 (drop a s)) ≡ true)
locator_square s a e h k n r =
    let size = part_size s a e h k in
    let stands = square_stands (between s a e) r (not_empty (between s a e) (omega (arith, n))) in
    let cut : take 4 (between s a e) ≡ take 4 (drop a s) = take-take 4 (e - a) (drop a s) (omega (arith, stands.0)) in
    (sym cut, sym (ap square_there cut) ∙ stands.1)
  where
    not_empty : (t : Text) → 0 < length t → T (not (empty t))
    not_empty [] l = absurd (omega arith)
    not_empty (c ∷ t) l = tt

-- # A square that is looked for

pub no_square : (squares : List ℕ) (m : ℕ) (s : Text) (a e : ℕ) → a ≡ e → NewSquare squares m (take 4 (between s a e)) false squares
unfolding unseen_square
no_square squares m s a e h =
    let none : e - a ≡ 0 = omega arith in
    let all : 0 + m ≡ m = omega arith in
    record { is_new = rw none; numbers = ap (kept_numbers squares) all; size = refl }

new_of : (kept : List ℕ) (v : Text) → square_there v ≡ true → not (has_number kept (number_of_square v)) ≡ unseen_square kept v
unfolding unseen_square square_there
new_of kept [] k = never k
new_of kept (c ∷ v) k = refl

pub square_looked : (squares : List ℕ) (m : ℕ) (t u : Text) {x r : ℕ} → m < length squares → x ≡ number_of_square u → u ≡ t → square_there u ≡ true → First (set squares m x) 0 x r → NewSquare squares m t (eqb r m) (set squares m x)
square_looked squares m t u {x} {r} h e f there first =
    record {
      is_new =
          found_last (set squares m x) x m r first (get_or-set_same squares m x 0 h)
          ∙ (λ i. not (has_number (numbers_kept squares m x i) (is_number i)))
          ∙ there_new t (ap square_there (sym f) ∙ there);
      numbers = by (eqb r m);
      size = length-set squares m x;
    }
  where
    is_number : x ≡ number_of_square t
    is_number = e ∙ ap number_of_square f

    there_new : (v : Text) → square_there v ≡ true → not (has_number (kept_numbers squares m) (number_of_square v)) ≡ unseen_square (kept_numbers squares m) v
    there_new v k = new_of (kept_numbers squares m) v k

    by : (b : Bool) → kept_numbers (set squares m x) (worth_if b 1 + m) ≡ kept_with b (number_of_square t) (kept_numbers squares m)
    by true =
        let n : 1 + m ≡ suc m = omega arith in
        ap (kept_numbers (set squares m x)) n ∙ numbers_more squares m x h ∙ ap (λ (y : ℕ). y ∷ kept_numbers squares m) is_number
    by false =
        let n : 0 + m ≡ m = omega arith in
        ap (kept_numbers (set squares m x)) n ∙ numbers_kept squares m x
