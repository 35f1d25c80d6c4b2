-- Laws of numbers and the digits that write them: each number is written one way, and read back as itself.
-- Assumes nothing.
use Prim.Native.Nat.{ℕ, zero, suc, ◌+◌, ◌*◌, ◌-◌, ◌/◌, ◌%◌, ◌^◌, ◌≤◌, ◌<◌}
use mathlib.Core.Path.{◌≡◌, refl, sym, ap, ◌∙◌}
use mathlib.Core.Logic.{◌≢◌, ◌⊎◌, inl, inr, ⊎_elim}
use mathlib.Core.Bool.{true, false, not, ◌&&◌, ◌||◌, and-true}
use mathlib.Core.List.{[], ◌∷◌, ◌++◌, append_assoc, append-nil}
use lib.Dec.{leb, ltb, eqb, lit<}
use lib.ListN.{length, length-append}
use native.Mathlib.Nat.{pow-suc, pow-succ', pow-le-pow_right, le_trans, le_of_eq, lt_of_lt_of_le, mul-le-mul_right, mul_assoc, mul_comm}
use native.Mathlib.Omega.{arith}
use borrow.Author.Tests.{not-true, leb-true, le-leb, leb-false, eq-eqb, ne_eqb}
use Rattle.rules.specs.Text.{Text, bytes, digit, empty, all, same, begins, value_after, value, number, number_of, number_from, digits_within, digits}
use Rattle.rules.proofs.Tests.{never, either, clash, fails, and_l, and_r, and_i, or_cases, or_r}
use Rattle.rules.proofs.TextLaws.{all_append, same_eq}

-- Fewer than ten, or not.
abbrev pub Small : ℕ → Type 0
Small n = (ltb n 10 ≡ true) × (n < 10)

abbrev pub Large : ℕ → Type 0
Large n = (ltb n 10 ≡ false) × (10 ≤ n)

pub size : (n : ℕ) → Small n ⊎ Large n
size n =
    ⊎_elim
    (λ (e : ltb n 10 ≡ true). inl (e, leb-true (suc n) 10 e))
    (λ (e : ltb n 10 ≡ false). let h : 10 < suc n = leb-false (suc n) 10 e in inr (e, omega arith))
    (either (ltb n 10))

-- How many digits are allowed for does not matter, if there are enough.
pub digits_enough : (m k n : ℕ) → n ≤ m → n ≤ k → digits_within m n ≡ digits_within k n
unfolding digits_within
digits_enough zero zero n h g = refl
digits_enough zero (suc k) n h g = let z : n ≡ 0 = omega arith in rw z
digits_enough (suc m) zero n h g = let z : n ≡ 0 = omega arith in rw z
digits_enough (suc m) (suc k) n h g =
    ⊎_elim
    (λ (e : Small n). rw e.0)
    (λ (e : Large n). rw (e.0, digits_enough m k (n / 10) (omega arith) (omega arith)))
    (size n)

-- A number below ten is one digit; any other ends with its last digit.
pub digits_small : (n : ℕ) → n < 10 → digits n ≡ (48 + n) ∷ []
unfolding digits digits_within
digits_small zero h = refl
digits_small (suc n) h =
    let m : suc n % 10 ≡ suc n = omega arith in
    rw (le-leb (suc (suc n)) 10 h, m)

pub digits_large : (n : ℕ) → 10 ≤ n → digits n ≡ digits (n / 10) ++ ((48 + n % 10) ∷ [])
unfolding digits digits_within
digits_large zero h = absurd (omega arith)
digits_large (suc n) h =
    let e : ltb (suc n) 10 ≡ false = fails (ltb (suc n) 10) (λ t. let l : suc n < 10 = leb-true (suc (suc n)) 10 t in omega arith) in
    rw (e, digits_enough n (suc n / 10) (suc n / 10) (omega arith) (omega arith))

-- The value of digits behind others.
pub value_after_append : (n : ℕ) (s t : Text) → value_after n (s ++ t) ≡ value_after (value_after n s) t
unfolding value_after
value_after_append n [] t = refl
value_after_append n (c ∷ s) t = value_after_append (10 * n + (c - 48)) s t

-- What holds of the numbers below ten, and of each other number if it holds of its tenth, holds of every number.
pub by_tenths : (P : ℕ → Type 0) → ((n : ℕ) → n < 10 → P n) → ((n : ℕ) → 10 ≤ n → P (n / 10) → P n) → (n : ℕ) → P n
by_tenths P few many n = go n n (omega arith)
  where
    go : (m n : ℕ) → n ≤ m → P n
    go zero n h = few n (omega arith)
    go (suc m) n h =
        ⊎_elim (λ (e : Small n). few n e.1) (λ (e : Large n). many n e.1 (go m (n / 10) (omega arith))) (size n)

-- The digits of a number have it for their value.
pub value_digits : (n : ℕ) → value (digits n) ≡ n
unfolding value value_after
value_digits =
    by_tenths (λ n. value (digits n) ≡ n)
    (λ n h. rw (digits_small n h) (omega arith))
    (λ n h g. rw (digits_large n h, value_after_append 0 (digits (n / 10)) ((48 + n % 10) ∷ []), g) (omega arith))

-- They are digits.
digit_of : (n : ℕ) → n < 10 → digit (48 + n) ≡ true
digit_of n h = and_i (le-leb 48 (48 + n) (omega arith)) (le-leb (48 + n) 57 (omega arith))

pub digits_all : (n : ℕ) → all digit (digits n) ≡ true
unfolding all
digits_all =
    by_tenths (λ n. all digit (digits n) ≡ true)
    (λ n h. rw (digits_small n h) (and_i (digit_of n h) refl))
    (λ n h g. rw (digits_large n h) (all_append digit (digits (n / 10)) ((48 + n % 10) ∷ []) g (and_i (digit_of (n % 10) (omega arith)) refl)))

-- They begin with another digit than 0, if the number is not 0.
pub record Leads (t : Text) : Type 0 where
  pub first : ℕ
  pub others : Text
  pub are : t ≡ first ∷ others
  pub not_zero : eqb 48 first ≡ false

leads_more : (s t : Text) → Leads s → Leads (s ++ t)
leads_more s t k = record { first = k.first; others = k.others ++ t; are = rw k.are; not_zero = k.not_zero }

pub digits_lead : (n : ℕ) → 1 ≤ n → Leads (digits n)
digits_lead =
    by_tenths (λ n. 1 ≤ n → Leads (digits n))
    (λ n h p. rw (digits_small n h) (record { first = 48 + n; others = []; are = refl; not_zero = ne_eqb 48 (48 + n) (λ e. omega arith) }))
    (λ n h g p. rw (digits_large n h) (leads_more (digits (n / 10)) ((48 + n % 10) ∷ []) (g (omega arith))))

leads_number : (t : Text) → all digit t ≡ true → Leads t → number t ≡ true
unfolding number begins
leads_number t e k =
    let t≡ : t ≡ k.first ∷ k.others = k.are in
    let some : not (empty t) ≡ true = rw t≡ in
    let other : not (begins (bytes "0") t) ≡ true = rw (t≡, k.not_zero) in
    and_i (and_i some e) (or_r (same t (bytes "0")) other)

pub digits_number : (n : ℕ) → number (digits n) ≡ true
unfolding number all same begins digits digits_within
digits_number zero = refl
digits_number (suc n) = leads_number (digits (suc n)) (digits_all (suc n)) (digits_lead (suc n) (omega arith))

-- A number of fewer than so many digits' value has no more digits.
pub digits_length : (k n : ℕ) → n < 10 ^ suc k → length (digits n) ≤ suc k
digits_length k n = go k n
  where
    go : (k n : ℕ) → n < 10 ^ suc k → length (digits n) ≤ suc k
    go zero n h = let l : n < 10 = omega arith in rw (digits_small n l) (omega arith)
    go (suc k) n h =
        ⊎_elim
        (λ (e : Small n). rw (digits_small n e.1) (omega arith))
        (λ (e : Large n).
        let tenth : n / 10 < 10 ^ suc k = omega (arith, pow-suc 10 (suc k)) in
        rw (digits_large n e.1) (simp length-append (omega (arith, go k (n / 10) tenth))))
        (size n)

-- The digits of the value of a number are that number.
digits_step : (v c : ℕ) → 1 ≤ v → digit c ≡ true → digits (10 * v + (c - 48)) ≡ digits v ++ (c ∷ [])
digits_step v c h e =
    let low : 48 ≤ c = leb-true 48 c (and_l (leb 48 c) (leb c 57) e) in
    let high : c ≤ 57 = leb-true c 57 (and_r (leb 48 c) (leb c 57) e) in
    let tenth : (10 * v + (c - 48)) / 10 ≡ v = omega arith in
    let last : 48 + (10 * v + (c - 48)) % 10 ≡ c = omega arith in
    rw (digits_large (10 * v + (c - 48)) (omega arith), tenth, last)

digits_after : (v : ℕ) (s : Text) → 1 ≤ v → all digit s ≡ true → digits (value_after v s) ≡ digits v ++ s
unfolding value_after all
digits_after v [] h e = sym (append-nil (digits v))
digits_after v (c ∷ s) h e =
    let d : digit c ≡ true = and_l (digit c) (all digit s) e in
    digits_after (10 * v + (c - 48)) s (omega arith) (and_r (digit c) (all digit s) e) ∙ rw (digits_step v c h d, append_assoc)

pub digits_value : (t : Text) → number t ≡ true → digits (value t) ≡ t
unfolding number value value_after all begins digits digits_within
digits_value [] e = never e
digits_value (c ∷ s) e =
    let q = all digit (c ∷ s) in
    let a = same (c ∷ s) (bytes "0") in
    let b = not (begins (bytes "0") (c ∷ s)) in
    ⊎_elim
    (λ (z : a ≡ true). let is : c ∷ s ≡ bytes "0" = same_eq (c ∷ s) (bytes "0") z in ap (λ (t : Text). digits (value t)) is ∙ sym is)
    (λ (z : b ≡ true). leading (and_l q (a || b) e) (sym (and-true (eqb 48 c)) ∙ not-true (eqb 48 c && true) z))
    (or_cases a b (and_r q (a || b) e))
  where
    leading : all digit (c ∷ s) ≡ true → eqb 48 c ≡ false → digits (value (c ∷ s)) ≡ c ∷ s
    leading g z =
        let d : digit c ≡ true = and_l (digit c) (all digit s) g in
        let low : 48 ≤ c = leb-true 48 c (and_l (leb 48 c) (leb c 57) d) in
        let high : c ≤ 57 = leb-true c 57 (and_r (leb 48 c) (leb c 57) d) in
        let ne : 48 ≢ c = λ q. clash (eq-eqb 48 c q) z in
        let v : 1 ≤ 0 + (c - 48) = omega (arith, ne) in
        let back : 48 + (0 + (c - 48)) ≡ c = omega arith in
        digits_after (0 + (c - 48)) s v (and_r (digit c) (all digit s) g) ∙ rw (digits_small (0 + (c - 48)) (omega arith), back)

-- A smaller number has no more digits.
pub digits_shorter : (n m : ℕ) → m ≤ n → length (digits m) ≤ length (digits n)
digits_shorter =
    by_tenths (λ n. (m : ℕ) → m ≤ n → length (digits m) ≤ length (digits n))
    (λ n h m g. let l : m < 10 = omega arith in rw (digits_small n h, digits_small m l) (omega arith))
    (λ n h more m g.
    ⊎_elim
    (λ (e : Small m). rw (digits_large n h, digits_small m e.1) (simp length-append (omega arith)))
    (λ (e : Large m). rw (digits_large n h, digits_large m e.1) (simp length-append (omega (arith, more (m / 10) (omega arith)))))
    (size m))

-- The digits of a number within bounds keep the rule of such a number; and such a number has room.
pub digits_from_lem : (least most n : ℕ) → least ≤ n → n ≤ most → number_from least most (digits n) ≡ true
unfolding number_from
digits_from_lem least most n h g =
    and_i (and_i (digits_number n) (rw (value_digits n) (le-leb least n h))) (rw (value_digits n) (le-leb n most g))

pub digits_of : (k n : ℕ) → n < 10 ^ suc k → number_of (suc k) (digits n) ≡ true
unfolding number_of
digits_of k n h = and_i (digits_number n) (le-leb (length (digits n)) (suc k) (digits_length k n h))

pub record From (least most : ℕ) (t : Text) : Type 0 where
  pub is_number : number t ≡ true
  pub low : least ≤ value t
  pub high : value t ≤ most

pub number_from_lem : (least most : ℕ) (t : Text) → number_from least most t ≡ true → From least most t
unfolding number_from
number_from_lem least most t e =
    let a = number t in
    let b = leb least (value t) in
    let c = leb (value t) most in
    record {
      is_number = and_l a b (and_l (a && b) c e);
      low = leb-true least (value t) (and_r a b (and_l (a && b) c e));
      high = leb-true (value t) most (and_r (a && b) c e);
    }

pub number_length : (k : ℕ) (t : Text) → number t ≡ true → value t < 10 ^ suc k → length t ≤ suc k
number_length k t e h = rw (digits_value t e) at (digits_length k (value t) h)

-- A number is written with digits alone, and is below ten to the power of their number.
pub number_digits : (t : Text) → number t ≡ true → all digit t ≡ true
unfolding number
number_digits t e =
    let a = not (empty t) in
    let b = same t (bytes "0") || not (begins (bytes "0") t) in
    and_r a (all digit t) (and_l (a && all digit t) b e)

value_after_below : (n : ℕ) (s : Text) → all digit s ≡ true → value_after n s < suc n * 10 ^ length s
unfolding value_after all
value_after_below n [] e = omega arith
value_after_below n (c ∷ s) e =
    let d : digit c ≡ true = and_l (digit c) (all digit s) e in
    let high : c ≤ 57 = leb-true c 57 (and_r (leb 48 c) (leb c 57) d) in
    let step : suc (10 * n + (c - 48)) ≤ 10 * suc n = omega arith in
    let more = value_after_below (10 * n + (c - 48)) s (and_r (digit c) (all digit s) e) in
    let power = 10 ^ length s in
    let tens : 10 * suc n * power ≡ suc n * 10 ^ suc (length s) =
    ap (λ (m : ℕ). m * power) (mul_comm 10 (suc n)) ∙ mul_assoc (suc n) 10 power ∙ ap (λ (m : ℕ). suc n * m) (sym (pow-succ' 10 (length s))) in
    lt_of_lt_of_le more (le_trans (mul-le-mul_right power step) (le_of_eq tens))

pub value_below : (t : Text) → all digit t ≡ true → value t < 10 ^ length t
unfolding value
value_below t e = omega (arith, value_after_below 0 t e)

-- So a number of at most so many digits is below ten to that power.
pub below_power : (n k : ℕ) {v : ℕ} → n ≤ k → v < 10 ^ n → v < 10 ^ k
below_power n k l h = lt_of_lt_of_le h (pow-le-pow_right (lit< tt) l)

pub number_below : (most : ℕ) (t : Text) → number_of most t ≡ true → value t < 10 ^ most
unfolding number_of
number_below most t e =
    let short : length t ≤ most = leb-true (length t) most (and_r (number t) (leb (length t) most) e) in
    below_power (length t) most short (value_below t (number_digits t (and_l (number t) (leb (length t) most) e)))
