-- Laws of the look-back: of the first number that passes a test, turn by turn, of a text that stands at a place, and of records by four of their bytes.
-- Assumes nothing.
use Prim.Native.Nat.{ℕ, zero, suc, ◌+◌, ◌-◌, ◌*◌, ◌≤◌, ◌<◌}
use native.Mathlib.Omega.{arith}
use native.Mathlib.Nat.{mul-le-mul_left, mul-le-mul_right, add-mul}
use mathlib.Core.Path.{◌≡◌, refl, sym, ap, ◌∙◌}
use mathlib.Core.Bool.{Bool, true, false, ◌||◌}
use mathlib.Core.List.{List}
use lib.Dec.{eqb, ltb}
use lib.ListN.{length, take, drop, get_or}
use lib.Seq.{get_or-take, get_or-drop}
use borrow.Author.Tests.{eqb-false, eq-eqb, ne_eqb, lt-ltb, le-ltb}
use Rattle.rules.specs.Text.{Text, same}
use Rattle.rules.proofs.Tests.{fails}
use Rattle.rules.proofs.TextLaws.{same_eq}
use Rattle.session.specs.Entry.{first_from, stands_at, held_in, four_at}

-- Some number from one on, of so many, passes a test.
unfoldable pub any_from : (ℕ → Bool) → ℕ → ℕ → Bool
any_from f zero i = false
any_from f (suc n) i = f i || any_from f n (i + 1)

module _ (f : ℕ → Bool) where
  pub first_none : (i : ℕ) → first_from f 0 i ≡ i
  unfolding first_from
  first_none i = refl

  pub first_here : (n i : ℕ) → f i ≡ true → first_from f (suc n) i ≡ i
  unfolding first_from
  first_here n i e = rw e

  pub first_later : (n i : ℕ) → f i ≡ false → first_from f (suc n) i ≡ first_from f n (i + 1)
  unfolding first_from
  first_later n i e = rw e

  -- # As a loop goes, which is at k

  pub first_over : (n k : ℕ) → n ≤ k → first_from f (n - k) k ≡ k
  first_over n k h = let z : n - k ≡ 0 = omega arith in ap (λ (m : ℕ). first_from f m k) z ∙ first_none k

  pub first_found : (n k : ℕ) → k < n → f k ≡ true → first_from f (n - k) k ≡ k
  first_found n k h e =
      let z : n - k ≡ suc (n - (k + 1)) = omega arith in
      ap (λ (m : ℕ). first_from f m k) z ∙ first_here (n - (k + 1)) k e

  pub first_turn : (n k : ℕ) → k < n → f k ≡ false → first_from f (n - k) k ≡ first_from f (n - (k + 1)) (k + 1)
  first_turn n k h e =
      let z : n - k ≡ suc (n - (k + 1)) = omega arith in
      ap (λ (m : ℕ). first_from f m k) z ∙ first_later (n - (k + 1)) k e

  -- # Where it lies

  pub first_from_lem : (n k : ℕ) → k ≤ first_from f n k
  first_from_lem zero k = omega (arith, first_none k)
  first_from_lem (suc n) k = by (f k) refl (first_from_lem n (k + 1))
    where
      by : (b : Bool) → f k ≡ b → k + 1 ≤ first_from f n (k + 1) → k ≤ first_from f (suc n) k
      by true e h = omega (arith, first_here n k e)
      by false e h = omega (arith, first_later n k e)

  first_most : (n k : ℕ) → first_from f n k ≤ k + n
  first_most zero k = omega (arith, first_none k)
  first_most (suc n) k = by (f k) refl (first_most n (k + 1))
    where
      by : (b : Bool) → f k ≡ b → first_from f n (k + 1) ≤ k + 1 + n → first_from f (suc n) k ≤ k + suc n
      by true e h = omega (arith, first_here n k e)
      by false e h = omega (arith, first_later n k e)

  pub first_within : (n k : ℕ) → k ≤ n → first_from f (n - k) k ≤ n
  first_within n k h = omega (arith, first_most (n - k) k)

  -- What is found passes the test.
  passes : (n k : ℕ) → first_from f n k < k + n → f (first_from f n k) ≡ true
  passes zero k h = absurd (omega (arith, first_none k))
  passes (suc n) k h = by (f k) refl (passes n (k + 1))
    where
      by : (b : Bool) → f k ≡ b → (first_from f n (k + 1) < k + 1 + n → f (first_from f n (k + 1)) ≡ true) → f (first_from f (suc n) k) ≡ true
      by true e g = ap f (first_here n k e) ∙ e
      by false e g = ap f (first_later n k e) ∙ g (omega (arith, first_later n k e))

  pub first_passes : (n k : ℕ) → k ≤ n → first_from f (n - k) k < n → f (first_from f (n - k) k) ≡ true
  first_passes n k h l = passes (n - k) k (omega arith)

  -- # Something is found exactly where some number passes the test

  look_from : (n i : ℕ) → ltb (first_from f n i) (i + n) ≡ any_from f n i
  unfolding any_from
  look_from zero i = le-ltb (first_from f 0 i) (i + 0) (omega (arith, first_none i))
  look_from (suc n) i = by (f i) refl (look_from n (i + 1))
    where
      by : (b : Bool) → f i ≡ b → ltb (first_from f n (i + 1)) (i + 1 + n) ≡ any_from f n (i + 1) → ltb (first_from f (suc n) i) (i + suc n) ≡ (b || any_from f n (i + 1))
      by true e h = lt-ltb (first_from f (suc n) i) (i + suc n) (omega (arith, first_here n i e))
      by false e h = let z : i + suc n ≡ i + 1 + n = omega arith in rw (first_later n i e, z) h

  pub look_by : (n : ℕ) → ltb (first_from f n 0) n ≡ any_from f n 0
  look_by n = let z : 0 + n ≡ n = omega arith in rw z at (look_from n 0)

-- Where a weaker test fails the stronger fails, so the search for it goes on from the first that passes the weaker.
module _ (f g : ℕ → Bool) (weaker : (i : ℕ) → g i ≡ false → f i ≡ false) where
  pub first_skips : (n k : ℕ) → k ≤ n → first_from f (n - k) k ≡ first_from f (n - first_from g (n - k) k) (first_from g (n - k) k)
  first_skips n k h = by (n - k) k (omega arith)
    where
      here : (d k x : ℕ) → k + d ≡ n → x ≡ k → first_from f d k ≡ first_from f (n - x) x
      here d k x e z = let y : d ≡ n - x = omega arith in λ i. first_from f (y i) (sym z i)

      by : (d k : ℕ) → k + d ≡ n → first_from f d k ≡ first_from f (n - first_from g d k) (first_from g d k)
      by zero k e = here 0 k (first_from g 0 k) e (first_none g k)
      by (suc d) k e = turn (g k) refl (by d (k + 1) (omega arith))
        where
          turn : (b : Bool) → g k ≡ b → first_from f d (k + 1) ≡ first_from f (n - first_from g d (k + 1)) (first_from g d (k + 1)) → first_from f (suc d) k ≡ first_from f (n - first_from g (suc d) k) (first_from g (suc d) k)
          turn true z m = here (suc d) k (first_from g (suc d) k) e (first_here g d k z)
          turn false z m = rw (first_later g d k z) (first_later f d k (weaker k z) ∙ m)

-- A part that is the text has its bytes.
byte_same : (kept : List ℕ) (width at : ℕ) (t : Text) (i m : ℕ) → stands_at kept width at t i ≡ true → at ≤ m → m < at + length t → get_or kept (i * width + m) 0 ≡ get_or t (m - at) 0
byte_same kept width at t i m e h k =
    let there : i * width + at + (m - at) ≡ i * width + m = omega arith in
    ap (λ (x : ℕ). get_or kept x 0) (sym there)
    ∙ sym (get_or-drop (i * width + at) kept (m - at) 0)
    ∙ sym (get_or-take (length t) (drop (i * width + at) kept) (m - at) 0 (omega arith))
    ∙ ap (λ (l : Text). get_or l (m - at) 0) (same_eq (take (length t) (drop (i * width + at) kept)) t e)

-- One whose four bytes at a place differ is not the text that is looked for.
pub four_differs : (kept : List ℕ) (width at mark : ℕ) (t : Text) (i : ℕ) → at ≤ mark → mark + 3 < at + length t → eqb (four_at kept (i * width + mark)) (four_at t (mark - at)) ≡ false → stands_at kept width at t i ≡ false
unfolding four_at
four_differs kept width at mark t i h k d =
    fails (stands_at kept width at t i)
    (λ e.
    let byte : (j : ℕ) → j ≤ 3 → get_or kept (i * width + mark + j) 0 ≡ get_or t (mark - at + j) 0 =
    λ j l.
    let here : i * width + mark + j ≡ i * width + (mark + j) = omega arith in
    let there : mark + j - at ≡ mark - at + j = omega arith in
    ap (λ (x : ℕ). get_or kept x 0) here ∙ byte_same kept width at t i (mark + j) e (omega arith) (omega arith) ∙ ap (λ (x : ℕ). get_or t x 0) there in
    let zeroth : get_or kept (i * width + mark) 0 ≡ get_or t (mark - at) 0 = byte_same kept width at t i mark e h (omega arith) in
    eqb-false (four_at kept (i * width + mark)) (four_at t (mark - at)) d
    (λ x. zeroth x + byte 1 (omega arith) x * 256 + byte 2 (omega arith) x * 65536 + byte 3 (omega arith) x * 16777216))

-- # Records of so many bytes each, one behind the other

-- A part of one of n records lies within what is kept of them.
pub part_inside : (n k width end long : ℕ) → n * width ≤ long → end ≤ width → k < n → k * width + end ≤ long
part_inside n k width end long h e l =
    let next : k + 1 ≤ n = omega arith in
    omega (arith, mul-le-mul_right width next, add-mul k 1 width)

-- There are no more records than bytes.
pub few_records : (n width long : ℕ) → 0 < width → n * width ≤ long → n ≤ long
few_records n width long w h =
    let one : 1 ≤ width = omega arith in
    omega (arith, mul-le-mul_left n one)

-- The record of this number has the four bytes at the place.
abbrev pub like : List ℕ → ℕ → ℕ → ℕ → ℕ → Bool
like kept width at four i = eqb (four_at kept (i * width + at)) four

-- Those up to this one have others, so the search goes on with it.
abbrev pub Past : List ℕ → ℕ → ℕ → ℕ → ℕ → ℕ → ℕ → Type 0
Past kept width at from n four k = first_from (like kept width at four) (n - from) from ≡ first_from (like kept width at four) (n - k) k

module _ (kept : List ℕ) (width at from n four : ℕ) {k : ℕ} (few : k < n) where
  -- Its four bytes lie within what is kept.
  pub four_inside : n * width ≤ length kept → at + 3 < width → k * width + at + 3 < length kept
  four_inside h l =
      let next : at + 4 ≤ width = omega arith in
      omega (arith, part_inside n k width (at + 4) (length kept) h next few)

  -- It has others too, and the search goes on behind it; or it has those, and is the answer.
  pub past_next : {r next : ℕ} → Past kept width at from n four k → r ≡ four_at kept (k * width + at) → (r ≡ four → ⊥) → next ≡ k + 1 → Past kept width at from n four next
  past_next {r} past e other z =
      past
      ∙ first_turn (like kept width at four) n k few (ap (λ (x : ℕ). eqb x four) (sym e) ∙ ne_eqb r four other)
      ∙ ap (λ (m : ℕ). first_from (like kept width at four) (n - m) m) (sym z)

  pub past_found : {r : ℕ} → Past kept width at from n four k → r ≡ four_at kept (k * width + at) → r ≡ four → k ≡ first_from (like kept width at four) (n - from) from
  past_found {r} past e same =
      sym (past ∙ first_found (like kept width at four) n k few (ap (λ (x : ℕ). eqb x four) (sym e) ∙ eq-eqb r four same))

-- # The search for a part

-- None of the records in front of this one has the part, so the search goes on with it.
module _ (kept : List ℕ) (part : Text) (width n at : ℕ) where
  abbrev pub Onward : ℕ → Type 0
  Onward k = first_from (stands_at kept width at part) n 0 ≡ first_from (stands_at kept width at part) (n - k) k

  pub onward_first : Onward 0
  onward_first = let all : n ≡ n - 0 = omega arith in ap (λ (m : ℕ). first_from (stands_at kept width at part) m 0) all

  -- What the code compares.
  pub part_compared : (k : ℕ) → same (take (k * width + at + length part - (k * width + at)) (drop (k * width + at) kept)) part ≡ stands_at kept width at part k
  part_compared k =
      let here : k * width + at + length part - (k * width + at) ≡ length part = omega arith in
      ap (λ (m : ℕ). same (take m (drop (k * width + at) kept)) part) here

  pub held_told : (found : ℕ) → found ≡ first_from (stands_at kept width at part) n 0 → ltb found n ≡ held_in kept width n at part
  unfolding held_in
  held_told found e = ap (λ (x : ℕ). ltb x n) e

  -- The next record that has four bytes of it lies no further back, and not behind the records, and the search goes on with it.
  module _ (mark : ℕ) {four k r : ℕ} (four_is : four ≡ four_at part mark) (few : k ≤ n) (found : r ≡ first_from (like kept width (at + mark) four) (n - k) k) where
    pub next_forward : k ≤ r
    next_forward = omega (arith, found, first_from_lem (like kept width (at + mark) four) (n - k) k)

    pub next_within : r ≤ n
    next_within = omega (arith, found, first_within (like kept width (at + mark) four) n k few)

    pub next_onward : mark + 3 < length part → Onward k → Onward r
    next_onward high onward =
        let stands = stands_at kept width at part in
        let here : four_at part (at + mark - at) ≡ four =
        let z : at + mark - at ≡ mark = omega arith in
        ap (λ (m : ℕ). four_at part m) z ∙ sym four_is in
        let differs : (i : ℕ) → like kept width (at + mark) four i ≡ false → stands i ≡ false =
        λ i d.
        four_differs kept width at (at + mark) part i (omega arith) (omega arith)
        (ap (λ (x : ℕ). eqb (four_at kept (i * width + (at + mark))) x) here ∙ d) in
        onward
        ∙ first_skips stands (like kept width (at + mark) four) differs n k few
        ∙ ap (λ (x : ℕ). first_from stands (n - x) x) (sym found)
