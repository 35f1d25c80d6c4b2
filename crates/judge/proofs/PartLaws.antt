-- Laws of parts of a log that are kept by their places, of their keys, and of the search among them.
-- Assumes nothing.
use Prim.Native.Nat.{ℕ, zero, suc, ◌+◌, ◌-◌, ◌*◌, ◌/◌, ◌%◌, ◌≤◌, ◌<◌}
use native.Mathlib.Omega.{arith}
use native.Mathlib.Nat.{add-zero, zero-add}
use mathlib.Core.Path.{◌≡◌, refl, sym, ap, ◌∙◌}
use mathlib.Core.Bool.{Bool, true, false, cond, ◌||◌, or-false, or_assoc, or_comm}
use mathlib.Core.List.{List, ◌∷◌}
use lib.Dec.{leb, eqb}
use lib.ListN.{length-set, length, take, drop, get_or, set, length-take, length-drop}
use lib.Seq.{get_or-take, get_or-drop, get_or-set_same, get_or-set_other}
use borrow.Author.Tests.{eqb-true, eqb-false, leb-true, leb-false}
use Rattle.std.specs.Prelude.{Option, None, Some, is_some}
use Rattle.rules.specs.Text.{Text, same}
use Rattle.rules.specs.Arguments.{among}
use Rattle.rules.specs.Fields.{error_call}
use Rattle.rules.proofs.Tests.{fails, holds}
use Rattle.rules.proofs.Passing.{same→equal}
use Rattle.rules.proofs.TextLaws.{same_apart}
use Rattle.fields.specs.Field.{in_field, end_of}
use Rattle.fields.proofs.FieldLaws.{Within}
use Rattle.fields.proofs.PartLaws.{end_by_span}
use Rattle.reader.specs.Contact.{between}
use Rattle.judge.specs.Parts.{key_of, part_by, kept_at, seek, kept_texts, Ahead, First, Keyed, Lying}

-- # Keys

-- A part that lies within the text.
module _ (s : Text) (a e : ℕ) (h : a ≤ e) (k : e ≤ length s) where
  pub part_size : length (between s a e) ≡ e - a
  part_size = rw (length-take, length-drop) (omega arith)

  -- The character at an index of it.
  pub part_at : (i : ℕ) → a + i < e → get_or (between s a e) i 0 ≡ get_or s (a + i) 0
  part_at i g = get_or-take (e - a) (drop a s) i 0 (omega arith) ∙ get_or-drop a s i 0

  -- Its key, by the characters at two places: the last, and the last but one, if there is one.
  pub key_told : (n x y : ℕ) {key : ℕ} → a < e → e - a ≡ n → a + (n - 1) ≡ x → a + (n - 2) ≡ y → key ≡ n * 4096 + get_or s x 0 % 64 * 64 + get_or s y 0 % 64 → key ≡ key_of (between s a e)
  unfolding key_of
  key_told n x y l m p q z = rw (part_size, part_at (e - a - 1) (omega arith), part_at (e - a - 2) (omega arith), m, p, q) z

  -- Only a part of five characters is the call that marks a mistake.
  pub error_short : (e - a ≡ 5 → ⊥) → false ≡ same (between s a e) error_call
  unfolding error_call
  error_short n = same_apart (between s a e) error_call (λ z. n (sym part_size ∙ z))

  module _ {key : ℕ} (z : key ≡ key_of (between s a e)) where
    -- A key begins with the length.
    key_size : key / 4096 ≡ e - a
    unfolding key_of
    key_size = omega (arith, part_size)

    pub part_by_lem : part_by s a key ≡ between s a e
    part_by_lem = ap (λ (m : ℕ). take m (drop a s)) key_size

    pub part_keyed : Keyed s a key
    part_keyed = record { within = omega (arith, key_size); own = z ∙ ap key_of (sym part_by_lem) }

-- A run goes on within a field that ends within the text.
pub run_inside : (s : Text) (at i : ℕ) → end_of s at < length s → Within in_field s at i → i < length s
run_inside s at i h w = omega (arith, w.ending, end_by_span s at)

-- Parts with different keys differ; of two with the same key the one is as long as the other.
pub keys_differ : (s : Text) (a b : ℕ) {key sought : ℕ} → Keyed s b key → Keyed s a sought → (key ≡ sought → ⊥) → same (part_by s b key) (part_by s a sought) ≡ false
keys_differ s a b {key} {sought} k q d =
    fails (same (part_by s b key) (part_by s a sought)) (λ t. d (k.own ∙ ap key_of (same→equal (part_by s b key) (part_by s a sought) (holds t)) ∙ sym q.own))

-- # The search

module _ (s : Text) (places keys : List ℕ) (t : Text) where
  pub seek_all : (m : ℕ) → seek s places keys t m 0 ≡ seek s places keys t (m - 0) 0
  seek_all m = let z : m - 0 ≡ m = omega arith in rw z

  pub seek_none : (m i : ℕ) → m ≤ i → None ≡ seek s places keys t (m - i) i
  unfolding seek
  seek_none m i h = let z : m - i ≡ 0 = omega arith in rw z

  pub seek_here : (m i : ℕ) → i < m → same (kept_at s places keys i) t ≡ true → seek s places keys t (m - i) i ≡ Some i
  unfolding seek
  seek_here m i h e = let z : m - i ≡ suc (m - (i + 1)) = omega arith in rw (z, seek, e)

  pub seek_later : (m i : ℕ) →
      i < m → same (kept_at s places keys i) t ≡ false → seek s places keys t (m - i) i ≡ seek s places keys t (m - (i + 1)) (i + 1)
  unfolding seek
  seek_later m i h e = let z : m - i ≡ suc (m - (i + 1)) = omega arith in rw (z, seek, e)

  -- What is looked for is found where it is among the texts that are kept.
  found_or : (b : Bool) (i : ℕ) (f : Option ℕ) → is_some (cond b (Some i) f) ≡ (b || is_some f)
  found_or true i f = refl
  found_or false i f = refl

  seek_last : (n i : ℕ) →
      is_some (seek s places keys t (suc n) i) ≡ (is_some (seek s places keys t n i) || same (kept_at s places keys (i + n)) t)
  unfolding seek
  seek_last zero i =
      found_or (same (kept_at s places keys i) t) i None
      ∙ or-false (same (kept_at s places keys i) t)
      ∙ ap (λ (k : ℕ). same (kept_at s places keys k) t) (sym (add-zero i))
  seek_last (suc n) i =
      let here = same (kept_at s places keys i) t in
      let k : i + 1 + n ≡ i + suc n = omega arith in
      found_or here i (seek s places keys t (suc n) (i + 1))
      ∙ ap (λ (b : Bool). here || b) (seek_last n (i + 1))
      ∙ sym (or_assoc here (is_some (seek s places keys t n (i + 1))) (same (kept_at s places keys (i + 1 + n)) t))
      ∙ ap (λ (b : Bool). b || same (kept_at s places keys (i + 1 + n)) t) (sym (found_or here i (seek s places keys t n (i + 1))))
      ∙ ap (λ (j : ℕ). is_some (seek s places keys t (suc n) i) || same (kept_at s places keys j) t) k

  pub seek_among : (m : ℕ) → is_some (seek s places keys t m 0) ≡ among (kept_texts s places keys m) t
  unfolding seek kept_texts among
  seek_among zero = refl
  seek_among (suc m) =
      seek_last m 0
      ∙ ap (λ (j : ℕ). is_some (seek s places keys t m 0) || same (kept_at s places keys j) t) (zero-add m)
      ∙ or_comm (is_some (seek s places keys t m 0)) (same (kept_at s places keys m) t)
      ∙ ap (λ (b : Bool). same (kept_at s places keys m) t || b) (seek_among m)

  -- Indexes at which another key stands are passed over.
  pub seek_over : (a m : ℕ) (i j : ℕ) → Lying s places keys m → Keyed s a (get_or keys m 0) → t ≡ part_by s a (get_or keys m 0) → i ≤ j → j ≤ m → ((x : ℕ) → i ≤ x → x < j → get_or keys x 0 ≡ get_or keys m 0 → ⊥) → seek s places keys t (m - i) i ≡ seek s places keys t (m - j) j
  seek_over a m i j l q e h k none = by (j - i) i (omega arith) none
    where
      by : (d i : ℕ) → i + d ≡ j → ((x : ℕ) → i ≤ x → x < j → get_or keys x 0 ≡ get_or keys m 0 → ⊥) → seek s places keys t (m - i) i ≡ seek s places keys t (m - j) j
      by zero i g f = let z : i ≡ j = omega arith in ap (λ (x : ℕ). seek s places keys t (m - x) x) z
      by (suc d) i g f =
          let unlike = f i (omega arith) (omega arith) in
          seek_later m i (omega arith) (ap (same (kept_at s places keys i)) e ∙ keys_differ s a (get_or places i 0) (l.inside i (omega arith)) q unlike)
          ∙ by d (i + 1) (omega arith) (λ x p o. f x (omega arith) o)

-- The key of a text stands behind those that are kept, so that it is found there at the latest.
pub first_most : (keys : List ℕ) (m : ℕ) {from r : ℕ} → First keys from (get_or keys m 0) r → from ≤ m → r ≤ m
first_most keys m {from} {r} f h = by (leb r m) refl
  where
    by : (b : Bool) → leb r m ≡ b → r ≤ m
    by true e = leb-true r m e
    by false e = absurd (f.none m h (leb-false r m e) refl)

-- Two parts with one key, compared by their places.
pub compared : (s : Text) (places keys : List ℕ) (a m i : ℕ) {n w : ℕ} {r b : Bool} →
    n ≡ get_or keys m 0 / 4096 → w ≡ get_or places i 0 → get_or keys i 0 ≡ get_or keys m 0 → r ≡ same (take n (drop w s)) (take n (drop a s)) → r ≡ b → same (kept_at s places keys i) (part_by s a (get_or keys m 0)) ≡ b
compared s places keys a m i e f k p q =
    (λ j. same (take (k j / 4096) (drop (get_or places i 0) s)) (part_by s a (get_or keys m 0)))
    ∙ sym (λ j. same (take (e j) (drop (f j) s)) (take (e j) (drop a s)))
    ∙ sym p
    ∙ q

-- # The first index of a key

module _ (keys : List ℕ) (key k : ℕ) where
  pub ahead_more : Ahead keys k key → (get_or keys k 0 ≡ key → ⊥) → Ahead keys (k + 1) key
  ahead_more h n =
      record { there = h.there; behind = by (eqb k h.there) refl; within = h.within; stands = h.stands }
    where
      by : (b : Bool) → eqb k h.there ≡ b → k + 1 ≤ h.there
      by true e = absurd (n (ap (λ (x : ℕ). get_or keys x 0) (eqb-true k h.there e) ∙ h.stands))
      by false e = let d = eqb-false k h.there e in omega (arith, h.behind)

  pub none_more : (from : ℕ) → ((j : ℕ) → from ≤ j → j < k → get_or keys j 0 ≡ key → ⊥) → (get_or keys k 0 ≡ key → ⊥) → (j : ℕ) → from ≤ j → j < k + 1 → get_or keys j 0 ≡ key → ⊥
  none_more from f n j h l e = by (eqb j k) refl
    where
      by : (b : Bool) → eqb j k ≡ b → ⊥
      by true q = n (sym (ap (λ (x : ℕ). get_or keys x 0) (eqb-true j k q)) ∙ e)
      by false q = let d = eqb-false j k q in f j h (omega arith) e

-- # One part more

-- What is written behind the first so many keys or places leaves the parts as they are.
module _ (s : Text) (places keys : List ℕ) (m : ℕ) where
  pub texts_key : (key n : ℕ) → n ≤ m → kept_texts s places (set keys m key) n ≡ kept_texts s places keys n
  unfolding kept_texts
  texts_key key zero h = refl
  texts_key key (suc n) h =
      let d : n ≡ m → ⊥ = omega arith in
      rw (get_or-set_other keys m n key 0 d, texts_key key n (omega arith))

  texts_place : (a n : ℕ) → n ≤ m → kept_texts s (set places m a) keys n ≡ kept_texts s places keys n
  unfolding kept_texts
  texts_place a zero h = refl
  texts_place a (suc n) h =
      let d : n ≡ m → ⊥ = omega arith in
      rw (get_or-set_other places m n a 0 d, texts_place a n (omega arith))

  module _ (l : Lying s places keys m) where
    pub lying_key : (key : ℕ) → Lying s places (set keys m key) m
    lying_key key =
        record {
          many_places = l.many_places;
          many_keys = rw length-set l.many_keys;
          inside = λ i g. let d : i ≡ m → ⊥ = omega arith in rw (get_or-set_other keys m i key 0 d) (l.inside i g);
        }

    -- The part whose key stands behind the others is kept.
    module _ (a : ℕ) (h : m < length places) where
      pub texts_more : kept_texts s (set places m a) keys (suc m) ≡ part_by s a (get_or keys m 0) ∷ kept_texts s places keys m
      unfolding kept_texts
      texts_more = rw (get_or-set_same places m a 0 h, texts_place a m (omega arith))

      pub lying_more : Keyed s a (get_or keys m 0) → suc m < length keys → Lying s (set places m a) keys (suc m)
      lying_more q k = record { many_places = rw length-set (omega arith); many_keys = k; inside = λ i g. by i g (eqb i m) refl }
        where
          by : (i : ℕ) → i < suc m → (b : Bool) → eqb i m ≡ b → Keyed s (get_or (set places m a) i 0) (get_or keys i 0)
          by i g true d = rw (eqb-true i m d, get_or-set_same places m a 0 h) q
          by i g false d =
              let n : i ≡ m → ⊥ = eqb-false i m d in
              rw (get_or-set_other places m i a 0 n) (l.inside i (omega arith))
