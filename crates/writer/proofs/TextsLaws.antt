-- Laws of texts that are put together one behind the other: as they are written and measured, from the last one on, and as a list gives them, from
-- the first one on.
-- Assumes nothing.
use Prim.Native.Nat.{ℕ, zero, suc, ◌+◌, ◌≤◌, ◌<◌}
use native.Mathlib.Decide.{dec_lt}
use native.Mathlib.Nat.{zero-add}
use native.Mathlib.Numerals.{add-one}
use native.Mathlib.Omega.{arith}
use mathlib.Core.List.{List, [], ◌∷◌, ◌++◌, append_assoc, append-nil}
use mathlib.Core.Path.{◌≡◌, refl, sym, ap, ap₂, ◌∙◌}
use lib.ListN.{length, get_or, set, length-append, drop_of_length-le, get_or-append}
use lib.Seq.{get_or_at}
use Rattle.rules.specs.Text.{Text}
use Rattle.writer.specs.Written.{texts, row, start_of, written, Puts}
use Rattle.writer.proofs.WrittenLaws.{written_nothing, written_more, puts_room, puts_then, puts_nothing}

module _ (f : ℕ → Text) where
  pub texts_more : (i : ℕ) → texts f (i + 1) ≡ texts f i ++ f i
  unfolding texts
  texts_more i = rw (add-one i)

  length_more : (n : ℕ) → length (texts f (suc n)) ≡ length (texts f n) + length (f n)
  unfolding texts
  length_more n = length-append (texts f n) (f n)

  -- Each of them is a part of all.
  pub texts_grow : (n i : ℕ) → i < n → length (texts f i) + length (f i) ≤ length (texts f n)
  texts_grow zero i h = absurd (omega arith)
  texts_grow (suc n) i h = by (dec_lt i n) (texts_grow n i)
    where
      by : Dec (i < n) → (i < n → length (texts f i) + length (f i) ≤ length (texts f n)) → length (texts f i) + length (f i) ≤ length (texts f (suc n))
      by (yes k) more = omega (arith, more k, length_more n)
      by (no k) more = let e : i ≡ n = omega arith in rw e (omega (arith, length_more n))

  -- The first of them, and the others behind it.
  pub texts_front : (n : ℕ) → texts f (suc n) ≡ f 0 ++ texts (λ i. f (suc i)) n
  unfolding texts
  texts_front zero = sym (append-nil (f 0))
  texts_front (suc n) =
      ap (λ (t : Text). t ++ f (suc n)) (texts_front n) ∙ append_assoc (f 0) (texts (λ i. f (suc i)) n) (f (suc n))

-- The same texts make the same whole.
pub texts_same : (f g : ℕ → Text) → ((i : ℕ) → f i ≡ g i) → (n : ℕ) → texts f n ≡ texts g n
unfolding texts
texts_same f g e zero = refl
texts_same f g e (suc n) = ap₂ (λ (a b : Text). a ++ b) (texts_same f g e n) (e n)

-- # Written and measured, one after the other

pub nothing_put : (f : ℕ → Text) (d : List ℕ) (place : ℕ) → place ≤ length d → Puts d place (texts f 0) d place
unfolding texts
nothing_put f d place h = puts_nothing refl h

module _ (f : ℕ → Text) {d e : List ℕ} {place at i : ℕ} (p : Puts d place (texts f i) e at) where
  -- Where there is room for all, there is room for the next.
  pub next_room : (n : ℕ) → i < n → place + length (texts f n) ≤ length d → at + length (f i) ≤ length e
  next_room n h room = puts_room p (f i) (omega (arith, texts_grow f n i h))

  pub next_put : {e' : List ℕ} {at' : ℕ} → Puts e at (f i) e' at' → Puts d place (texts f (i + 1)) e' at'
  next_put n = rw (texts_more f i) (puts_then p n)

pub nothing_measured : (f : ℕ → Text) → 0 ≡ length (texts f 0)
unfolding texts
nothing_measured f = refl

pub next_measured : (f : ℕ → Text) (i : ℕ) {sum n : ℕ} → sum ≡ length (texts f i) → n ≡ length (f i) → sum + n ≡ length (texts f (i + 1))
next_measured f i e h = omega (arith, ap length (texts_more f i), length-append (texts f i) (f i))

-- # Numbers in a row

module _ (f : ℕ → ℕ) where
  abbrev single : ℕ → List ℕ
  single i = f i ∷ []

  pub row_length : (n : ℕ) → length (row f n) ≡ n
  unfolding texts
  row_length zero = refl
  row_length (suc n) = omega (arith, length-append (row f n) (single n), row_length n)

  -- Each stands at its place.
  pub row_at : (n i : ℕ) → i < n → get_or (row f n) i 0 ≡ f i
  unfolding texts
  row_at zero i h = absurd (omega arith)
  row_at (suc n) i h = by (dec_lt i n) (row_at n i)
    where
      by : Dec (i < n) → (i < n → get_or (row f n) i 0 ≡ f i) → get_or (row f n ++ single n) i 0 ≡ f i
      by (yes k) more = get_or-append (row f n) (single n) 0 i (omega (arith, row_length n)) ∙ more k
      by (no k) more = let e : n ≡ i = omega arith in get_or_at (row f n) (f n) [] 0 i (row_length n ∙ e) ∙ ap f e

  -- None of them is laid over a list, one more is, and all are.
  pub row_begins : (d : List ℕ) → d ≡ written d 0 (row f 0)
  unfolding texts
  row_begins d = sym (written_nothing d 0)

  pub row_next : (d : List ℕ) (i : ℕ) {e : List ℕ} {n : ℕ} → i < length d → e ≡ written d 0 (row f i) → n ≡ f i → set e i n ≡ written d 0 (row f (i + 1))
  row_next d i h p q =
      let k : 0 + length (row f i) ≡ i = zero-add (length (row f i)) ∙ row_length i in
      let there : 0 + length (row f i) < length d = omega (arith, k) in
      rw (p, q, texts_more single i) (rw k at (written_more d 0 (row f i) (f i) there))

  pub row_all : (d : List ℕ) (n : ℕ) {e : List ℕ} → length d ≡ n → e ≡ written d 0 (row f n) → e ≡ row f n
  unfolding written
  row_all d n h p =
      let k : length d ≤ 0 + length (row f n) = omega (arith, row_length n) in
      p ∙ ap (λ (t : List ℕ). row f n ++ t) (drop_of_length-le d {i = 0 + length (row f n)} k) ∙ append-nil (row f n)

-- # Where parts begin

-- Behind the first part the others begin as if they stood alone.
pub start_next : (gap first e : ℕ) (es : List ℕ) (i : ℕ) → start_of gap first (e ∷ es) (suc i) ≡ start_of gap (e + gap) es i
unfolding start_of
start_next gap first e es zero = refl
start_next gap first e es (suc i) = refl

pub starts_first : (gap first : ℕ) (ends : List ℕ) → first ≡ start_of gap first ends 0
unfolding start_of
starts_first gap first ends = refl

pub starts_behind : (gap first : ℕ) (ends : List ℕ) (i : ℕ) {at : ℕ} → at ≡ get_or ends i 0 + gap → at ≡ start_of gap first ends (i + 1)
unfolding start_of
starts_behind gap first ends i e = rw (add-one i) e
