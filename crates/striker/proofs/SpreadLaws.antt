-- Laws of what is told of the records that are left, at the places that they have in the log.
-- Assumes nothing.
use Prim.Native.Nat.{ℕ, ◌+◌, ◌≤◌, ◌<◌}
use native.Mathlib.Nat.{zero-add, add-zero}
use mathlib.Core.Bool.{Bool, true, false, cond}
use mathlib.Core.List.{List, ◌++◌}
use mathlib.Core.Path.{◌≡◌, refl, sym, ap, ◌∙◌}
use lib.Dec.{eqb}
use lib.ListN.{length, drop, get_or, set, get_or-eq_default}
use lib.Seq.{drop_at, get_or-drop}
use Rattle.rules.proofs.Tests.{eq-of-test, fails, not_false}
use Rattle.rules.specs.Striking.{Places, marked, place_after}
use Rattle.rules.specs.StrikingDemands.{IsKept, told_after}
use Rattle.writer.proofs.TextsLaws.{row_length, row_at, row_next}
use Rattle.writer.specs.Written.{row, written}
use Rattle.striker.specs.Spread.{spread_at, spread_over, SpreadIsToldAfter, SpreadLeavesTheStruck, SpreadIsAsLong}

pub beyond : (l : List ℕ) (i : ℕ) → length l ≤ i → 0 ≡ get_or l i 0
beyond l i h = sym (get_or-eq_default l 0 h)

-- The places from the end of what was laid on stay.
stays : (f : ℕ → ℕ) (d : List ℕ) (i : ℕ) → get_or (written d 0 (row f i)) i 0 ≡ get_or d i 0
unfolding written
stays f d i =
    let n = row_length f i in
    let same : drop i (row f i ++ drop (0 + length (row f i)) d) ≡ drop i d =
    drop_at (row f i) (drop (0 + length (row f i)) d) i n ∙ ap (λ (k : ℕ). drop k d) (zero-add (length (row f i)) ∙ n) in
    ap (λ (k : ℕ). get_or (row f i ++ drop (0 + length (row f i)) d) k 0) (sym (add-zero i))
    ∙ sym (get_or-drop i (row f i ++ drop (0 + length (row f i)) d) 0 0)
    ∙ ap (λ (l : List ℕ). get_or l 0 0) same
    ∙ get_or-drop i d 0 0
    ∙ ap (λ (k : ℕ). get_or d k 0) (add-zero i)

-- One turn: at the next place stands what stood there, or what is told.
module _ (struck : Places) (told among₀ : List ℕ) (i : ℕ) where
  abbrev f : ℕ → ℕ
  f = spread_at struck told among₀

  pub turn : {among : List ℕ} {left b : ℕ} {gone : Bool} {next : ℕ} →
      i < length among₀ →
      among ≡ written among₀ 0 (row f i) →
      left ≡ place_after struck i →
      gone ≡ struck i →
      next ≡ get_or told left 0 →
      b ≡ cond gone (get_or among i 0) next →
      set among i b ≡ written among₀ 0 (row f (i + 1))
  turn {among} {left} {b} {gone} {next} h p q g t e =
      row_next f among₀ i h p
      (e ∙ (λ j. cond (g j) (get_or (p j) i 0) (t j)) ∙ (λ j. cond (struck i) (stays f among₀ i j) (get_or told (q j) 0)))

  -- The verdict of a struck record stays as it was.
  pub turn_struck : {among : List ℕ} {left : ℕ} → i < length among₀ → among ≡ written among₀ 0 (row f i) → left ≡ place_after struck i → struck i ≡ true → set among i (get_or among i 0) ≡ written among₀ 0 (row f (i + 1))
  turn_struck h p q g = turn h p q (sym g) refl refl

  -- At the place of one that is left stands what is told of it.
  pub turn_left : {among : List ℕ} {left b : ℕ} → i < length among₀ → among ≡ written among₀ 0 (row f i) → left ≡ place_after struck i → struck i ≡ false → b ≡ get_or told left 0 → set among i b ≡ written among₀ 0 (row f (i + 1))
  turn_left h p q g t = turn h p q (sym g) t refl

pub all_spread : (struck : Places) (told among₀ : List ℕ) {among : List ℕ} → among ≡ row (spread_at struck told among₀) (length among₀) → among ≡ spread_over struck told among₀
unfolding spread_over
all_spread struck told among₀ e = e

-- At the place of a record that is kept stands what is told of it.
kept_told : (marks told among : List ℕ) (j : ℕ) → IsKept marks j → spread_at (marked marks) told among j ≡ told_after marks told j
kept_told marks told among j k = rw k

pub spread_is_told : SpreadIsToldAfter
unfolding spread_over
spread_is_told marks told among j h k =
    row_at (spread_at (marked marks) told among) (length among) j h ∙ kept_told marks told among j k

-- A mark that does not keep its record strikes it.
strikes : (marks : List ℕ) (j : ℕ) → (IsKept marks j → ⊥) → marked marks j ≡ true
strikes marks j gone = not_false (fails (eqb (get_or marks j 0) 0) (λ e. gone (eq-of-test (get_or marks j 0) 0 e)))

-- At that of a struck one stands what stood there.
pub spread_leaves_the_struck : SpreadLeavesTheStruck
unfolding spread_over
spread_leaves_the_struck marks told among j h gone =
    row_at (spread_at (marked marks) told among) (length among) j h ∙ ap (λ (b : Bool). cond b (get_or among j 0) (told_after marks told j)) (strikes marks j gone)

pub spread_is_as_long : SpreadIsAsLong
unfolding spread_over
spread_is_as_long marks told among = row_length (spread_at (marked marks) told among) (length among)
