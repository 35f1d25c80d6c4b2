-- Laws of texts that are laid over a list: one behind the other, and one place at a time.
-- Assumes nothing.
use Prim.Native.Nat.{ℕ, suc, ◌+◌, ◌-◌, ◌/◌, ◌%◌, ◌^◌, ◌≤◌, ◌<◌}
use native.Mathlib.Nat.{add-zero, zero-add}
use native.Mathlib.Numerals.{add-one}
use native.Mathlib.Omega.{arith}
use mathlib.Core.List.{List, [], ◌∷◌, ◌++◌, append_assoc, append-nil}
use mathlib.Core.Logic.{⊎_elim}
use mathlib.Core.Path.{◌≡◌, sym, ap, subst, ◌∙◌}
use lib.ListN.{length, take, drop, get_or, set, length-append, length-drop, take-append-drop}
use lib.Seq.{length-take-le, take_at, drop_at, drop-drop, set_split, take-set-le, take-suc, take_all, get_or-drop}
use Rattle.reader.specs.Contact.{between}
use Rattle.rules.proofs.NumberLaws.{Small, Large, size, digits_small, digits_large, digits_length}
use Rattle.rules.specs.Answers.{over}
use Rattle.rules.specs.Text.{Text, digits}
use Rattle.writer.specs.Written.{written, Puts}

-- Nothing laid over a list leaves it as it was.
pub written_nothing : (d : List ℕ) (at : ℕ) → written d at [] ≡ d
unfolding written
written_nothing d at = rw (add-zero at, append-nil, take-append-drop)

module _ (d : List ℕ) (at : ℕ) (t : Text) (fits : at + length t ≤ length d) where
  -- The list in front of the end of what was laid over it.
  front_length : length (take at d ++ t) ≡ at + length t
  front_length =
      length-append (take at d) t ∙ ap (λ (n : ℕ). n + length t) (length-take-le at d (omega arith))

  -- The list stays as long as it was.
  pub written_length : length (written d at t) ≡ length d
  unfolding written
  written_length = rw (length-append, front_length, length-drop) (omega arith)

  -- A text behind another is both as one.
  pub written_then : (u : Text) → written (written d at t) (at + length t) u ≡ written d at (t ++ u)
  unfolding written
  written_then u =
      let p : List ℕ = take at d ++ t in
      let q : List ℕ = drop (at + length t) d in
      let l : length p ≡ at + length t = front_length in
      let before : take (at + length t) (p ++ q) ≡ p = take_at p q (at + length t) l in
      let behind : drop (at + length t + length u) (p ++ q) ≡ drop (at + length t + length u) d =
      sym (drop-drop (length u) (at + length t) (p ++ q))
      ∙ ap (λ (r : List ℕ). drop (length u) r) (drop_at p q (at + length t) l)
      ∙ drop-drop (length u) (at + length t) d in
      let both : at + length (t ++ u) ≡ at + length t + length u = rw length-append (omega arith) in
      rw (before, behind, both, ← append_assoc (take at d) t u)

-- A byte at a place is the text of that one byte.
pub written_byte : (d : List ℕ) (at b : ℕ) → at < length d → set d at b ≡ written d at (b ∷ [])
unfolding written
written_byte d at b h = rw (set_split d at b h, add-one, append_assoc)

-- A byte behind a text makes it longer by that byte.
pub written_more : (d : List ℕ) (at : ℕ) (t : Text) (b : ℕ) → at + length t < length d
    → set (written d at t) (at + length t) b ≡ written d at (t ++ (b ∷ []))
written_more d at t b h =
    let l : length (written d at t) ≡ length d = written_length d at t (omega arith) in
    written_byte (written d at t) (at + length t) b (omega arith) ∙ written_then d at t (omega arith) (b ∷ [])

-- The byte behind a text may be set before the text is laid over the list.
pub written_last : (d : List ℕ) (at : ℕ) (t : Text) (b : ℕ) → at + length t < length d
    → written (set d (at + length t) b) at t ≡ written d at (t ++ (b ∷ []))
unfolding written
written_last d at t b h =
    let k : ℕ = at + length t in
    let r : List ℕ = b ∷ drop (suc k) d in
    let before : take at (set d k b) ≡ take at d = take-set-le at d k b (omega arith) in
    let behind : drop k (set d k b) ≡ r =
    ap (λ (l : List ℕ). drop k l) (set_split d k b h) ∙ drop_at (take k d) r k (length-take-le k d (omega arith)) in
    let both : at + length (t ++ (b ∷ [])) ≡ suc k = rw length-append (omega arith) in
    rw (before, behind, both, ← append_assoc (take at d) t (b ∷ []), append_assoc (take at d ++ t) (b ∷ []))

-- # One text behind another

module _ {d e : List ℕ} {at r : ℕ} {t : Text} (p : Puts d at t e r) where
  pub puts_length : length e ≡ length d
  puts_length = ap length p.list ∙ written_length d at t p.fits

  -- There is room for a text behind another if there is room for both.
  pub puts_room : (u : Text) → at + (length t + length u) ≤ length d → r + length u ≤ length e
  puts_room u h = let k : r ≡ at + length t = p.place in let l : length e ≡ length d = puts_length in omega arith

  -- Two texts that were written one behind the other are one text that was written.
  pub puts_then : {u : Text} {f : List ℕ} {q : ℕ} → Puts e r u f q → Puts d at (t ++ u) f q
  puts_then {u} {f} {q} n =
      let k : r ≡ at + length t = p.place in
      let m : q ≡ r + length u = n.place in
      let g : r + length u ≤ length e = n.fits in
      let l : length e ≡ length d = puts_length in
      record {
        fits = rw length-append (omega arith);
        list = n.list ∙ rw (p.list, k) (written_then d at t p.fits u);
        place = rw length-append (omega arith);
      }

-- What was written may be said otherwise.
pub puts_as : {d e : List ℕ} {at r : ℕ} {t u : Text} → Puts d at t e r → t ≡ u → Puts d at u e r
puts_as {d} {e} {at} {r} p h = subst (λ (x : Text). Puts d at x e r) h p

-- Nothing was written.
pub puts_nothing : {d : List ℕ} {at : ℕ} {t : Text} → t ≡ [] → at ≤ length d → Puts d at t d at
puts_nothing {d} {at} e h =
    puts_as (record { fits = omega arith; list = sym (written_nothing d at); place = sym (add-zero at) }) (sym e)

-- A text that was written at the front ends at its length, and the rest of the list is as it was.
module _ {d e : List ℕ} {r : ℕ} {t : Text} (p : Puts d 0 t e r) where
  pub front_end : r ≡ length t
  front_end = p.place ∙ zero-add (length t)

  pub front_laid : e ≡ over t d
  unfolding written over
  front_laid = p.list ∙ ap (λ (n : ℕ). t ++ drop n d) (zero-add (length t))

-- # Digits

-- A number has as many digits as its tenth, and one more, unless it is one digit.
pub count_one : (n : ℕ) → n < 10 → length (digits n) ≡ 1
count_one n h = rw (digits_small n h)

pub count_more : (n : ℕ) → 10 ≤ n → length (digits n) ≡ length (digits (n / 10)) + 1
count_more n h = rw (digits_large n h, length-append)

pub count_some : (n : ℕ) → 1 ≤ length (digits n)
count_some n =
    ⊎_elim
    (λ (e : Small n). rw (count_one n e.1) (omega arith))
    (λ (e : Large n). rw (count_more n e.1) (omega arith))
    (size n)

-- A number of 64 bits has at most twenty digits.
pub count_most : (n : ℕ) → n < 2 ^ 64 → length (digits n) ≤ 20
count_most n h = digits_length 19 n (omega arith)

module _ (d : List ℕ) (at i n : ℕ) (last : i + 1 ≡ at + length (digits n)) (fits : at + length (digits n) ≤ length d) where
  -- The last digit first, and then those of the tenth.
  pub digit_turn : 10 ≤ n → written (set d i (48 + n % 10)) at (digits (n / 10)) ≡ written d at (digits n)
  digit_turn h =
      let m : length (digits n) ≡ length (digits (n / 10)) + 1 = count_more n h in
      let e : i ≡ at + length (digits (n / 10)) = omega arith in
      rw (e, digits_large n h) (written_last d at (digits (n / 10)) (48 + n % 10) (omega arith))

  -- The first digit last.
  pub digit_first : n < 10 → set d i (48 + n) ≡ written d at (digits n)
  digit_first h =
      let m : length (digits n) ≡ 1 = count_one n h in
      let e : i ≡ at = omega arith in
      rw (e, digits_small n h) (written_byte d at (48 + n) (omega arith))

-- # Parts of a text

module _ (s : Text) (from i : ℕ) (order : from ≤ i) where
  pub part_length : i ≤ length s → length (between s from i) ≡ i - from
  part_length h = length-take-le (i - from) (drop from s) (rw length-drop (omega arith))

  -- A part that ends one place further has one character more.
  pub part_more : i < length s → between s from (i + 1) ≡ between s from i ++ (get_or s i 0 ∷ [])
  part_more h =
      let e : i + 1 - from ≡ suc (i - from) = omega arith in
      let there : from + (i - from) ≡ i = omega arith in
      let room : i - from < length (drop from s) = rw length-drop (omega arith) in
      rw (e, take-suc (drop from s) (i - from) 0 room, get_or-drop, there)

-- The part from the first character to the last is the whole text.
pub part_whole : (s : Text) → between s 0 (length s) ≡ s
part_whole s = take_all (length s - 0) s (omega arith)

-- The part that ends where it begins is empty: no character is copied yet.
pub part_none : (d s : List ℕ) (at from : ℕ) → d ≡ written d at (between s from from)
part_none d s at from = let e : from - from ≡ 0 = omega arith in rw e (sym (written_nothing d at))

-- One more character of a part is copied.
pub part_turn : (d s : List ℕ) (at from i : ℕ) → from ≤ i → i < length s → at + (i - from) < length d
    → set (written d at (between s from i)) (at + (i - from)) (get_or s i 0) ≡ written d at (between s from (i + 1))
part_turn d s at from i order inside room =
    let l : length (between s from i) ≡ i - from = part_length s from i order (omega arith) in
    rw (part_more s from i order inside) (rw l at (written_more d at (between s from i) (get_or s i 0) (omega arith)))
