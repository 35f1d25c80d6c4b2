-- The lent slices: a text laid behind what is there, and what stands last.
-- Assumes nothing.
use Prim.Native.Nat.{ℕ, ◌+◌, ◌≤◌, ◌<◌}
use native.Mathlib.Omega.{arith}
use mathlib.Core.Path.{◌≡◌, sym, ap, ◌∙◌}
use mathlib.Core.List.{List, ◌++◌, append_assoc}
use lib.ListN.{length, take, drop, get_or, length-append, length-drop, take-append-drop, get_or-append}
use lib.Seq.{length-take-le, take-take, take_at, drop_at, drop-drop, get_or-drop}
use Rattle.rules.specs.Text.{Text}
use Rattle.writer.specs.Written.{written}

-- # A text laid over a list

module _ (d : List ℕ) (at n : ℕ) (t : Text) (long : length t ≡ n) (room : at + n ≤ length d) where
  front_long : length (take at d ++ t) ≡ at + n
  front_long = omega (arith, length-append (take at d) t, length-take-le at d (omega arith))

  pub front_written : take (at + n) (written d at t) ≡ take at d ++ t
  unfolding written
  front_written = take_at (take at d ++ t) (drop (at + length t) d) (at + n) front_long

  pub length_written : length (written d at t) ≡ length d
  unfolding written
  length_written = omega (arith, length-append (take at d ++ t) (drop (at + length t) d), front_long, length-drop (at + length t) d)

-- # What stands last in the front of a list

module _ (l a e : List ℕ) (m w : ℕ) (front : take (m + w) l ≡ a ++ e) (long : length a ≡ m) where
  pub front_less : take m l ≡ a
  front_less = sym (take-take m (m + w) l (omega arith)) ∙ ap (take m) front ∙ take_at a e m long

  pub stands_last : drop m l ≡ e ++ drop (m + w) l
  stands_last =
      let rest = drop (m + w) l in
      ap (drop m) (sym (take-append-drop (m + w) l) ∙ ap (λ (f : List ℕ). f ++ rest) front ∙ append_assoc a e rest) ∙ drop_at a (e ++ rest) m long

  pub drop_last : (i : ℕ) → drop (m + i) l ≡ drop i (e ++ drop (m + w) l)
  drop_last i = sym (drop-drop i m l) ∙ ap (drop i) stands_last

  pub get_d_last : (i : ℕ) → i < length e → get_or l (m + i) 0 ≡ get_or e i 0
  get_d_last i h =
      sym (get_or-drop m l i 0) ∙ ap (λ (t : List ℕ). get_or t i 0) stands_last ∙ get_or-append e (drop (m + w) l) 0 i h
