-- Laws of marking: what stands at each place afterwards, and which word marks.
-- Assumes nothing.
use Prim.Native.Nat.{ℕ, zero, suc, ◌-◌, ◌≤◌, ◌<◌}
use native.Mathlib.Omega.{arith}
use native.Mathlib.Numerals.{unary_clauses}
use mathlib.Core.Bool.{Bool, true, false, ◌&&◌}
use mathlib.Core.List.{List, [], ◌∷◌, ◌++◌}
use mathlib.Core.Path.{◌≡◌, refl, sym, ap, ap₂}
use lib.Dec.{leb}
use lib.ListN.{length, take, drop, get_or, replicate, length-append, length-replicate, length-drop, length-take}
use borrow.Author.Tests.{le-leb, leb-true}
use Rattle.std.specs.Prelude.{None, Some}
use Rattle.rules.specs.Rules.{Rules}
use Rattle.rules.specs.Text.{Text, value}
use Rattle.rules.proofs.Tests.{and_l, and_r, fails}
use Rattle.words.specs.Words.{first_in, last_in, record_number, number_named, names_records, marked_from, marked_by}
use Rattle.words.proofs.NumberLaws.{number_least, number_most, number_told, number_none}

-- The marks behind the first, where that one is in front of those that are set, and where it is one of them.
past_front : (from to m : ℕ) (marks : List ℕ) → marked_from (suc from) (suc to) (m ∷ marks) ≡ m ∷ marked_from from to marks
unfolding marked_from
past_front from to m marks = simp unary_clauses refl

past_set : (to m : ℕ) (marks : List ℕ) → marked_from 0 (suc to) (m ∷ marks) ≡ 1 ∷ marked_from 0 to marks
unfolding marked_from
past_set to m marks = simp unary_clauses refl

-- From a place up to itself no mark is set.
pub mark_none : (from : ℕ) (marks : List ℕ) → marks ≡ marked_from from from marks
mark_none zero marks = unfold marked_from in refl
mark_none (suc from) [] = unfold marked_from in simp unary_clauses (by from)
  where
    by : (n : ℕ) → [] ≡ replicate {A = ℕ} (n - n) 1 ++ []
    by n = let none : n - n ≡ 0 = omega arith in rw none
mark_none (suc from) (m ∷ marks) = rw (past_front from from m marks) (ap (λ (r : List ℕ). m ∷ r) (mark_none from marks))

-- As many marks as there were.
pub mark_length : (from to : ℕ) (marks : List ℕ) → from ≤ to → to ≤ length marks → length (marked_from from to marks) ≡ length marks
unfolding marked_from
mark_length from to marks h l =
    rw
    (length-append (take from marks ++ ones) (drop to marks), length-append (take from marks) ones, length-replicate {A = ℕ} (to - from) 1, length-drop to marks, length-take from marks)
    (omega arith)
  where
    ones : List ℕ
    ones = replicate (to - from) 1

-- What stands at each place afterwards: below the first, from the first up to the last, and behind it.
pub mark_below : (from to j : ℕ) (marks : List ℕ) → j < from → from ≤ to → to ≤ length marks → get_or (marked_from from to marks) j 0 ≡ get_or marks j 0
mark_below from to j [] h k l = absurd (omega arith)
mark_below zero to j (m ∷ marks) h k l = absurd (omega arith)
mark_below (suc from) zero j (m ∷ marks) h k l = absurd (omega arith)
mark_below (suc from) (suc to) zero (m ∷ marks) h k l = rw (past_front from to m marks)
mark_below (suc from) (suc to) (suc j) (m ∷ marks) h k l =
    rw (past_front from to m marks) (mark_below from to j marks (omega arith) (omega arith) (omega arith))

pub mark_within : (from to j : ℕ) (marks : List ℕ) → from ≤ j → j < to → to ≤ length marks → get_or (marked_from from to marks) j 0 ≡ 1
mark_within from to j [] h k l = absurd (omega arith)
mark_within from zero j (m ∷ marks) h k l = absurd (omega arith)
mark_within zero (suc to) zero (m ∷ marks) h k l = rw (past_set to m marks)
mark_within zero (suc to) (suc j) (m ∷ marks) h k l =
    rw (past_set to m marks) (mark_within zero to j marks (omega arith) (omega arith) (omega arith))
mark_within (suc from) (suc to) zero (m ∷ marks) h k l = absurd (omega arith)
mark_within (suc from) (suc to) (suc j) (m ∷ marks) h k l =
    rw (past_front from to m marks) (mark_within from to j marks (omega arith) (omega arith) (omega arith))

pub mark_behind : (from to j : ℕ) (marks : List ℕ) → from ≤ to → to ≤ j → to ≤ length marks → get_or (marked_from from to marks) j 0 ≡ get_or marks j 0
mark_behind zero zero j marks h k l = rw (← mark_none 0 marks)
mark_behind (suc from) zero j marks h k l = absurd (omega arith)
mark_behind from (suc to) j [] h k l = absurd (omega arith)
mark_behind from (suc to) zero (m ∷ marks) h k l = absurd (omega arith)
mark_behind zero (suc to) (suc j) (m ∷ marks) h k l =
    rw (past_set to m marks) (mark_behind zero to j marks (omega arith) (omega arith) (omega arith))
mark_behind (suc from) (suc to) (suc j) (m ∷ marks) h k l =
    rw (past_front from to m marks) (mark_behind from to j marks (omega arith) (omega arith) (omega arith))

-- A word that names records names a first and a last.
module _ (R : Rules) (room : ℕ) (word : Text) (e : names_records R room word ≡ true) where
  abbrev first_is : Bool
  first_is = record_number R room (first_in word)

  abbrev last_is : Bool
  last_is = record_number R room (last_in word)

  abbrev in_order : Bool
  in_order = leb (value (first_in word)) (value (last_in word))

  pub named_first : record_number R room (first_in word) ≡ true
  unfolding names_records
  named_first = and_l first_is last_is (and_l (first_is && last_is) in_order e)

  pub named_last : record_number R room (last_in word) ≡ true
  unfolding names_records
  named_last = and_r first_is last_is (and_l (first_is && last_is) in_order e)

  pub named_order : value (first_in word) ≤ value (last_in word)
  unfolding names_records
  named_order = leb-true (value (first_in word)) (value (last_in word)) (and_r (first_is && last_is) in_order e)

-- What was answered of the two texts of a word tells whether it names records.
module _ (R : Rules) (word : Text) (marks : List ℕ) where
  abbrev room : ℕ
  room = length marks

  unnamed : (names_records R room word ≡ true → ⊥) → (false ≡ names_records R room word) × (marks ≡ marked_by R word marks)
  unfolding marked_by
  unnamed n = let e = fails (names_records R room word) n in (sym e, rw e)

  pub no_first : None ≡ number_named R room (first_in word) → (false ≡ names_records R room word) × (marks ≡ marked_by R word marks)
  no_first h = unnamed (λ e. number_none R room (first_in word) h (named_first R room word e))

  pub no_last : None ≡ number_named R room (last_in word) → (false ≡ names_records R room word) × (marks ≡ marked_by R word marks)
  no_last h = unnamed (λ e. number_none R room (last_in word) h (named_last R room word e))

  module _ {first last : ℕ} (f : Some first ≡ number_named R room (first_in word)) (g : Some last ≡ number_named R room (last_in word)) where
    first_told : (record_number R room (first_in word) ≡ true) × (first ≡ value (first_in word))
    first_told = number_told R room (first_in word) f

    last_told : (record_number R room (last_in word) ≡ true) × (last ≡ value (last_in word))
    last_told = number_told R room (last_in word) g

    pub first_least : 1 ≤ first
    first_least = omega (arith, first_told.1, number_least R room (first_in word) first_told.0)

    pub last_within : last ≤ length marks
    last_within = omega (arith, last_told.1, number_most R room (last_in word) last_told.0)

    out_of_order : last < first → (false ≡ names_records R room word) × (marks ≡ marked_by R word marks)
    out_of_order l = unnamed (λ e. omega (arith, named_order R room word e, first_told.1, last_told.1))

    pub no_order : last < first → false ≡ names_records R room word
    no_order l = (out_of_order l).0

    pub none_marked : last < first → marks ≡ marked_by R word marks
    none_marked l = (out_of_order l).1

    module _ (l : first ≤ last) where
      pub both : true ≡ names_records R room word
      unfolding names_records
      both =
          let order : value (first_in word) ≤ value (last_in word) = omega (arith, first_told.1, last_told.1) in
          rw (first_told.0, last_told.0, le-leb (value (first_in word)) (value (last_in word)) order)

      pub both_marked : marked_from (first - 1) last marks ≡ marked_by R word marks
      unfolding marked_by
      both_marked = rw (← both) (ap₂ (λ (a b : ℕ). marked_from (a - 1) b marks) first_told.1 last_told.1)
