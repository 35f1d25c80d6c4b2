-- A word that names records marks these and no others, and whatever the word, there are as many marks as there were.
-- Assumes nothing.
use Prim.Native.Nat.{ℕ, ◌+◌, ◌-◌, ◌≤◌, ◌<◌}
use native.Mathlib.Decide.{dec_le}
use native.Mathlib.Omega.{arith}
use mathlib.Core.Bool.{Bool, true, false, cond, ◌&&◌}
use mathlib.Core.List.{List}
use mathlib.Core.Path.{◌≡◌, refl, ap, ◌∙◌}
use lib.Dec.{leb}
use lib.ListN.{length, get_or}
use borrow.Author.Tests.{le-leb, lt-leb}
use Rattle.rules.specs.Rules.{Rules}
use Rattle.rules.specs.Text.{Text, value}
use Rattle.words.specs.Words.{first_in, last_in, names_records, marked_from, marked_by, MarksThoseAlone, AsManyMarks}
use Rattle.words.proofs.MarkLaws.{mark_length, mark_below, mark_within, mark_behind, named_first, named_last, named_order}
use Rattle.words.proofs.NumberLaws.{number_least, number_most}

module _ (R : Rules) (word : Text) (marks : List ℕ) (e : names_records R (length marks) word ≡ true) where
  abbrev first : ℕ
  first = value (first_in word)

  abbrev last : ℕ
  last = value (last_in word)

  least : 1 ≤ first
  least = number_least R (length marks) (first_in word) (named_first R (length marks) word e)

  order : first ≤ last
  order = named_order R (length marks) word e

  most : last ≤ length marks
  most = number_most R (length marks) (last_in word) (named_last R (length marks) word e)

  is_marked : marked_by R word marks ≡ marked_from (first - 1) last marks
  unfolding marked_by
  is_marked = rw e

  at_place : (j : ℕ) → get_or (marked_from (first - 1) last marks) j 0 ≡ cond (leb first (j + 1) && leb (j + 1) last) 1 (get_or marks j 0)
  at_place j = by (dec_le first (j + 1)) (dec_le (j + 1) last)
    where
      by : Dec (first ≤ j + 1) → Dec (j + 1 ≤ last)
          → get_or (marked_from (first - 1) last marks) j 0 ≡ cond (leb first (j + 1) && leb (j + 1) last) 1 (get_or marks j 0)
      by (no h) k =
          let under : j + 1 < first = omega arith in
          rw (lt-leb first (j + 1) under) (mark_below (first - 1) last j marks (omega arith) (omega (arith, order)) most)
      by (yes h) (yes k) =
          rw (le-leb first (j + 1) h, le-leb (j + 1) last k) (mark_within (first - 1) last j marks (omega arith) (omega arith) most)
      by (yes h) (no k) =
          let over : last < j + 1 = omega arith in
          rw (le-leb first (j + 1) h, lt-leb (j + 1) last over) (mark_behind (first - 1) last j marks (omega (arith, order)) (omega arith) most)

pub marks_those_alone : (R : Rules) → MarksThoseAlone R
unfolding MarksThoseAlone
marks_those_alone R word marks e j = ap (λ (l : List ℕ). get_or l j 0) (is_marked R word marks e) ∙ at_place R word marks e j

pub as_many_marks : (R : Rules) → AsManyMarks R
unfolding AsManyMarks marked_by
as_many_marks R word marks = by (names_records R (length marks) word) refl
  where
    by : (b : Bool) → names_records R (length marks) word ≡ b
        → length (cond b (marked_from (value (first_in word) - 1) (value (last_in word)) marks) marks) ≡ length marks
    by true e =
        mark_length (value (first_in word) - 1) (value (last_in word)) marks (omega (arith, order R word marks e)) (most R word marks e)
    by false e = refl
