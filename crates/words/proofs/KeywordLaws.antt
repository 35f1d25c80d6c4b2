-- Laws of a word that is a keyword: with a `=` behind it, it is compared as the front of a header's line is.
-- Assumes nothing.
use Prim.Native.Nat.{ℕ, zero, suc, ◌+◌, ◌≤◌}
use native.Mathlib.Omega.{arith}
use native.Mathlib.Numerals.{add-one}
use mathlib.Core.Bool.{Bool, true, false, cond, ◌&&◌, and-true, true≢false}
use mathlib.Core.List.{List, [], ◌∷◌, ◌++◌}
use mathlib.Core.Logic.{◌⊎◌, inl, inr}
use mathlib.Core.Path.{◌≡◌, refl, sym, ap, ap₂, ◌∙◌}
use lib.Dec.{eqb}
use lib.ListN.{length, drop, get_or, drop_of_length-le}
use lib.Seq.{drop-drop, take_all, take-append_seam, drop-append_seam}
use borrow.Author.Tests.{eqb-true}
use Rattle.std.specs.Prelude.{None, Some}
use Rattle.rules.specs.Arguments.{Entry, entries, count}
use Rattle.rules.specs.Log.{keyword_start}
use Rattle.rules.specs.Reading.{spelling_on, has_keyword}
use Rattle.rules.specs.Rules.{Rules}
use Rattle.rules.specs.Text.{Text, bytes, begins, same_but_case, value}
use Rattle.rules.proofs.SpellingLaws.{case_length, listed_has}
use Rattle.rules.proofs.Tests.{and_l, and_r, fails}
use Rattle.fields.proofs.FieldLaws.{characters, take_characters}
use Rattle.header.specs.declared.KeywordRead.{KeywordRead}
use Rattle.header.specs.Header.{first_keyword, keyword_at}
use Rattle.words.specs.Words.{has_first, keyword_from, count_named, named_by}

-- A line has the keyword in the listed spelling and in any other.
abbrev has : KeywordRead → Bool
has KeywordRead.Listed = true
has KeywordRead.Respelt = true
has KeywordRead.Differs = false

first_told : (es : List Entry) (line : Text) → has (first_keyword es line) ≡ has_first es line
unfolding first_keyword has_first
first_told [] line = refl
first_told (e ∷ es) line = by (begins (keyword_start e.keyword) line) refl
  where
    other : (b : Bool) → has (cond b KeywordRead.Respelt KeywordRead.Differs) ≡ b
    other true = refl
    other false = refl

    by : (a : Bool) → begins (keyword_start e.keyword) line ≡ a
        → has (cond a KeywordRead.Listed (cond (has_keyword e line) KeywordRead.Respelt KeywordRead.Differs)) ≡ has_keyword e line
    by true h = sym (listed_has e line h)
    by false h = other (has_keyword e line)

pub keyword_told : (k : ℕ) (line : Text) (r : KeywordRead) → keyword_at k line ≡ r → has r ≡ has_first (drop k entries) line
unfolding keyword_at
keyword_told k line r e = ap has (sym e) ∙ first_told (drop k entries) line

pub keyword_had : (k : ℕ) (line : Text) {r : KeywordRead} → r ≡ keyword_at k line → (r ≡ KeywordRead.Listed) ⊎ (r ≡ KeywordRead.Respelt) → true ≡ has_first (drop k entries) line
keyword_had k line e (inl h) = keyword_told k line KeywordRead.Listed (sym e ∙ h)
keyword_had k line e (inr h) = keyword_told k line KeywordRead.Respelt (sym e ∙ h)

-- Every keyword has five characters.
abbrev fives : List Entry → Bool
fives [] = true
fives (e ∷ es) = eqb (length e.keyword) 5 && fives es

all_five : fives entries ≡ true
unfolding entries
all_five = refl

five_left : (k : ℕ) (es : List Entry) → fives es ≡ true → fives (drop k es) ≡ true
five_left zero es f = f
five_left (suc k) [] f = refl
five_left (suc k) (e ∷ es) f = five_left k es (and_r (eqb (length e.keyword) 5) (fives es) f)

five_first : (e : Entry) (es : List Entry) → fives (e ∷ es) ≡ true → length e.keyword ≡ 5
five_first e es f = eqb-true (length e.keyword) 5 (and_l (eqb (length e.keyword) 5) (fives es) f)

-- So a word of another length is none of them.
other_length : (word : Text) → (length word ≡ 5 → ⊥) → (n : ℕ) (es : List Entry) → fives es ≡ true → None ≡ keyword_from n es word
unfolding keyword_from
other_length word o n [] f = refl
other_length word o n (e ∷ es) f =
    rw (fails (same_but_case e.keyword word) (λ s. o (case_length e.keyword word s ∙ five_first e es f)))
    (other_length word o (suc n) es (and_r (eqb (length e.keyword) 5) (fives es) f))

pub keyword_apart : (word : Text) → (length word ≡ 5 → ⊥) → None ≡ keyword_from 1 entries word
keyword_apart word o = other_length word o 1 entries all_five

-- A word of five characters and a `=`, one by one.
pub five_line : (word : Text) → length word ≡ 5
    → get_or word 0 0 ∷ get_or word 1 0 ∷ get_or word 2 0 ∷ get_or word 3 0 ∷ get_or word 4 0 ∷ 61 ∷ [] ≡ word ++ bytes "="
five_line word l =
    let five : characters word 0 5 ≡ word = sym (take_characters word 0 5 (omega arith)) ∙ take_all 5 word (omega arith) in
    ap (λ (t : Text). t ++ bytes "=") five

-- The keyword in front of the others, and those behind it.
module _ (word : Text) (l : length word ≡ 5) where
  spelt_so : (e : Entry) → length e.keyword ≡ 5 → has_keyword e (word ++ bytes "=") ≡ same_but_case e.keyword word
  unfolding has_keyword spelling_on begins
  spelt_so e f =
      let long : length e.keyword ≡ length word = omega arith in
      rw (long, take-append_seam word (bytes "="), drop-append_seam word (bytes "=")) (and-true (same_but_case e.keyword word))

  here : (n : ℕ) (es : List Entry) → fives es ≡ true → has_first es (word ++ bytes "=") ≡ true → keyword_from n es word ≡ Some n
  unfolding keyword_from has_first
  here n [] f h = absurd (true≢false (sym h))
  here n (e ∷ es) f h = rw (sym (spelt_so e (five_first e es f)) ∙ h)

  later : (n : ℕ) (es : List Entry) → fives es ≡ true → has_first es (word ++ bytes "=") ≡ false
      → keyword_from n es word ≡ keyword_from (suc n) (drop 1 es) word
  unfolding keyword_from has_first
  later n [] f h = refl
  later n (e ∷ es) f h = rw (sym (spelt_so e (five_first e es f)) ∙ h)

  module _ {line : Text} (is : line ≡ word ++ bytes "=") (k : ℕ) where
    pub keyword_here : has_first (drop k entries) line ≡ true → keyword_from (k + 1) (drop k entries) word ≡ Some (k + 1)
    keyword_here h =
        here (k + 1) (drop k entries) (five_left k entries all_five) (ap (has_first (drop k entries)) (sym is) ∙ h)

    pub keyword_later : has_first (drop k entries) line ≡ false
        → keyword_from (k + 1) (drop k entries) word ≡ keyword_from (k + 1 + 1) (drop (k + 1) entries) word
    keyword_later h =
        later (k + 1) (drop k entries) (five_left k entries all_five) (ap (has_first (drop k entries)) (sym is) ∙ h)
        ∙ ap₂ (λ (n : ℕ) (es : List Entry). keyword_from n es word) (sym (add-one (k + 1))) (drop-drop 1 k entries)

pub keyword_none : (word : Text) (n k : ℕ) → 36 ≤ k → keyword_from n (drop k entries) word ≡ None
unfolding keyword_from entries
keyword_none word n k h = rw (drop_of_length-le entries {i = k} h)

-- The answers on a word, one for each.
module _ (R : Rules) (word : Text) where
  pub named_keyword : {n : ℕ} → Some n ≡ keyword_from 1 entries word → Some n ≡ named_by R word
  unfolding named_by
  named_keyword e = rw (← e)

  module _ (e : None ≡ keyword_from 1 entries word) where
    pub named_count : {v : ℕ} → count R word ≡ true → v ≡ value word → Some v ≡ named_by R word
    unfolding named_by count_named
    named_count h q = rw (← e, h) (ap Some q)

    pub named_nothing : count R word ≡ false → None ≡ named_by R word
    unfolding named_by count_named
    named_nothing h = rw (← e, h)
