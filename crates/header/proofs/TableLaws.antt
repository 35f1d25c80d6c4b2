-- The code's table of keywords is the paper's: each word is the keyword and its `=`.
-- Assumes nothing.
use Prim.Native.Nat.{ℕ, zero, suc, ◌-◌, ◌≤◌, ◌<◌}
use native.Mathlib.Nat.{le_of_suc-le-suc, not-suc-le-zero}
use mathlib.Core.Bool.{Bool, true, false, cond}
use mathlib.Core.List.{List, [], ◌∷◌, map}
use mathlib.Core.Path.{◌≡◌, refl, sym, ap, ap₂, ◌∙◌}
use lib.Dec.{T, eqb, eqb→eq}
use lib.ListN.{length, drop, get_or, replicate, length-drop, get_or-map, drop_of_length-le}
use native.Mathlib.Omega.{arith}
use Rattle.rules.proofs.SpellingLaws.{keyword_in_table}
use Rattle.rules.specs.Arguments.{Entry, entries}
use Rattle.rules.specs.Log.{keyword_start, keywords_of}
use Rattle.rules.specs.Text.{Text, begins, lower}
use Rattle.header.specs.declared.KeywordRead.{KeywordRead}
use Rattle.header.specs.Header.{spelling_of, first_keyword, keyword_at, listed_at}
use Rattle.header.proofs.WordLaws.{has_keyword_by}

-- The words, by the paper.
abbrev pub words : List Text
unfolding entries keywords_of keyword_start
words = map keyword_start (keywords_of entries)

-- Every word of a list has six characters.
abbrev sixes : List Text → Bool
sixes [] = true
sixes (w ∷ ws) = cond (eqb (length w) 6) (sixes ws) false

six : (ws : List Text) (k : ℕ) (d : Text) → T (sixes ws) → k < length ws → 6 ≡ length (get_or ws k d)
six [] k d t h = absurd (not-suc-le-zero h)
six (w ∷ ws) zero d t h = first (eqb (length w) 6) refl t
  where
    first : (b : Bool) → eqb (length w) 6 ≡ b → T (cond b (sixes ws) false) → 6 ≡ length w
    first true e u = sym (eqb→eq (length w) 6 (rw e tt))
    first false e u = absurd u
six (w ∷ ws) (suc k) d t h = six ws k d (later (eqb (length w) 6) t) (le_of_suc-le-suc h)
  where
    later : (b : Bool) → T (cond b (sixes ws) false) → T (sixes ws)
    later true u = u
    later false u = absurd u

pub word_length : (k : ℕ) (d : Text) → k < 36 → 6 ≡ length (get_or words k d)
unfolding entries keywords_of keyword_start
word_length k d h = six words k d tt h

-- The word at a place decides how the line begins where that keyword is due.
picked : (es : List Entry) (k : ℕ) (d line : Text) →
    k < length es →
    spelling_of (get_or (map keyword_start (keywords_of es)) k d) line ≡ first_keyword (drop k es) line
unfolding spelling_of first_keyword keywords_of
picked [] k d line h = absurd (not-suc-le-zero h)
picked (e ∷ es) zero d line h =
    ap (λ (b : Bool). cond (begins (keyword_start e.keyword) line) KeywordRead.Listed (cond b KeywordRead.Respelt KeywordRead.Differs)) (has_keyword_by e line)
picked (e ∷ es) (suc k) d line h = picked es k d line (le_of_suc-le-suc h)

pub keyword_known : (k : ℕ) (d line : Text) → k < 36 → spelling_of (get_or words k d) line ≡ keyword_at k line
unfolding keyword_at entries words
keyword_known k d line h = picked entries k d line h

-- Its three cases.
module _ (word line : Text) where
  spelling_by : (a b : Bool) → begins word line ≡ a → begins (map lower word) (map lower line) ≡ b → cond a KeywordRead.Listed (cond b KeywordRead.Respelt KeywordRead.Differs) ≡ spelling_of word line
  unfolding spelling_of
  spelling_by a b e f = sym (ap₂ (λ (x y : Bool). cond x KeywordRead.Listed (cond y KeywordRead.Respelt KeywordRead.Differs)) e f)

  pub spelling_listed : begins word line ≡ true → KeywordRead.Listed ≡ spelling_of word line
  spelling_listed e = spelling_by true (begins (map lower word) (map lower line)) e refl

  pub spelling_respelt : begins word line ≡ false → begins (map lower word) (map lower line) ≡ true → KeywordRead.Respelt ≡ spelling_of word line
  spelling_respelt e f = spelling_by false true e f

  pub spelling_differs : begins word line ≡ false → begins (map lower word) (map lower line) ≡ false → KeywordRead.Differs ≡ spelling_of word line
  spelling_differs e f = spelling_by false false e f

pub keyword_beyond : (k : ℕ) (line : Text) → 36 ≤ k → KeywordRead.Differs ≡ keyword_at k line
unfolding keyword_at entries first_keyword
keyword_beyond k line h = rw (drop_of_length-le entries {i = k} h)

-- The word itself, and noughts beyond the last.
pub listed_within : (k : ℕ) → k < 36 → (d : Text) → get_or words k d ≡ listed_at k
unfolding listed_at entries keywords_of keyword_start
listed_within k h d = other words k d (replicate 6 0) h
  where
    other : (ws : List Text) (k : ℕ) (c d : Text) → k < length ws → get_or ws k c ≡ get_or ws k d
    other [] k c d h = absurd (not-suc-le-zero h)
    other (w ∷ ws) zero c d h = refl
    other (w ∷ ws) (suc k) c d h = other ws k c d (le_of_suc-le-suc h)

pub listed_beyond : (k : ℕ) → 36 ≤ k → replicate 6 0 ≡ listed_at k
unfolding listed_at entries keywords_of keyword_start
listed_beyond k h = sym (beyond words k h)
  where
    beyond : (ws : List Text) (k : ℕ) → length ws ≤ k → get_or ws k (replicate 6 0) ≡ replicate 6 0
    beyond [] k h = refl
    beyond (w ∷ ws) zero h = absurd (not-suc-le-zero h)
    beyond (w ∷ ws) (suc k) h = beyond ws k (le_of_suc-le-suc h)

-- It is the keyword of the entry there, and its `=`.
pub listed_entry : (k : ℕ) (e : Entry) (rest : List Entry) → drop k entries ≡ e ∷ rest → listed_at k ≡ keyword_start e.keyword
unfolding words
listed_entry k e rest h =
    let some : length entries - k ≡ suc (length rest) = sym (length-drop k entries) ∙ ap length h in
    let many : length entries ≡ 36 = unfold entries in refl in
    sym (listed_within k (omega arith) (keyword_start []))
    ∙ get_or-map keyword_start (keywords_of entries) k []
    ∙ ap keyword_start (sym (keyword_in_table entries k e rest h))
