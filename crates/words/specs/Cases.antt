-- Words at the desk, and what they name.
-- Assumes nothing.
use Rattle.std.specs.Prelude.{ℕ, Bool, true, false, List, [], ◌∷◌, replicate, Option, None, Some}
use Prim.Native.String.{String}
use Rattle.rules.specs.Rules.{base}
use Rattle.rules.specs.Text.{bytes}
use Rattle.words.specs.Words.{names_records, marked_by, named_by}

-- # Records

-- A word on marks that are all 0, whether it names records, and the marks afterwards.
pub record MarkCase : Type 0 where
  pub word : String
  pub room : ℕ
  pub named : Bool
  pub marks : List ℕ

-- What is answered of a word, with the marks afterwards.
pub record Marked : Type 0 where
  pub named : Bool
  pub marks : List ℕ

unfoldable pub marked_on : MarkCase → Marked
unfolding names_records marked_by base
marked_on c =
    record {
      named = names_records base c.room (bytes c.word);
      marks = marked_by base (bytes c.word) (replicate c.room 0);
    }

unfoldable pub marked_as : MarkCase → Marked
marked_as c = record { named = c.named; marks = c.marks }

-- A word that names records among five, and one that names none.
abbrev names : String → List ℕ → MarkCase
names word marks = record { word = word; room = 5; named = true; marks = marks }

abbrev names_none : String → ℕ → MarkCase
names_none word room = record { word = word; room = room; named = false; marks = replicate room 0 }

unfoldable pub mark_cases : List MarkCase
mark_cases =
    names "4" (0 ∷ 0 ∷ 0 ∷ 1 ∷ 0 ∷ [])
    ∷ names "2-4" (0 ∷ 1 ∷ 1 ∷ 1 ∷ 0 ∷ [])
    ∷ names "5-5" (0 ∷ 0 ∷ 0 ∷ 0 ∷ 1 ∷ [])
    ∷ names "1-5" (1 ∷ 1 ∷ 1 ∷ 1 ∷ 1 ∷ [])
    ∷ names_none "" 5
    ∷ names_none "0" 5
    ∷ names_none "0-2" 5
    ∷ names_none "04" 5
    ∷ names_none "6" 5
    ∷ names_none "4-6" 5
    ∷ names_none "4-2" 5
    ∷ names_none "4-" 5
    ∷ names_none "-4" 5
    ∷ names_none "-" 5
    ∷ names_none "1-2-3" 5
    ∷ names_none "1;2" 5
    ∷ names_none "x" 5
    ∷ names_none "4 " 5
    ∷ names_none "+4" 5
    ∷ names_none "1" 0
    ∷ names_none "1000" 1000
    ∷ []

-- # Keywords

-- A word, and what it names.
pub record KeywordCase : Type 0 where
  pub word : String
  pub named : Option ℕ

unfoldable pub named_on : KeywordCase → Option ℕ
unfolding named_by base
named_on c = named_by base (bytes c.word)

unfoldable pub named_as : KeywordCase → Option ℕ
named_as c = c.named

abbrev is : String → ℕ → KeywordCase
is word n = record { word = word; named = Some n }

abbrev is_none : String → KeywordCase
is_none word = record { word = word; named = None }

unfoldable pub keyword_cases : List KeywordCase
keyword_cases =
    is "PCall" 3
    ∷ is "pcall" 3
    ∷ is "TNAME" 1
    ∷ is "CODXC" 36
    ∷ is "rHbBs" 19
    ∷ is "mope1" 20
    ∷ is "3" 3
    ∷ is "36" 36
    ∷ is "37" 37
    ∷ is "0" 0
    ∷ is "9999" 9999
    ∷ is_none "10000"
    ∷ is_none "036"
    ∷ is_none "3;4"
    ∷ is_none "PCal"
    ∷ is_none "PCalls"
    ∷ is_none "PCall="
    ∷ is_none "MOpel"
    ∷ is_none "3-4"
    ∷ is_none " 3"
    ∷ is_none ""
    ∷ []
