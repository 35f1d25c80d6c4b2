-- What a secretary's words at the desk name: records of a log, and the keywords of its header.
-- Assumes nothing.
use Rattle.std.specs.Prelude.{ℕ, zero, suc, ◌+◌, ◌-◌, Bool, true, false, cond, not, ◌&&◌, List, [], ◌∷◌, ◌++◌, map, ◌≡◌, leb, eqb, length, take, drop, get_or, replicate, Option, None, Some}
use Rattle.std.specs.Option.{option_or}
use Rattle.rules.specs.Arguments.{Entry, entries, count}
use Rattle.rules.specs.Log.{keywords_of}
use Rattle.rules.specs.Reading.{has_keyword}
use Rattle.rules.specs.Rules.{Rules}
use Rattle.rules.specs.Text.{Text, all, span, same_but_case, value, number_from}

-- # Records

-- A word names records by a number, or by two with `-` between them for all from the first to the last. A character that is no dash:
abbrev pub undashed : ℕ → Bool
undashed c = not (eqb c 45)

-- The text in front of the first dash; all of it where there is none.
unfoldable pub first_in : Text → Text
unfolding span
first_in word = take (span undashed word) word

-- The text behind the first dash; all of it where there is none.
unfoldable pub last_in : Text → Text
unfolding span all
last_in word = cond (all undashed word) word (drop (span undashed word + 1) word)

-- Records are numbered from 1 to N at the most, with no leading zero, and there is a mark for each.
unfoldable pub record_number : Rules → ℕ → Text → Bool
unfolding number_from value
record_number R room t = number_from 1 R.most_records t && leb (value t) room

-- The number of the record that a text names.
unfoldable pub number_named : Rules → ℕ → Text → Option ℕ
unfolding record_number value
number_named R room t = cond (record_number R room t) (Some (value t)) None

-- Both are such numbers, and the first is no larger than the last.
unfoldable pub names_records : Rules → ℕ → Text → Bool
unfolding first_in last_in record_number value
names_records R room word =
    record_number R room (first_in word) && record_number R room (last_in word) && leb (value (first_in word)) (value (last_in word))

-- The marks from a place up to another become 1, and the rest stays.
unfoldable pub marked_from : ℕ → ℕ → List ℕ → List ℕ
marked_from from to marks = take from marks ++ replicate (to - from) 1 ++ drop to marks

-- The mark of the record n stands at the place n - 1. A word that names no records marks none.
unfoldable pub marked_by : Rules → Text → List ℕ → List ℕ
unfolding names_records first_in last_in value marked_from
marked_by R word marks =
    cond (names_records R (length marks) word) (marked_from (value (first_in word) - 1) (value (last_in word)) marks) marks

-- A word that names records marks these and no others: at a place j, where the record of the number j + 1 is marked, a 1 stands exactly where that
-- number is between the first and the last, and else what stood there.
unfoldable pub MarksThoseAlone : Rules → Type 0
unfolding names_records marked_by first_in last_in value
MarksThoseAlone R =
    (word : Text) (marks : List ℕ) → names_records R (length marks) word ≡ true → (j : ℕ)
    → get_or (marked_by R word marks) j 0
    ≡ cond (leb (value (first_in word)) (j + 1) && leb (j + 1) (value (last_in word))) 1 (get_or marks j 0)

-- Whatever the word, there are as many marks as there were.
unfoldable pub AsManyMarks : Rules → Type 0
unfolding marked_by
AsManyMarks R = (word : Text) (marks : List ℕ) → length (marked_by R word marks) ≡ length marks

-- # Keywords

-- A line begins with the first of these keywords and its `=`, in any letter case.
unfoldable pub has_first : List Entry → Text → Bool
unfolding has_keyword
has_first [] line = false
has_first (e ∷ es) line = has_keyword e line

-- The number of the keyword that the word is, in any letter case: the first such one's, where the keywords are counted from a number on.
unfoldable pub keyword_from : ℕ → List Entry → Text → Option ℕ
unfolding same_but_case
keyword_from n [] word = None
keyword_from n (e ∷ es) word =
    let later = keyword_from (suc n) es word in
    cond (same_but_case e.keyword word) (Some n) later

-- A number, as a count is written, is handed on as it is: which of them are keywords' numbers is for the view to say.
unfoldable pub count_named : Rules → Text → Option ℕ
unfolding count value
count_named R word = cond (count R word) (Some (value word)) None

-- What a word names: the keyword that it is, else the number that it is, else nothing.
unfoldable pub named_by : Rules → Text → Option ℕ
unfolding keyword_from entries count_named
named_by R word = option_or (keyword_from 1 entries word) (count_named R word)

-- So many numbers from this one on.
unfoldable pub numbers : ℕ → ℕ → List ℕ
numbers n zero = []
numbers n (suc many) = n ∷ numbers (suc n) many

-- Each of the keywords, as it is listed, names its own number.
unfoldable pub EachNamesItself : Rules → Type 0
unfolding named_by keywords_of entries numbers
EachNamesItself R = map (named_by R) (keywords_of entries) ≡ map Some (numbers 1 36)
