-- What is answered of a keyword, a band's name and an argument.
-- Assumes nothing.
use Rattle.std.specs.Prelude.{ℕ, Bool, false, cond, List, [], ◌∷◌, map, drop, get_or, replicate}
use Rattle.rules.specs.Arguments.{Entry, entries, a_band, meets}
use Rattle.rules.specs.Log.{keyword_start, keywords_of}
use Rattle.rules.specs.Reading.{has_keyword}
use Rattle.rules.specs.Rules.{Rules}
use Rattle.rules.specs.Text.{Text, begins, lower}
use Rattle.header.specs.declared.KeywordRead.{KeywordRead}

-- Whether a line begins with a word: as it is, with letters in their other case, or not at all.
unfoldable pub spelling_of : Text → Text → KeywordRead
unfolding begins
spelling_of word line =
    let otherwise = cond (begins (map lower word) (map lower line)) KeywordRead.Respelt KeywordRead.Differs in
    cond (begins word line) KeywordRead.Listed otherwise

-- Whether a line begins with the first of the keywords that are left, and its `=`: as it is listed, in another spelling, or not at all.
unfoldable pub first_keyword : List Entry → Text → KeywordRead
unfolding begins keyword_start has_keyword
first_keyword [] line = KeywordRead.Differs
first_keyword (e ∷ es) line =
    let otherwise = cond (has_keyword e line) KeywordRead.Respelt KeywordRead.Differs in
    cond (begins (keyword_start e.keyword) line) KeywordRead.Listed otherwise

unfoldable pub keyword_at : ℕ → Text → KeywordRead
unfolding first_keyword entries
keyword_at k line = first_keyword (drop k entries) line

-- The keyword that comes after k others as it is listed, with its `=`; noughts where there is none.
unfoldable pub listed_at : ℕ → List ℕ
unfolding keyword_start keywords_of entries
listed_at k = get_or (map keyword_start (keywords_of entries)) k (replicate 6 0)

-- Whether a text is the name of a band.
abbrev pub band_of : Rules → Text → Bool
band_of R t = meets R a_band t

-- Whether the argument behind the first of the keywords that are left keeps its rule.
unfoldable pub first_argument : Rules → List Entry → Text → Bool
unfolding meets
first_argument R [] t = false
first_argument R (e ∷ es) t = meets R e.rule t

unfoldable pub argument_of : Rules → ℕ → Text → Bool
unfolding first_argument entries
argument_of R k t = first_argument R (drop k entries) t
