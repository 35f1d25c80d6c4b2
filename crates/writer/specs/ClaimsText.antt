-- The text that stands in front of the records when a log is written back: the log's own, with the nine claims counted again.
-- Assumes nothing.
use Rattle.std.specs.Prelude.{ℕ, zero, suc, ◌+◌, List, [], ◌∷◌, ◌++◌, length, drop, get_or}
use Rattle.reader.specs.Contact.{between}
use Rattle.rules.specs.Text.{Text, digit, allowed, span, digits}
use Rattle.rules.specs.declared.Totals.{Totals}
use Rattle.writer.specs.Written.{texts, row, start_of}

-- The nine numbers that are claimed, in the order of their lines.
unfoldable pub claim_numbers : Totals → List ℕ
claim_numbers t =
    t.credited
    ∷ t.points
    ∷ t.squares
    ∷ t.squarebonus
    ∷ t.exchanges
    ∷ t.exchangebonus
    ∷ t.countries
    ∷ t.countrybonus
    ∷ t.total
    ∷ []

-- Where the claimed number of a line begins: behind the six characters of its keyword and `=`.
abbrev pub number_start : ℕ → ℕ
number_start line = line + 6

-- Where the number that begins at a place ends.
unfoldable pub number_end : Text → ℕ → ℕ
unfolding span
number_end s at = at + span digit (drop at s)

-- Where the next line begins, from a place within a line.
unfoldable pub line_behind : Text → ℕ → ℕ
unfolding span
line_behind s at = at + span allowed (drop at s) + 2

-- Where the line of the claim behind so many begins, from the first one's line on.
unfoldable pub claim_line : Text → ℕ → ℕ → ℕ
unfolding number_end line_behind
claim_line s line zero = line
claim_line s line (suc i) = line_behind s (number_end s (number_start (claim_line s line i)))

-- Where the numbers of so many claims begin, and where they end.
abbrev pub claim_start : Text → ℕ → ℕ → ℕ
claim_start s line i = number_start (claim_line s line i)

abbrev pub claim_end : Text → ℕ → ℕ → ℕ
claim_end s line i = number_end s (claim_start s line i)

abbrev pub claim_starts : Text → ℕ → ℕ → List ℕ
claim_starts s line n = row (claim_start s line) n

abbrev pub claim_ends : Text → ℕ → ℕ → List ℕ
claim_ends s line n = row (claim_end s line) n

-- What stands between two claims, and the right number in the place of the claimed one.
abbrev pub claim_text : Text → ℕ → List ℕ → List ℕ → List ℕ → ℕ → Text
claim_text s from starts ends ns i = between s (start_of 0 from ends i) (get_or starts i 0) ++ digits (get_or ns i 0)

-- The log from a place to its first record, with these numbers in the places of those that begin and end as told.
unfoldable pub claims_text : Text → ℕ → ℕ → List ℕ → List ℕ → List ℕ → Text
unfolding texts start_of digits
claims_text s first from starts ends ns =
    texts (claim_text s from starts ends ns) (length ns) ++ between s (start_of 0 from ends (length ns)) first
