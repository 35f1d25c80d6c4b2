-- The text that records are written back as, by their places in the log and the numbers of their verdicts.
-- Assumes nothing.
use Rattle.std.specs.Prelude.{ℕ, ◌/◌, ◌%◌, Bool, cond, List, [], ◌∷◌, ◌++◌, eqb, length, get_or}
use Rattle.reader.specs.Contact.{between}
use Rattle.rules.specs.Fields.{new_mark, duplicate_mark}
use Rattle.rules.specs.Log.{crlf}
use Rattle.rules.specs.Text.{Text, bytes, semicolon}
use Rattle.writer.specs.Written.{texts, start_of}

-- "A verdict is one number for a record: 0 credited, 1 void, 2 duplicate, 3 error, plus 16, 32, 64 for new exchange, square, country."
abbrev pub says_duplicate : ℕ → Bool
says_duplicate n = eqb (n % 16) 2

abbrev pub says_new : ℕ → ℕ → Bool
says_new worth n = eqb (n / worth % 2) 1

-- A field that holds a mark or nothing, behind its semicolon.
unfoldable pub mark_text : Bool → Text → Text
mark_text marked mark = (semicolon ∷ []) ++ cond marked mark []

-- The last four fields, and the line's end: what is new by the record, and whether it is a duplicate.
unfoldable pub marks_text : Bool → Bool → Bool → Bool → Text
unfolding mark_text new_mark duplicate_mark crlf
marks_text exchange square country duplicate =
    mark_text exchange new_mark
    ++ mark_text square new_mark
    ++ mark_text country new_mark
    ++ mark_text duplicate duplicate_mark
    ++ crlf

-- "a duplicate's points become 0"
abbrev pub zero_text : Bool → Text
zero_text duplicate = cond duplicate (bytes "0") []

-- A record is copied up to the end of its points, a duplicate's up to where they begin. New-DXCC is kept on credited records, which are those
-- that a new country is told of by the number.
unfoldable pub record_text : Text → ℕ → ℕ → ℕ → ℕ → Text
unfolding marks_text
record_text s start points pointsend n =
    between s start (cond (says_duplicate n) points pointsend)
    ++ zero_text (says_duplicate n)
    ++ marks_text (says_new 16 n) (says_new 32 n) (says_new 64 n) (says_duplicate n)

-- The record behind so many: CR LF stand between the end of one and the beginning of the next.
abbrev pub numbered_text : Text → ℕ → List ℕ → List ℕ → List ℕ → List ℕ → ℕ → Text
numbered_text s first points pointsends ends numbers i =
    record_text s (start_of 2 first ends i) (get_or points i 0) (get_or pointsends i 0) (get_or numbers i 0)

-- The records, the first of which begins at a place, one behind the other: by where their points begin and end, where they end, and the numbers
-- of their verdicts.
unfoldable pub records_text : Text → ℕ → List ℕ → List ℕ → List ℕ → List ℕ → Text
unfolding texts start_of record_text
records_text s first points pointsends ends numbers =
    texts (numbered_text s first points pointsends ends numbers) (length numbers)
