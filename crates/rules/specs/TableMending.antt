-- The table's cases of the mender (W2).
-- Assumes nothing.
use Rattle.std.specs.Prelude.{ℕ, zero, suc, ◌+◌, ◌-◌, List, [], ◌∷◌, ◌++◌, map, length, set, take, drop, replicate}
use Prim.Native.String.{String}
use Rattle.rules.specs.Text.{Text, bytes}
use Rattle.rules.specs.Cases.{Case, case, texts, mends_to, mends_in, is_mended, leaves_mending}
use Rattle.rules.specs.TableLogs.{lined, text_of, plain, case12_records, case12, empty_log, times}

-- # One text

-- What a text is mended to, and the kind and the line of each thing that was changed.
abbrev text_mends : Text → Text → List ℕ → List Case
text_mends s t done = case (mends_to s) t ∷ case (mends_in s) done ∷ []

abbrev mends : String → String → List ℕ → List Case
mends s t done = text_mends (bytes s) (bytes t) done

-- Nothing is changed in any of these.
abbrev stay : List String → List Case
stay ss = map (λ s. case (mends_to (bytes s)) (bytes s)) ss ++ map (λ s. case (mends_in (bytes s)) []) ss

-- (a) and (b): the ends of lines. A line ends at LF alone; CR is a character like others where it is not the last of its line.
unfoldable pub line_end_cases : List Case
line_end_cases =
    stay ("" ∷ "\r\n" ∷ "x\r\n" ∷ "x\r\r\n" ∷ "\r\r\n" ∷ "x\r\ny\r\n" ∷ "x\r\n\r\n" ∷ "\rx\r\n" ∷ "x\ry\r\n" ∷ [])
    ++ mends "\n" "\r\n" (1 ∷ 1 ∷ [])
    ++ mends "x\n" "x\r\n" (1 ∷ 1 ∷ [])
    ++ mends "xy\n" "xy\r\n" (1 ∷ 1 ∷ [])
    ++ mends "\rx\n" "\rx\r\n" (1 ∷ 1 ∷ [])
    ++ mends "x\ry\n" "x\ry\r\n" (1 ∷ 1 ∷ [])
    ++ mends "\n\n" "\r\n\r\n" (1 ∷ 1 ∷ 1 ∷ 2 ∷ [])
    ++ mends "x\ny\nz\n" "x\r\ny\r\nz\r\n" (1 ∷ 1 ∷ 1 ∷ 2 ∷ 1 ∷ 3 ∷ [])
    ++ mends "x\r\ny\nz\r\n" "x\r\ny\r\nz\r\n" (1 ∷ 2 ∷ [])
    ++ mends "x\n\r\ny\n" "x\r\n\r\ny\r\n" (1 ∷ 1 ∷ 1 ∷ 3 ∷ [])
    -- a last line without LF: with nothing else, with CR, of CR alone; one CR is taken, and another stays
    ++ mends "x" "x\r\n" (2 ∷ 1 ∷ [])
    ++ mends "xy" "xy\r\n" (2 ∷ 1 ∷ [])
    ++ mends "x\r" "x\r\n" (2 ∷ 1 ∷ [])
    ++ mends "\r" "\r\n" (2 ∷ 1 ∷ [])
    ++ mends "\r\r" "\r\r\n" (2 ∷ 1 ∷ [])
    ++ mends "x\r\r" "x\r\r\n" (2 ∷ 1 ∷ [])
    ++ mends "x\ry" "x\ry\r\n" (2 ∷ 1 ∷ [])
    ++ mends "x\r\ny" "x\r\ny\r\n" (2 ∷ 2 ∷ [])
    ++ mends "x\r\n\r" "x\r\n\r\n" (2 ∷ 2 ∷ [])
    ++ mends "\n\r" "\r\n\r\n" (1 ∷ 1 ∷ 2 ∷ 2 ∷ [])
    ++ mends "x\ny\r\nz\n\r" "x\r\ny\r\nz\r\n\r\n" (1 ∷ 1 ∷ 1 ∷ 3 ∷ 2 ∷ 4 ∷ [])
    -- no other character ends a line or is taken with its end, and spaces are not dropped where no line is `[Remarks]`
    ++ text_mends (120 ∷ 9 ∷ 121 ∷ 11 ∷ 122 ∷ 0 ∷ 255 ∷ []) (120 ∷ 9 ∷ 121 ∷ 11 ∷ 122 ∷ 0 ∷ 255 ∷ 13 ∷ 10 ∷ []) (2 ∷ 1 ∷ [])
    ++ text_mends (120 ∷ 12 ∷ 10 ∷ []) (120 ∷ 12 ∷ 13 ∷ 10 ∷ []) (1 ∷ 1 ∷ [])
    ++ text_mends (120 ∷ 14 ∷ 10 ∷ []) (120 ∷ 14 ∷ 13 ∷ 10 ∷ []) (1 ∷ 1 ∷ [])
    ++ mends "x \n" "x \r\n" (1 ∷ 1 ∷ [])
    ++ mends " " " \r\n" (2 ∷ 1 ∷ [])

-- # Record lines

-- Of one record line behind a right count line, which is the third line: what becomes of it, and the kinds and lines.
abbrev record_mends : String → String → List ℕ → List Case
record_mends s t done =
    text_mends (bytes "[Remarks]\r\n[QSORecords;1]\r\n" ++ bytes s) (bytes "[Remarks]\r\n[QSORecords;1]\r\n" ++ bytes t) done

-- (c)
unfoldable pub space_cases : List Case
space_cases =
    record_mends "x\r\n" "x\r\n" []
    ++ record_mends "\r\n" "\r\n" []
    ++ record_mends " x y  z\r\n" " x y  z\r\n" []
    ++ record_mends "x \r\n" "x\r\n" (3 ∷ 3 ∷ [])
    ++ record_mends "x   \r\n" "x\r\n" (3 ∷ 3 ∷ [])
    ++ record_mends " x y  z  \r\n" " x y  z\r\n" (3 ∷ 3 ∷ [])
    ++ record_mends " \r\n" "\r\n" (3 ∷ 3 ∷ [])
    ++ record_mends "   \r\n" "\r\n" (3 ∷ 3 ∷ [])
    -- two things in one line
    ++ record_mends "x  \n" "x\r\n" (1 ∷ 3 ∷ 3 ∷ 3 ∷ [])
    ++ record_mends "  \n" "\r\n" (1 ∷ 3 ∷ 3 ∷ 3 ∷ [])
    ++ record_mends "x  " "x\r\n" (2 ∷ 3 ∷ 3 ∷ 3 ∷ [])
    ++ record_mends "x \r" "x\r\n" (2 ∷ 3 ∷ 3 ∷ 3 ∷ [])
    ++ record_mends " " "\r\n" (2 ∷ 3 ∷ 3 ∷ 3 ∷ [])
    -- spaces in front of a CR that is not taken are not at the end; those behind it are
    ++ record_mends "x \r\r\n" "x \r\r\n" []
    ++ record_mends "x \r \r\n" "x \r\r\n" (3 ∷ 3 ∷ [])
    ++ record_mends "x\r \n" "x\r\r\n" (1 ∷ 3 ∷ 3 ∷ 3 ∷ [])
    -- no other character is dropped
    ++ record_mends "x\t\r\n" "x\t\r\n" []
    ++ record_mends "x \t\r\n" "x \t\r\n" []
    ++ record_mends "x\t \r\n" "x\t\r\n" (3 ∷ 3 ∷ [])
    ++ record_mends "x!\r\n" "x!\r\n" []
    ++ text_mends
    (bytes "[Remarks]\r\n[QSORecords;1]\r\nx" ++ 31 ∷ bytes "\r\n")
    (bytes "[Remarks]\r\n[QSORecords;1]\r\nx" ++ 31 ∷ bytes "\r\n")
    []
    -- in each record line
    ++ mends
    "[Remarks]\r\n[QSORecords;3]\r\nx \r\ny\r\nz  \r\n"
    "[Remarks]\r\n[QSORecords;3]\r\nx\r\ny\r\nz\r\n"
    (3 ∷ 3 ∷ 3 ∷ 5 ∷ [])
    ++ mends
    "[Remarks]\r\n[QSORecords;3]\r\nx \n \r\nz  "
    "[Remarks]\r\n[QSORecords;3]\r\nx\r\n\r\nz\r\n"
    (1 ∷ 3 ∷ 3 ∷ 3 ∷ 3 ∷ 4 ∷ 2 ∷ 5 ∷ 3 ∷ 5 ∷ [])

-- # The count line

-- A count line with these characters between `[QSORecords;` and `]`, and so many lines behind it: the number that is set.
abbrev counts : Text → ℕ → String → List Case
counts digits follow n =
    text_mends
    (bytes "[Remarks]\r\n[QSORecords;" ++ digits ++ bytes "]\r\n" ++ times follow (bytes "x\r\n"))
    (bytes "[Remarks]\r\n[QSORecords;" ++ bytes n ++ bytes "]\r\n" ++ times follow (bytes "x\r\n"))
    (4 ∷ 2 ∷ [])

-- This line behind `[Remarks]`, and a record line with this end.
abbrev counted_by : String → String → Text
counted_by l end = bytes "[Remarks]\r\n" ++ bytes l ++ bytes "\r\nx" ++ bytes end

-- Count lines whose count is not mended: the spaces at the end of a record line are dropped all the same.
abbrev not_counted : List String → List Case
not_counted ls =
    map (λ l. case (mends_to (counted_by l " \r\n")) (counted_by l "\r\n")) ls
    ++ map (λ l. case (mends_in (counted_by l " \r\n")) (3 ∷ 3 ∷ [])) ls

-- (d)
unfoldable pub count_cases : List Case
unfolding times
count_cases =
    stay ("[Remarks]\r\n[QSORecords;0]\r\n" ∷ "[Remarks]\r\n[QSORecords;1]\r\nx\r\n" ∷ "[Remarks]\r\n[QSORecords;2]\r\nx\r\n\r\n" ∷ "[Remarks]\r\n[QSORecords;10]\r\na\r\nb\r\nc\r\nd\r\ne\r\nf\r\ng\r\nh\r\ni\r\nj\r\n" ∷ [])
    ++ counts (bytes "0") 1 "1"
    ++ counts (bytes "1") 0 "0"
    ++ counts (bytes "9") 3 "3"
    ++ counts (bytes "1000") 2 "2"
    ++ counts (bytes "1") 12 "12"
    ++ counts (bytes "12") 1 "1"
    ++ counts (bytes "21") 12 "12"
    ++ counts (bytes "01") 1 "1"
    ++ counts (bytes "00") 0 "0"
    ++ counts (bytes "005") 5 "5"
    ++ counts (bytes "1234567890") 5 "5"
    ++ counts (replicate 100 57) 2 "2"
    ++ counts (replicate 100 48) 0 "0"
    ++ counts (bytes "5") 103 "103"
    -- blank lines follow too, and one without LF
    ++ mends "[Remarks]\r\n[QSORecords;1]\r\nx\r\n\r\n" "[Remarks]\r\n[QSORecords;2]\r\nx\r\n\r\n" (4 ∷ 2 ∷ [])
    ++ mends "[Remarks]\r\n[QSORecords;1]\r\n\n \n" "[Remarks]\r\n[QSORecords;2]\r\n\r\n\r\n" (4 ∷ 2 ∷ 1 ∷ 3 ∷ 1 ∷ 4 ∷ 3 ∷ 4 ∷ [])
    ++ mends "[Remarks]\r\n[QSORecords;1]\r\nx\r\ny" "[Remarks]\r\n[QSORecords;2]\r\nx\r\ny\r\n" (4 ∷ 2 ∷ 2 ∷ 4 ∷ [])
    ++ mends "[Remarks]\r\n[QSORecords;1]\r\nx\r\n\r" "[Remarks]\r\n[QSORecords;2]\r\nx\r\n\r\n" (4 ∷ 2 ∷ 2 ∷ 4 ∷ [])
    -- two things in the count line
    ++ mends "[Remarks]\r\n[QSORecords;1]\n" "[Remarks]\r\n[QSORecords;0]\r\n" (1 ∷ 2 ∷ 4 ∷ 2 ∷ [])
    ++ mends "[Remarks]\r\n[QSORecords;1]" "[Remarks]\r\n[QSORecords;0]\r\n" (2 ∷ 2 ∷ 4 ∷ 2 ∷ [])
    ++ mends "[Remarks]\r\n[QSORecords;1]\r" "[Remarks]\r\n[QSORecords;0]\r\n" (2 ∷ 2 ∷ 4 ∷ 2 ∷ [])
    ++ mends "[Remarks]\r\n[QSORecords;0]" "[Remarks]\r\n[QSORecords;0]\r\n" (2 ∷ 2 ∷ [])
    ++ mends "[Remarks]\r\n[QSORecords;0]\n" "[Remarks]\r\n[QSORecords;0]\r\n" (1 ∷ 2 ∷ [])
    -- not one or more digits between `[QSORecords;` and `]`
    ++ not_counted
    ("[QSORecords;]"
    ∷ "[QSORecords;x]"
    ∷ "[QSORecords;5x]"
    ∷ "[QSORecords;x5]"
    ∷ "[QSORecords;5x5]"
    ∷ "[QSORecords; 5]"
    ∷ "[QSORecords;5 ]"
    ∷ "[QSORecords;-5]"
    ∷ "[QSORecords;/]"
    ∷ "[QSORecords;:]"
    ∷ "[QSORecords;5;]"
    ∷ "[QSORecords;5] "
    ∷ "[QSORecords;5]x"
    ∷ "[QSORecords;5]]"
    ∷ "[QSORecords;]5]"
    ∷ "[QSORecords;5}"
    ∷ "[QSORecords;5"
    ∷ "[QSORecords;"
    ∷ "[QSORecords;[QSORecords;5]"
    ∷ "[QSORecords;5\r]"
    ∷ "[QSORecords;5]\r"
    ∷ [])

-- # Where a line lies

unfoldable pub place_cases : List Case
place_cases =
    -- no line is `[Remarks]`
    stay
    ("[QSORecords;9]\r\nx \r\n"
    ∷ "[Remarks] \r\n[QSORecords;9]\r\nx \r\n"
    ∷ " [Remarks]\r\n[QSORecords;9]\r\nx \r\n"
    ∷ "[Remarks]x\r\n[QSORecords;9]\r\nx \r\n"
    ∷ "[Remarks\r\n[QSORecords;9]\r\nx \r\n"
    ∷ "[remarks]\r\n[QSORecords;9]\r\nx \r\n"
    ∷ "[Remarks]\r\r\n[QSORecords;9]\r\nx \r\n"
    ∷ "\r\n[QSORecords;9]\r\nx \r\n"
    -- `[QSORecords;` stands in front of `[Remarks]` alone
    ∷ "[QSORecords;9]\r\n[Remarks]\r\nx \r\n"
    ∷ "[QSORecords;9]\r\nx \r\n[Remarks]\r\n"
    -- no line behind it begins so
    ∷ "[Remarks]\r\n[QSORecords5]\r\nx \r\n"
    ∷ "[Remarks]\r\n[qsorecords;5]\r\nx \r\n"
    ∷ "[Remarks]\r\n [QSORecords;5]\r\nx \r\n"
    ∷ "[Remarks]\r\nx \r\n"
    -- spaces in front of the count line, and at the end of it
    ∷ "TName=x \r\n[Remarks]\r\n \r\nx \r\n[QSORecords;0]\r\n"
    ∷ "x [QSORecords;5]\r\n[Remarks]\r\nx[QSORecords;5]\r\n[QSORecords;1] \r\nx\r\n"
    ∷ [])
    ++ mends "[Remarks]" "[Remarks]\r\n" (2 ∷ 1 ∷ [])
    -- the line `[Remarks]` has lost its CR, and so has the count line
    ++ mends "[Remarks]\n[QSORecords;9]\nx \n" "[Remarks]\r\n[QSORecords;1]\r\nx\r\n" (1 ∷ 1 ∷ 1 ∷ 2 ∷ 4 ∷ 2 ∷ 1 ∷ 3 ∷ 3 ∷ 3 ∷ [])
    -- remarks stand between
    ++ mends
    "x \r\n[Remarks]\r\ny \r\n \r\n[QSORecords;9]\r\nz \r\n"
    "x \r\n[Remarks]\r\ny \r\n \r\n[QSORecords;1]\r\nz\r\n"
    (4 ∷ 5 ∷ 3 ∷ 6 ∷ [])
    -- `[QSORecords;` in front of `[Remarks]` and behind it
    ++ mends
    "[QSORecords;9]\r\n[Remarks]\r\n[QSORecords;9]\r\nx \r\n"
    "[QSORecords;9]\r\n[Remarks]\r\n[QSORecords;1]\r\nx\r\n"
    (4 ∷ 3 ∷ 3 ∷ 4 ∷ [])
    -- `[Remarks]` among the remarks, and among the records
    ++ mends
    "[Remarks]\r\n[Remarks]\r\nx \r\n[Remarks] \r\n[QSORecords;9]\r\nx \r\n"
    "[Remarks]\r\n[Remarks]\r\nx \r\n[Remarks] \r\n[QSORecords;1]\r\nx\r\n"
    (4 ∷ 5 ∷ 3 ∷ 6 ∷ [])
    ++ mends
    "[Remarks]\r\n[QSORecords;9]\r\n[Remarks]\r\nx \r\n[QSORecords;9]\r\ny \r\n"
    "[Remarks]\r\n[QSORecords;4]\r\n[Remarks]\r\nx\r\n[QSORecords;9]\r\ny\r\n"
    (4 ∷ 2 ∷ 3 ∷ 4 ∷ 3 ∷ 6 ∷ [])
    -- a second line that begins `[QSORecords;` is a record line
    ++ mends
    "[Remarks]\r\n[QSORecords;9]\r\n[QSORecords;9] \r\n[QSORecords;9]\r\n"
    "[Remarks]\r\n[QSORecords;2]\r\n[QSORecords;9]\r\n[QSORecords;9]\r\n"
    (4 ∷ 2 ∷ 3 ∷ 3 ∷ [])
    ++ mends
    "[Remarks]\r\n[QSORecords;]\r\n[QSORecords;9]\r\nx \r\n"
    "[Remarks]\r\n[QSORecords;]\r\n[QSORecords;9]\r\nx\r\n"
    (3 ∷ 4 ∷ [])

-- # Whole logs

-- The lines of case 12, 44 of them; the text of lines that all end with LF alone.
abbrev case12_lines : List Text
case12_lines = plain ++ texts case12_records

unfoldable pub lined_by_lf : List Text → Text
lined_by_lf [] = []
lined_by_lf (l ∷ ls) = l ++ 10 ∷ lined_by_lf ls

-- The log of case 12 with another text for one of its lines, the first of which is 1; and so many of its first lines.
abbrev case12_with : ℕ → String → Text
case12_with n s = lined (set case12_lines (n - 1) (bytes s))

abbrev first : ℕ → List Text
first n = take n case12_lines

-- One kind in so many lines from this one on.
unfoldable pub each : ℕ → ℕ → ℕ → List ℕ
each kind line zero = []
each kind line (suc n) = kind ∷ line ∷ each kind (line + 1) n

-- It is mended to the log of case 12, with this list, where each slice has just the room.
abbrev is_case12 : List ℕ → ℕ → Text → Case
is_case12 done n s = case (is_mended (length case12) n n s) (0 ∷ 0 ∷ 0 ∷ done ++ case12)

-- The four kinds in the log of case 12: lines 1 and 42 have lost their CR, the count is 7, records have spaces, and the last line is open.
unfoldable pub chewed_case12 : Text
unfolding lined plain case12_records
chewed_case12 =
    bytes "[REG1TEST;1]\n"
    ++ lined (drop 1 (take 38 plain))
    ++ bytes
    "[QSORecords;7]\r\n240302;1401;DK1AA;1;59;001;59;004;;JO40AA;120;;N;N;\r\n240302;1405;OZ1BB;1;59;002;59;010;;JO40BC;80;;;N;  \r\n240302;1410;ERROR;;;003;;;;;0;;;; \n240302;1412;DK1AA;2;599;004;599;009;;JO40AA;120;;;;\r\n240302;1420;SM5CC;1;53;005;;;;;0;;;; "

abbrev chewed_done : List ℕ
chewed_done = 1 ∷ 1 ∷ 4 ∷ 39 ∷ 3 ∷ 41 ∷ 1 ∷ 42 ∷ 3 ∷ 42 ∷ 2 ∷ 44 ∷ 3 ∷ 44 ∷ []

unfoldable pub mended_cases : List Case
unfolding case12 lined lined_by_lf each chewed_case12 empty_log plain case12_records
mended_cases =
    -- accepted logs
    is_case12 [] 0 case12
    ∷ case (is_mended (length empty_log) 0 0 empty_log) (0 ∷ 0 ∷ 0 ∷ empty_log)
    -- each kind alone: in one line, in all lines
    ∷ is_case12 (1 ∷ 5 ∷ []) 1 (lined (first 4) ++ bytes "PWWLo=JO65FR\n" ++ lined (drop 5 case12_lines))
    ∷ is_case12 (each 1 1 44) 44 (lined_by_lf case12_lines)
    ∷ is_case12 (each 1 1 38) 38 (lined_by_lf (first 38) ++ lined (drop 38 case12_lines))
    ∷ is_case12 (2 ∷ 44 ∷ []) 1 (take (length case12 - 1) case12)
    ∷ is_case12 (2 ∷ 44 ∷ []) 1 (take (length case12 - 2) case12)
    ∷ is_case12 (3 ∷ 42 ∷ []) 1 (case12_with 42 "240302;1410;ERROR;;;003;;;;;0;;;;   ")
    ∷ is_case12 (4 ∷ 39 ∷ []) 1 (case12_with 39 "[QSORecords;0]")
    ∷ is_case12 (4 ∷ 39 ∷ []) 1 (case12_with 39 "[QSORecords;005]")
    ∷ is_case12 (4 ∷ 39 ∷ []) 1 (case12_with 39 "[QSORecords;1000]")
    -- and all four
    ∷ is_case12 chewed_done 7 chewed_case12
    ∷ []

-- # Refusals

-- Nothing is handed over, whatever room there is.
abbrev unmended_by : ℕ → ℕ → ℕ → Text → Case
unmended_by number line field s = case (is_mended 70000 999 999 s) (number ∷ line ∷ field ∷ [])

-- The reader's number for the mended log.
unfoldable pub mending_refused_cases : List Case
unfolding case12 lined text_of plain times case12_records
mending_refused_cases =
    unmended_by 2 1 0 []
    ∷ unmended_by 3 1 0 (bytes "\n")
    ∷ unmended_by 3 1 0 (bytes "x")
    ∷ unmended_by 2 1 0 (bytes "[REG1TEST;1]\r\r\n")
    ∷ unmended_by 2 2 0 (bytes "[REG1TEST;1]")
    ∷ unmended_by 2 5 0 (case12_with 5 "PWWLo=JO65FR\r")
    ∷ unmended_by 2 5 0 (case12_with 5 "PWWLo=\rJO65FR")
    ∷ unmended_by 4 5 0 (case12_with 5 "PWWLo=JO65FR ")
    ∷ unmended_by 3 38 0 (case12_with 38 "[Remarks] ")
    ∷ unmended_by 4 39 0 (case12_with 39 "[QSORecords;]")
    ∷ unmended_by 4 39 0 (case12_with 39 "[QSORecords;x]")
    ∷ unmended_by 4 39 0 (case12_with 39 "[QSORecords;5] ")
    ∷ unmended_by 4 39 0 (case12_with 39 "[QSORecords;05] ")
    ∷ unmended_by 5 42 0 (case12_with 42 "   ")
    ∷ unmended_by 5 42 3 (case12_with 42 "240302;1410;OZ;;;003;;;;;0;;;;  ")
    ∷ unmended_by 5 45 0 (case12 ++ bytes "\r\n")
    ∷ unmended_by 5 45 0 (case12 ++ bytes "\n")
    ∷ unmended_by 5 45 0 (case12 ++ bytes "\r")
    ∷ unmended_by 5 45 0 (case12 ++ bytes " ")
    ∷ unmended_by 4 39 0 (text_of plain ("[QSORecords;0]" ∷ []) ++ times 1000 (bytes "\n"))
    -- before 10 and 8
    ∷ case (is_mended 0 0 0 (bytes "x")) (3 ∷ 1 ∷ 0 ∷ [])
    ∷ case (is_mended 0 0 0 []) (2 ∷ 1 ∷ 0 ∷ [])
    ∷ []

unfoldable pub mending_room_cases : List Case
unfolding case12 chewed_case12 empty_log
mending_room_cases =
    -- 10, for either slice, on both sides of what is needed, and before 8
    case (is_mended (length case12) 6 7 chewed_case12) (10 ∷ 0 ∷ 0 ∷ [])
    ∷ case (is_mended (length case12) 7 6 chewed_case12) (10 ∷ 0 ∷ 0 ∷ [])
    ∷ case (is_mended (length case12) 6 8 chewed_case12) (10 ∷ 0 ∷ 0 ∷ [])
    ∷ case (is_mended (length case12) 99 0 chewed_case12) (10 ∷ 0 ∷ 0 ∷ [])
    ∷ case (is_mended (length case12) 0 0 chewed_case12) (10 ∷ 0 ∷ 0 ∷ [])
    ∷ case (is_mended 0 6 7 chewed_case12) (10 ∷ 0 ∷ 0 ∷ [])
    ∷ case (is_mended 0 7 6 chewed_case12) (10 ∷ 0 ∷ 0 ∷ [])
    ∷ case (is_mended 70000 8 900 chewed_case12) (0 ∷ 0 ∷ 0 ∷ chewed_done ++ case12)
    -- 8
    ∷ case (is_mended (length case12 - 1) 7 7 chewed_case12) (8 ∷ 0 ∷ 0 ∷ [])
    ∷ case (is_mended (length case12 - 1) 0 0 case12) (8 ∷ 0 ∷ 0 ∷ [])
    ∷ case (is_mended (length case12 - 1) 0 0 (case12 ++ bytes "x")) (5 ∷ 45 ∷ 0 ∷ [])
    ∷ case (is_mended 0 0 0 empty_log) (8 ∷ 0 ∷ 0 ∷ [])
    -- what the slices hold afterwards: the mended log and the list at their fronts and the rest as it was, or all as it was
    ∷ case
    (leaves_mending (replicate (length case12) 200 ++ 201 ∷ 202 ∷ []) (replicate 9 210) (replicate 7 220 ++ 221 ∷ []) chewed_case12)
    (case12 ++ 201 ∷ 202 ∷ 1 ∷ 4 ∷ 3 ∷ 1 ∷ 3 ∷ 2 ∷ 3 ∷ 210 ∷ 210 ∷ 1 ∷ 39 ∷ 41 ∷ 42 ∷ 42 ∷ 44 ∷ 44 ∷ 221 ∷ [])
    ∷ case
    (leaves_mending (replicate (length case12) 200) (210 ∷ []) (220 ∷ 221 ∷ []) case12)
    (case12 ++ 210 ∷ 220 ∷ 221 ∷ [])
    ∷ case
    (leaves_mending (replicate (length case12) 200) (replicate 6 210) (replicate 7 220) chewed_case12)
    (replicate (length case12) 200 ++ replicate 6 210 ++ replicate 7 220)
    ∷ case
    (leaves_mending (replicate (length case12 - 1) 200) (replicate 7 210) (replicate 7 220) chewed_case12)
    (replicate (length case12 - 1) 200 ++ replicate 7 210 ++ replicate 7 220)
    ∷ case (leaves_mending (201 ∷ 202 ∷ []) (210 ∷ []) (220 ∷ 221 ∷ []) (bytes "x")) (201 ∷ 202 ∷ 210 ∷ 220 ∷ 221 ∷ [])
    ∷ []

-- The limit of 65,535 bytes: an input that is over it is refused, though its mended log would not be; one that is not is refused where its mended
-- log is.
abbrev spaces_behind : ℕ → Text
spaces_behind n = take (length case12 - 2) case12 ++ replicate n 32

unfoldable pub mending_limit_cases : List Case
unfolding case12
mending_limit_cases =
    is_case12 (2 ∷ 44 ∷ 3 ∷ 44 ∷ []) 2 (spaces_behind (65535 - (length case12 - 2)))
    ∷ unmended_by 1 0 0 (spaces_behind (65536 - (length case12 - 2)))
    ∷ case (is_mended 0 0 0 (replicate 65536 65)) (1 ∷ 0 ∷ 0 ∷ [])
    ∷ unmended_by 1 0 0 (replicate 65534 65 ++ 10 ∷ [])
    ∷ []
