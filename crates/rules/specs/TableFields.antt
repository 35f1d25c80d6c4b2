-- The table's cases of the fifteen fields of a record, and of the calendar.
-- Assumes nothing.
use Rattle.std.specs.Prelude.{ℕ, ◌-◌, List, [], ◌∷◌, ◌++◌, map, set}
use Prim.Native.String.{String}
use Rattle.rules.specs.Text.{Text, bytes, parts, joined}
use Rattle.rules.specs.Cases.{Case, case, ask, texts, varied, is_year, has_day, is_record}

-- A record and an ERROR record that keep every rule, and one of them with another text in a field, 1 to 15.
unfoldable pub sample_record : Text
sample_record = bytes "240302;1401;DK1AA;1;59;001;59;004;;JO40AA;120;;N;N;"

unfoldable pub error_record : Text
error_record = bytes "240302;1410;ERROR;;;003;;;;;0;;;;"

unfoldable pub with_field : Text → ℕ → Text → Text
unfolding joined parts
with_field line n t = joined (set (parts line) (n - 1) t)

-- Fields of which the record is taken, and fields for which it is refused: 5, and the field's number.
abbrev fits_text : Text → ℕ → List Text → List Case
fits_text line n ts = ask (λ t. is_record (with_field line n t)) (0 ∷ []) ts

abbrev breaks_text : Text → ℕ → List Text → List Case
breaks_text line n ts = ask (λ t. is_record (with_field line n t)) (5 ∷ n ∷ []) ts

abbrev fits : Text → ℕ → List String → List Case
fits line n ss = fits_text line n (texts ss)

abbrev breaks_at : Text → ℕ → List String → List Case
breaks_at line n ss = breaks_text line n (texts ss)

-- The same of a field with each of these characters at each of these places.
abbrev fits_with : ℕ → String → List ℕ → List ℕ → List Case
fits_with n s places codes = fits_text sample_record n (varied (bytes s) places codes)

abbrev breaks_with : ℕ → String → List ℕ → List ℕ → List Case
breaks_with n s places codes = breaks_text sample_record n (varied (bytes s) places codes)

-- The fifteen fields, and what an ERROR record may do (cases 5 to 10).
unfoldable pub field_cases : List Case
unfolding sample_record error_record with_field
field_cases =
    fits sample_record 1 ("240229" ∷ "000229" ∷ "891231" ∷ "900101" ∷ "991231" ∷ "240131" ∷ "240331" ∷ "240430" ∷ "240531" ∷ "240630" ∷ "240731" ∷ "240831" ∷ "240930" ∷ "241031" ∷ "241130" ∷ "241231" ∷ [])
    ++ breaks_at sample_record 1 ("230229" ∷ "" ∷ "24022" ∷ "2402299" ∷ "24022A" ∷ "240001" ∷ "241301" ∷ "240100" ∷ "240132" ∷ "240230" ∷ "240332" ∷ "240431" ∷ "240532" ∷ "240631" ∷ "240732" ∷ "240832" ∷ "240931" ∷ "241032" ∷ "241131" ∷ "241232" ∷ "90 101" ∷ "890229" ∷ "900229" ∷ [])
    ++ fits sample_record 2 ("0000" ∷ "2359" ∷ "1200" ∷ "0959" ∷ [])
    -- more characters than there may be, of which the last write a day, a minute or a square all the same
    ++ breaks_at sample_record 1 ("2403002" ∷ "24030002" ∷ [])
    ++ breaks_at sample_record 2 ("14001" ∷ "140001" ∷ [])
    ++ breaks_at sample_record 10 ("JO40AAAA" ∷ "JO40AAAAAA" ∷ [])
    ++ breaks_at sample_record 2 ("2400" ∷ "" ∷ "2360" ∷ "235" ∷ "23599" ∷ "1260" ∷ "12A0" ∷ "2 00" ∷ [])
    ++ fits sample_record 3 ("DK1" ∷ "ABCDEFGHIJKLMN" ∷ "DK1AA/P" ∷ [])
    ++ breaks_at sample_record 3 ("DK" ∷ "" ∷ "ABCDEFGHIJKLMNO" ∷ "dk1aa" ∷ "DK-1A" ∷ "DK 1A" ∷ [])
    ++ fits sample_record 4 ("" ∷ "0" ∷ "9" ∷ [])
    ++ breaks_at sample_record 4 ("10" ∷ "A" ∷ " " ∷ [])
    ++ fits sample_record 5 ("" ∷ "59" ∷ "599" ∷ "59A" ∷ "00Z" ∷ [])
    ++ breaks_at sample_record 5 ("5" ∷ "5999" ∷ "5A" ∷ "A9" ∷ "59a" ∷ "59 " ∷ "5A9" ∷ [])
    ++ fits sample_record 6 ("" ∷ "000" ∷ "001" ∷ "9999" ∷ "0001" ∷ [])
    ++ breaks_at sample_record 6 ("1" ∷ "01" ∷ "00001" ∷ "0 1" ∷ "A01" ∷ [])
    ++ fits sample_record 7 ("" ∷ "59" ∷ "599" ∷ "59A" ∷ [])
    ++ breaks_at sample_record 7 ("5" ∷ "5999" ∷ "5A" ∷ "59a" ∷ [])
    ++ fits sample_record 8 ("" ∷ "004" ∷ "9999" ∷ [])
    ++ breaks_at sample_record 8 ("4" ∷ "04" ∷ "00004" ∷ "A04" ∷ [])
    ++ fits sample_record 9 ("" ∷ "ABC123" ∷ "1 2" ∷ "DOK" ∷ [])
    ++ breaks_at sample_record 9 ("ABC1234" ∷ "abc" ∷ "Ab" ∷ [])
    ++ fits sample_record 10 ("" ∷ "JO65" ∷ "JO65FR" ∷ "RR99XX" ∷ [])
    ++ breaks_at sample_record 10 ("JS65" ∷ "JO6" ∷ "JO65F" ∷ "JO65FY" ∷ "JO65FRA" ∷ "SO65" ∷ "J065" ∷ [])
    ++ fits sample_record 11 ("0" ∷ "7" ∷ "999999" ∷ [])
    ++ breaks_at sample_record 11 ("007" ∷ "" ∷ "00" ∷ "1000000" ∷ "12a" ∷ "-1" ∷ "1 " ∷ [])
    ++ fits sample_record 12 ("" ∷ "N" ∷ [])
    ++ breaks_at sample_record 12 ("n" ∷ "NN" ∷ "D" ∷ " " ∷ [])
    ++ fits sample_record 13 ("" ∷ "N" ∷ [])
    ++ breaks_at sample_record 13 ("n" ∷ "NN" ∷ "D" ∷ [])
    ++ fits sample_record 14 ("" ∷ "N" ∷ [])
    ++ breaks_at sample_record 14 ("n" ∷ "NN" ∷ "D" ∷ [])
    ++ fits sample_record 15 ("" ∷ "D" ∷ [])
    ++ breaks_at sample_record 15 ("d" ∷ "DD" ∷ "N" ∷ " " ∷ [])
    ++ fits error_record 1 ("" ∷ "240302" ∷ [])
    ++ breaks_at error_record 1 ("230229" ∷ "2" ∷ [])
    ++ breaks_at error_record 2 ("" ∷ [])
    ++ fits error_record 11 ("0" ∷ [])
    ++ breaks_at error_record 11 ("1" ∷ "" ∷ "00" ∷ [])
    ++ breaks_at (with_field sample_record 3 (bytes "ERRORS")) 1 ("" ∷ [])
    ++ breaks_at (with_field sample_record 3 (bytes "ERROR/P")) 1 ("" ∷ [])
    ++ fits (with_field sample_record 3 (bytes "ERROR/P")) 11 ("5" ∷ [])
    -- no other call is ERROR, however near: with it a date is due, and points are free
    ++ breaks_at (with_field sample_record 3 (bytes "ERRO")) 1 ("" ∷ [])
    ++ breaks_at (with_field sample_record 3 (bytes "ERROP")) 1 ("" ∷ [])
    ++ breaks_at (with_field sample_record 3 (bytes "1ERROR")) 1 ("" ∷ [])
    ++ fits (with_field sample_record 11 (bytes "5")) 3 ("ERRO" ∷ "ERROP" ∷ "ERRORS" ∷ "ERROR1" ∷ "/ERROR" ∷ "AERROR" ∷ [])
    ++ breaks_text (with_field sample_record 3 (bytes "ERROR")) 11 (texts ("120" ∷ "5" ∷ []))
    -- two errors in one line: the first field is told, and a wrong number of semicolons before any field
    ++ breaks_at (with_field sample_record 2 (bytes "2400")) 1 ("230229" ∷ [])
    ++ ask is_record (5 ∷ 2 ∷ []) (with_field (with_field sample_record 15 (bytes "X")) 2 (bytes "2400") ∷ [])
    ++ ask is_record (5 ∷ 1 ∷ []) (with_field (with_field sample_record 1 []) 3 (bytes "DK") ∷ [])
    ++ ask is_record (5 ∷ 0 ∷ [])
    (texts
    (""
    ∷ ";;;;;;;;;;;;;"
    ∷ ";;;;;;;;;;;;;;;"
    ∷ "230229;2400;DK"
    ∷ "240302;1401;DK1AA;1;59;001;59;004;;JO40AA;120;;N;N"
    ∷ "240302;1401;DK1AA;1;59;001;59;004;;JO40AA;120;;N;N;;"
    ∷ []))
    ++ ask is_record (5 ∷ 1 ∷ []) (texts (";;;;;;;;;;;;;;" ∷ []))

-- The characters just outside each kind, on both sides and at each place of each field, and the first and the last of each kind.
unfoldable pub field_character_cases : List Case
unfolding varied sample_record with_field
field_character_cases =
    breaks_with 1 "240302" (0 ∷ 1 ∷ 2 ∷ 3 ∷ 4 ∷ 5 ∷ []) (47 ∷ 58 ∷ [])
    ++ breaks_with 2 "1401" (0 ∷ 1 ∷ 2 ∷ 3 ∷ []) (47 ∷ 58 ∷ [])
    ++ fits_with 3 "DK1AA" (0 ∷ 1 ∷ 2 ∷ 3 ∷ 4 ∷ []) (47 ∷ 48 ∷ 57 ∷ 65 ∷ 90 ∷ [])
    ++ breaks_with 3 "DK1AA" (0 ∷ 1 ∷ 2 ∷ 3 ∷ 4 ∷ []) (46 ∷ 58 ∷ 64 ∷ 91 ∷ 97 ∷ [])
    ++ fits_with 4 "1" (0 ∷ []) (48 ∷ 57 ∷ [])
    ++ breaks_with 4 "1" (0 ∷ []) (47 ∷ 58 ∷ [])
    ++ breaks_with 5 "59" (0 ∷ 1 ∷ []) (47 ∷ 58 ∷ 65 ∷ [])
    ++ breaks_with 5 "599" (0 ∷ 1 ∷ []) (47 ∷ 58 ∷ 65 ∷ [])
    ++ fits_with 5 "599" (2 ∷ []) (48 ∷ 57 ∷ 65 ∷ 90 ∷ [])
    ++ breaks_with 5 "599" (2 ∷ []) (47 ∷ 58 ∷ 64 ∷ 91 ∷ 97 ∷ [])
    ++ breaks_with 6 "001" (0 ∷ 1 ∷ 2 ∷ []) (47 ∷ 58 ∷ [])
    ++ breaks_with 6 "0014" (0 ∷ 1 ∷ 2 ∷ 3 ∷ []) (47 ∷ 58 ∷ [])
    ++ breaks_with 7 "59" (0 ∷ 1 ∷ []) (47 ∷ 58 ∷ 65 ∷ [])
    ++ breaks_with 7 "599" (0 ∷ 1 ∷ []) (47 ∷ 58 ∷ 65 ∷ [])
    ++ fits_with 7 "599" (2 ∷ []) (48 ∷ 57 ∷ 65 ∷ 90 ∷ [])
    ++ breaks_with 7 "599" (2 ∷ []) (47 ∷ 58 ∷ 64 ∷ 91 ∷ 97 ∷ [])
    ++ breaks_with 8 "001" (0 ∷ 1 ∷ 2 ∷ []) (47 ∷ 58 ∷ [])
    ++ breaks_with 8 "0014" (0 ∷ 1 ∷ 2 ∷ 3 ∷ []) (47 ∷ 58 ∷ [])
    ++ fits_with 9 "ABC123" (0 ∷ 5 ∷ []) (32 ∷ 58 ∷ 60 ∷ 96 ∷ 123 ∷ 127 ∷ [])
    ++ breaks_with 9 "ABC123" (0 ∷ 5 ∷ []) (31 ∷ 97 ∷ 122 ∷ 128 ∷ [])
    ++ fits_with 10 "JO40AA" (0 ∷ 1 ∷ []) (65 ∷ 82 ∷ [])
    ++ fits_with 10 "JO40AA" (2 ∷ 3 ∷ []) (48 ∷ 57 ∷ [])
    ++ fits_with 10 "JO40AA" (4 ∷ 5 ∷ []) (65 ∷ 88 ∷ [])
    ++ breaks_with 10 "JO40AA" (0 ∷ 1 ∷ []) (64 ∷ 83 ∷ [])
    ++ breaks_with 10 "JO40AA" (2 ∷ 3 ∷ []) (47 ∷ 58 ∷ [])
    ++ breaks_with 10 "JO40AA" (4 ∷ 5 ∷ []) (64 ∷ 89 ∷ [])
    ++ breaks_with 11 "120" (0 ∷ 1 ∷ 2 ∷ []) (47 ∷ 58 ∷ [])
    ++ breaks_with 12 "N" (0 ∷ []) (77 ∷ 79 ∷ [])
    ++ breaks_with 13 "N" (0 ∷ []) (77 ∷ 79 ∷ [])
    ++ breaks_with 14 "N" (0 ∷ []) (77 ∷ 79 ∷ [])
    ++ breaks_with 15 "D" (0 ∷ []) (67 ∷ 69 ∷ [])

-- "years 90-99 as 1990s, 00-89 as 2000s", and the 29th of February, in these years and in centuries around them.
unfoldable pub calendar_cases : List Case
unfolding sample_record with_field
calendar_cases =
    case (is_year 90) (1990 ∷ [])
    ∷ case (is_year 99) (1999 ∷ [])
    ∷ case (is_year 0) (2000 ∷ [])
    ∷ case (is_year 89) (2089 ∷ [])
    ∷ map (λ year. case (has_day year 2 29) (1 ∷ [])) (1992 ∷ 1996 ∷ 2000 ∷ 2004 ∷ 2012 ∷ 2036 ∷ 2088 ∷ 2400 ∷ [])
    ++ map (λ year. case (has_day year 2 29) (0 ∷ [])) (1990 ∷ 1994 ∷ 1999 ∷ 2001 ∷ 2002 ∷ 2010 ∷ 2089 ∷ 1900 ∷ 2100 ∷ 2200 ∷ [])
    ++ map (λ month. case (has_day 2024 month 1) (1 ∷ [])) (1 ∷ 2 ∷ 12 ∷ [])
    ++ map (λ month. case (has_day 2024 month 1) (0 ∷ [])) (0 ∷ 13 ∷ 14 ∷ [])
    ++ map (λ month. case (has_day 2024 month 0) (0 ∷ [])) (1 ∷ 2 ∷ 12 ∷ [])
    ++ fits sample_record 1
    ("920229"
    ∷ "960229"
    ∷ "000229"
    ∷ "040229"
    ∷ "080229"
    ∷ "120229"
    ∷ "160229"
    ∷ "200229"
    ∷ "360229"
    ∷ "600229"
    ∷ "840229"
    ∷ "880229"
    ∷ [])
    ++ breaks_at sample_record 1
    ("900229"
    ∷ "910229"
    ∷ "930229"
    ∷ "940229"
    ∷ "980229"
    ∷ "990229"
    ∷ "010229"
    ∷ "020229"
    ∷ "030229"
    ∷ "060229"
    ∷ "100229"
    ∷ "180229"
    ∷ "500229"
    ∷ "890229"
    ∷ "920230"
    ∷ "000230"
    ∷ [])
