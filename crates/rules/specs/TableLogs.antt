-- The table's cases of whole logs.
-- Assumes nothing.
use Rattle.std.specs.Prelude.{ℕ, zero, suc, ◌-◌, ◌+◌, ◌*◌, true, false, ◌||◌, List, [], ◌∷◌, ◌++◌, map, eqb, length, set, take, drop, replicate}
use Prim.Native.String.{String}
use Rattle.rules.specs.Text.{Text, bytes, parts}
use Rattle.rules.specs.Fields.{qso_of}
use Rattle.rules.specs.Log.{Log}
use Rattle.rules.specs.Striking.{Places}
use Rattle.rules.specs.TableArguments.{turned}
use Rattle.rules.specs.Cases.{Case, case, texts, is_read, respells, spells_as_listed, is_log, is_valid_with, is_judged, comes_to, comes_by, is_shown, is_written, leaves_judging, leaves_writing, is_unclaimed, is_viewed, is_struck, is_written_and_struck, is_struck_to, is_worth, comes_to_stand, strikes_out, leaves_striking}

-- The text of these lines. The table puts its lines together itself, and rests on no definition that it asks about.
unfoldable pub lined : List Text → Text
lined [] = []
lined (l ∷ ls) = l ++ 13 ∷ 10 ∷ lined ls

-- Each of the names and what stands behind it.
unfoldable pub named : List String → List String → List Text
named [] ss = []
named (name ∷ names) [] = []
named (name ∷ names) (s ∷ ss) = (bytes name ++ bytes s) ∷ named names ss

-- The lines of the nine claims with these arguments.
unfoldable pub claiming : List String → List Text
unfolding named
claiming ss =
    named
    ("CQSOs="
    ∷ "CQSOP="
    ∷ "CWWLs="
    ∷ "CWWLB="
    ∷ "CExcs="
    ∷ "CExcB="
    ∷ "CDXCs="
    ∷ "CDXCB="
    ∷ "CToSc="
    ∷ [])
    ss

-- A log's lines up to `[Remarks]`, with these claims, from CQSOs to CToSc.
unfoldable pub opening : List String → List Text
unfolding claiming
opening claims =
    texts
    ("[REG1TEST;1]"
    ∷ "TName=Spring contest"
    ∷ "TDate=20240302;20240303"
    ∷ "PCall=OZ1FDJ"
    ∷ "PWWLo=JO65FR"
    ∷ "PExch="
    ∷ "PAdr1=Somewhere 1"
    ∷ "PAdr2="
    ∷ "PSect=Single"
    ∷ "PBand=144 MHz"
    ∷ "PClub=OZ2AGR"
    ∷ "RName="
    ∷ "RCall="
    ∷ "RAdr1="
    ∷ "RAdr2="
    ∷ "RPoCo="
    ∷ "RCity="
    ∷ "RCoun="
    ∷ "RPhon="
    ∷ "RHBBS="
    ∷ "MOpe1="
    ∷ "MOpe2="
    ∷ "STXEq="
    ∷ "SPowe=90"
    ∷ "SRXEq="
    ∷ "SAnte="
    ∷ "SAntH=14;41"
    ∷ [])
    ++ claiming claims
    ++ texts ("CODXC=OZ1BB;JO40BC;80" ∷ "[Remarks]" ∷ [])

-- A log of a header and the lines behind it.
unfoldable pub text_of : List Text → List String → Text
unfolding lined
text_of header ss = lined (header ++ texts ss)

unfoldable pub plain : List Text
unfolding opening
plain = opening ("0;1" ∷ "77" ∷ "9;500;1" ∷ "0" ∷ "0;0;1" ∷ "0" ∷ "0;0;1" ∷ "0" ∷ "123456789" ∷ [])

-- Case 12: its five records, and the same log as it is to be written back, with 2 contacts, 200 points, 1 square and a total of 700.
unfoldable pub case12_records : List String
case12_records =
    "[QSORecords;5]"
    ∷ "240302;1401;DK1AA;1;59;001;59;004;;JO40AA;120;;N;N;"
    ∷ "240302;1405;OZ1BB;1;59;002;59;010;;JO40BC;80;;;N;"
    ∷ "240302;1410;ERROR;;;003;;;;;0;;;;"
    ∷ "240302;1412;DK1AA;2;599;004;599;009;;JO40AA;120;;;;"
    ∷ "240302;1420;SM5CC;1;53;005;;;;;0;;;;"
    ∷ []

unfoldable pub case12 : Text
unfolding text_of plain case12_records
case12 = text_of plain case12_records

unfoldable pub case12_written : Text
unfolding text_of opening
case12_written =
    text_of (opening ("2;1" ∷ "200" ∷ "1;500;1" ∷ "500" ∷ "0;0;1" ∷ "0" ∷ "2;0;1" ∷ "0" ∷ "700" ∷ []))
    ("[QSORecords;5]"
    ∷ "240302;1401;DK1AA;1;59;001;59;004;;JO40AA;120;;N;N;"
    ∷ "240302;1405;OZ1BB;1;59;002;59;010;;JO40BC;80;;;N;"
    ∷ "240302;1410;ERROR;;;003;;;;;0;;;;"
    ∷ "240302;1412;DK1AA;2;599;004;599;009;;JO40AA;0;;;;D"
    ∷ "240302;1420;SM5CC;1;53;005;;;;;0;;;;"
    ∷ [])

-- W4: the desk program's seventeen lines of it, "in whole".
unfoldable pub case12_shown : Text
case12_shown =
    bytes "QSOS 2\nPOINTS 200\nWWLS 1\nEXCHANGES 0\nDXCCS 2\nTOTAL 700\n"
    ++ bytes "MODE 0 0\nMODE 1 2\nMODE 2 0\nMODE 3 0\nMODE 4 0\nMODE 5 0\nMODE 6 0\nMODE 7 0\nMODE 8 0\nMODE 9 0\nMODE - 0\n"

abbrev first : Places
first zero = true
first (suc n) = false

unfoldable pub case12_cases : List Case
unfolding case12 case12_written case12_shown
case12_cases =
    case (is_read case12) (0 ∷ 0 ∷ 0 ∷ 5 ∷ [])
    ∷ case (is_log case12) (1 ∷ case12)
    ∷ case (is_judged 5 case12) (0 ∷ 0 ∷ 0 ∷ 96 ∷ 64 ∷ 3 ∷ 2 ∷ 1 ∷ [])
    ∷ case (comes_to case12) (2 ∷ 1 ∷ 1 ∷ 1 ∷ 200 ∷ 1 ∷ 0 ∷ 2 ∷ 500 ∷ 0 ∷ 0 ∷ 700 ∷ [])
    ∷ case (comes_by case12) (0 ∷ 2 ∷ 0 ∷ 0 ∷ 0 ∷ 0 ∷ 0 ∷ 0 ∷ 0 ∷ 0 ∷ 0 ∷ 2 ∷ [])
    ∷ case (is_shown case12) case12_shown
    ∷ case (is_written 65535 case12) (0 ∷ 0 ∷ 0 ∷ case12_written)
    ∷ case (is_written 65535 case12_written) (0 ∷ 0 ∷ 0 ∷ case12_written)
    ∷ case (is_judged 999 case12_written) (0 ∷ 0 ∷ 0 ∷ 96 ∷ 64 ∷ 3 ∷ 2 ∷ 1 ∷ [])
    -- case 13, both ways
    ∷ case (is_struck first case12) (700 ∷ 96 ∷ 3 ∷ 0 ∷ 1 ∷ [])
    ∷ case (is_written_and_struck first case12) (580 ∷ 96 ∷ 3 ∷ 1 ∷ 1 ∷ [])
    ∷ []

-- Whole logs that are refused or are empty, and the views of one (cases 1, 2 and 11).
abbrev reads : ℕ → ℕ → ℕ → ℕ → Text → Case
reads number line field records s = case (is_read s) (number ∷ line ∷ field ∷ records ∷ [])

-- The header of the log above with another text for one of its lines, the first of which is 1.
abbrev with_line : ℕ → String → List Text
with_line n s = set plain (n - 1) (bytes s)

unfoldable pub empty_log : Text
unfolding text_of plain
empty_log = text_of plain ("[QSORecords;0]" ∷ [])

-- A record that keeps every rule, and a log whose second record breaks one in its third field, and whose third in its first.
unfoldable pub a_record : Text
a_record = bytes "240302;1401;DK1AA;1;59;001;59;004;;JO40AA;120;;N;N;"

unfoldable pub three_bad : Text
unfolding text_of plain
three_bad =
    text_of plain
    ("[QSORecords;3]"
    ∷ "240302;1410;ERROR;;;003;;;;;0;;;;"
    ∷ "240302;1410;OZ;;;003;;;;;0;;;;"
    ∷ "240230;1410;OZ1;;;003;;;;;0;;;;"
    ∷ [])

unfoldable pub reading_cases : List Case
unfolding three_bad empty_log text_of plain lined a_record
reading_cases =
    -- case 1, and case 2 with its total
    reads 2 1 0 0 []
    ∷ reads 0 0 0 0 empty_log
    ∷ case (comes_to empty_log) (replicate 12 0)
    ∷ case (is_log empty_log) (1 ∷ empty_log)
    -- 1
    ∷ reads 1 0 0 0 (replicate 65536 65)
    ∷ case (is_shown (replicate 65536 65)) (bytes "REFUSED 1 0 0\n")
    -- 2: no CR LF, too long a line, a byte that is not allowed, a log that ends before its count line
    ∷ reads 2 1 0 0 (bytes "[REG1TEST;1]")
    ∷ reads 2 2 0 0 (bytes "[REG1TEST;1]" ++ bytes "\r\n")
    ∷ reads 2 21 0 0 (lined (take 20 plain))
    ∷ reads 2 37 0 0 (lined (take 36 plain))
    ∷ reads 2 38 0 0 (lined (take 37 plain))
    ∷ reads 2 38 0 0 (lined (take 37 plain) ++ bytes "[Remarks]")
    ∷ reads 2 39 0 0 (text_of plain [])
    ∷ reads 2 40 0 0 (text_of plain ("a remark" ∷ []))
    ∷ reads 2 40 0 0 (text_of plain ("[qsorecords;0]" ∷ []))
    ∷ reads 2 39 0 0 (text_of plain [] ++ replicate 76 65 ++ bytes "\r\n")
    ∷ reads 2 40 0 0 (text_of plain ("[QSORecords;1]" ∷ []) ++ replicate 76 65 ++ bytes "\r\n")
    ∷ reads 0 0 0 0 (text_of plain [] ++ replicate 75 65 ++ bytes "\r\n" ++ bytes "[QSORecords;0]" ++ bytes "\r\n")
    ∷ reads 2 39 0 0 (text_of plain [] ++ 31 ∷ bytes "\r\n")
    ∷ reads 2 39 0 0 (text_of plain [] ++ 128 ∷ bytes "\r\n")
    ∷ reads 2 40 0 0 (text_of plain ("[QSORecords;1]" ∷ []) ++ a_record)
    ∷ reads 2 40 0 0 (text_of plain ("[QSORecords;1]" ∷ []) ++ a_record ++ 10 ∷ [])
    ∷ reads 2 40 0 0 (text_of plain ("[QSORecords;1]" ∷ []) ++ bytes "x")
    -- 2 is told before 3, 4 and 5 of its line
    ∷ reads 2 1 0 0 (bytes "no identifier")
    ∷ reads 2 2 0 0 (bytes "[REG1TEST;1]" ++ bytes "\r\n" ++ bytes "Tnane=" ++ 10 ∷ [])
    ∷ reads 2 40 0 0 (text_of plain ("[QSORecords;1]" ∷ []) ++ bytes "240230" ++ 13 ∷ [])
    -- 3
    ∷ reads 3 1 0 0 (bytes "no identifier" ++ bytes "\r\n")
    ∷ reads 3 1 0 0 (bytes "[reg1test;1]" ++ bytes "\r\n")
    ∷ reads 3 2 0 0 (text_of (with_line 2 "Tnane=x") [])
    ∷ reads 3 2 0 0 (text_of (with_line 2 "TName:x") [])
    ∷ reads 3 21 0 0 (text_of (with_line 21 "MOpel=") [])
    ∷ reads 3 34 0 0 (text_of (with_line 34 "CDXCc=0;0;1") [])
    ∷ reads 3 37 0 0 (text_of (with_line 37 "[Remarks]") [])
    ∷ reads 3 38 0 0 (text_of (with_line 38 "[remarks]") [])
    ∷ reads 3 38 0 0 (text_of (with_line 38 "[QSORecords;0]") [])
    -- 4, and of two bad lines the first
    ∷ reads 4 3 0 0 (text_of (with_line 3 "TDate=20240302") [])
    ∷ reads 4 10 0 0 (text_of (with_line 10 "PBand=145 MHz") ("[QSORecords;1000]" ∷ []))
    ∷ reads 4 39 0 0 (text_of plain ("[QSORecords;1000]" ∷ []))
    ∷ reads 4 41 0 0 (text_of plain ("a remark" ∷ "[QSORecords" ∷ "[QSORecords;x]" ∷ "[QSORecords;0]" ∷ []))
    -- 5, with the first bad field of the first bad record
    ∷ reads 5 40 0 0 (text_of plain ("[QSORecords;2]" ∷ "x" ∷ "y" ∷ []))
    ∷ reads 5 41 3 0 three_bad
    ∷ reads 5 40 11 0 (text_of plain ("[QSORecords;1]" ∷ ";1410;ERROR;;;003;;;;;1;;;;" ∷ []))
    ∷ reads 0 0 0 1 (text_of plain ("[QSORecords;1]" ∷ ";1410;ERROR;;;003;;;;;0;;;;" ∷ []))
    -- 6, case 11 before the others
    ∷ reads 6 41 0 0 (text_of plain ("[QSORecords;2]" ∷ "240302;1410;ERROR;;;003;;;;;0;;;;" ∷ []))
    ∷ reads 6 42 0 0 (text_of plain ("[QSORecords;2]" ∷ "240302;1410;ERROR;;;003;;;;;0;;;;" ∷ "240302;1410;ERROR;;;003;;;;;0;;;;" ∷ "240302;1410;ERROR;;;003;;;;;0;;;;" ∷ []))
    ∷ reads 6 40 0 0 (text_of plain ("[QSORecords;1]" ∷ []))
    ∷ reads 6 40 0 0 (empty_log ++ bytes "x")
    ∷ reads 6 40 0 0 (empty_log ++ bytes "\r\n")
    -- a remark is free, and needs no line
    ∷ reads 0 0 0 0 (text_of plain ("" ∷ "[Remarks]" ∷ "PCall=" ∷ "[QSORecords;0]" ∷ []))
    ∷ []

unfoldable pub lending_cases : List Case
unfolding case12 case12_written empty_log three_bad
lending_cases =
    -- 7 and 8: on both sides of what is needed; 8 after every fault of the log
    case (is_judged 4 case12) (7 ∷ 0 ∷ 0 ∷ [])
    ∷ case (is_judged 0 empty_log) (0 ∷ 0 ∷ 0 ∷ [])
    ∷ case (is_written (length case12_written) case12) (0 ∷ 0 ∷ 0 ∷ case12_written)
    ∷ case (is_written (length case12_written - 1) case12) (8 ∷ 0 ∷ 0 ∷ [])
    ∷ case (is_judged 0 (bytes "x")) (2 ∷ 1 ∷ 0 ∷ [])
    ∷ case (is_written 0 (bytes "x")) (2 ∷ 1 ∷ 0 ∷ [])
    ∷ case (comes_to (bytes "x")) (replicate 12 0)
    ∷ case (is_shown (bytes "x")) (bytes "REFUSED 2 1 0\n")
    ∷ case (is_shown three_bad) (bytes "REFUSED 5 41 3\n")
    -- what a slice holds afterwards: the verdicts or the result at its front and the rest as it was, or all as it was
    ∷ case (leaves_judging (201 ∷ 202 ∷ 203 ∷ 204 ∷ 205 ∷ 206 ∷ 207 ∷ []) case12) (96 ∷ 64 ∷ 3 ∷ 2 ∷ 1 ∷ 206 ∷ 207 ∷ [])
    ∷ case (leaves_judging (201 ∷ 202 ∷ 203 ∷ 204 ∷ 205 ∷ []) case12) (96 ∷ 64 ∷ 3 ∷ 2 ∷ 1 ∷ [])
    ∷ case (leaves_judging (201 ∷ 202 ∷ 203 ∷ 204 ∷ []) case12) (201 ∷ 202 ∷ 203 ∷ 204 ∷ [])
    ∷ case (leaves_judging (201 ∷ 202 ∷ []) empty_log) (201 ∷ 202 ∷ [])
    ∷ case (leaves_judging (201 ∷ 202 ∷ []) (bytes "x")) (201 ∷ 202 ∷ [])
    ∷ case (leaves_writing (replicate (length case12_written) 200 ++ 201 ∷ 202 ∷ 203 ∷ []) case12) (case12_written ++ 201 ∷ 202 ∷ 203 ∷ [])
    ∷ case (leaves_writing (replicate (length case12_written) 200) case12) case12_written
    ∷ case (leaves_writing (201 ∷ replicate (length case12_written - 2) 200) case12) (201 ∷ replicate (length case12_written - 2) 200)
    ∷ case (leaves_writing (201 ∷ 202 ∷ []) (bytes "x")) (201 ∷ 202 ∷ [])
    -- 9, before everything else; a view of a refused log is empty
    ∷ case (is_viewed 0 (bytes "x")) (9 ∷ 0 ∷ 0 ∷ 0 ∷ [])
    ∷ case (is_viewed 37 (bytes "x")) (9 ∷ 0 ∷ 0 ∷ 0 ∷ [])
    ∷ case (is_viewed 0 (replicate 65536 65)) (9 ∷ 0 ∷ 0 ∷ 0 ∷ [])
    ∷ case (is_viewed 37 (replicate 65536 65)) (9 ∷ 0 ∷ 0 ∷ 0 ∷ [])
    ∷ case (is_viewed 36 (replicate 65536 65)) (1 ∷ 0 ∷ 0 ∷ 0 ∷ [])
    ∷ case (is_viewed 0 case12) (9 ∷ 0 ∷ 0 ∷ 0 ∷ [])
    ∷ case (is_viewed 37 case12) (9 ∷ 0 ∷ 0 ∷ 0 ∷ [])
    ∷ case (is_viewed 1 (bytes "x")) (2 ∷ 1 ∷ 0 ∷ 0 ∷ [])
    ∷ case (is_viewed 1 case12) (0 ∷ 0 ∷ 0 ∷ 20 ∷ bytes "Spring contest")
    ∷ case (is_viewed 2 case12) (0 ∷ 0 ∷ 0 ∷ 42 ∷ bytes "20240302;20240303")
    ∷ case (is_viewed 5 case12) (0 ∷ 0 ∷ 0 ∷ 95 ∷ [])
    ∷ case (is_viewed 36 empty_log) (0 ∷ 0 ∷ 0 ∷ 414 ∷ bytes "OZ1BB;JO40BC;80")
    ∷ []

-- W1: the log of case 12 as old programs spell its keywords, and with every letter of every keyword in its other case.
unfoldable pub old_header : List Text
unfolding plain
old_header =
    set (set (set (set (set (set plain 26 (bytes "SAnth=14;41"))
    27 (bytes "CQSOS=0;1"))
    31 (bytes "CEXcs=0;0;1"))
    1 (bytes "tnAME=Spring contest"))
    20 (bytes "mope1="))
    36 (bytes "CODXc=OZ1BB;JO40BC;80")

unfoldable pub old_case12 : Text
unfolding text_of old_header case12_records
old_case12 = text_of old_header case12_records

unfoldable pub old_struck : Text
unfolding text_of old_header case12_records
old_struck = text_of old_header ("[QSORecords;4]" ∷ drop 2 case12_records)

abbrev other_case : Text → Text
other_case l = turned (take 5 l) ++ drop 5 l

unfoldable pub turned_case12 : Text
unfolding text_of plain turned case12_records
turned_case12 = text_of (take 1 plain ++ map other_case (take 36 (drop 1 plain)) ++ drop 37 plain) case12_records

unfoldable pub case12_unclaimed : Text
unfolding text_of opening
case12_unclaimed =
    text_of (opening (";1" ∷ "" ∷ ";500;1" ∷ "" ∷ ";0;1" ∷ "" ∷ ";0;1" ∷ "" ∷ "" ∷ []))
    ("[QSORecords;5]"
    ∷ "240302;1401;DK1AA;1;59;001;59;004;;JO40AA;;;;;"
    ∷ "240302;1405;OZ1BB;1;59;002;59;010;;JO40BC;;;;;"
    ∷ "240302;1410;ERROR;;;003;;;;;;;;;"
    ∷ "240302;1412;DK1AA;2;599;004;599;009;;JO40AA;;;;;"
    ∷ "240302;1420;SM5CC;1;53;005;;;;;;;;;"
    ∷ [])

-- They are read as they are spelt, come to what case 12 comes to, and are written back in the listed spelling; a strike leaves the spelling.
unfoldable pub old_spelling_cases : List Case
unfolding case12 case12_written case12_shown case12_unclaimed old_case12 old_struck turned_case12 empty_log
old_spelling_cases =
    reads 0 0 0 5 old_case12
    ∷ reads 0 0 0 5 turned_case12
    ∷ case (is_log old_case12) (1 ∷ old_case12)
    ∷ case (is_log turned_case12) (1 ∷ turned_case12)
    ∷ case (respells case12) (0 ∷ [])
    ∷ case (respells old_case12) (6 ∷ [])
    ∷ case (respells turned_case12) (36 ∷ [])
    ∷ case (respells (old_case12 ++ bytes "x")) (0 ∷ [])
    ∷ case (is_judged 5 old_case12) (0 ∷ 0 ∷ 0 ∷ 96 ∷ 64 ∷ 3 ∷ 2 ∷ 1 ∷ [])
    ∷ case (comes_to old_case12) (2 ∷ 1 ∷ 1 ∷ 1 ∷ 200 ∷ 1 ∷ 0 ∷ 2 ∷ 500 ∷ 0 ∷ 0 ∷ 700 ∷ [])
    ∷ case (comes_to turned_case12) (2 ∷ 1 ∷ 1 ∷ 1 ∷ 200 ∷ 1 ∷ 0 ∷ 2 ∷ 500 ∷ 0 ∷ 0 ∷ 700 ∷ [])
    ∷ case (is_shown old_case12) case12_shown
    ∷ case (is_written 65535 old_case12) (0 ∷ 0 ∷ 0 ∷ case12_written)
    ∷ case (is_written (length case12_written) turned_case12) (0 ∷ 0 ∷ 0 ∷ case12_written)
    ∷ case (is_unclaimed case12) case12_unclaimed
    ∷ case (is_unclaimed old_case12) case12_unclaimed
    ∷ case (is_struck_to first old_case12) old_struck
    ∷ case (is_struck first old_case12) (700 ∷ 96 ∷ 3 ∷ 0 ∷ 1 ∷ [])
    ∷ case (is_written_and_struck first old_case12) (580 ∷ 96 ∷ 3 ∷ 1 ∷ 1 ∷ [])
    ∷ case (is_viewed 1 old_case12) (0 ∷ 0 ∷ 0 ∷ 20 ∷ bytes "Spring contest")
    ∷ case (is_viewed 36 old_case12) (0 ∷ 0 ∷ 0 ∷ 414 ∷ bytes "OZ1BB;JO40BC;80")
    ∷ map (λ k. case (spells_as_listed k old_case12) (1 ∷ [])) (2 ∷ 3 ∷ 19 ∷ 21 ∷ 25 ∷ 28 ∷ 30 ∷ 32 ∷ 35 ∷ [])
    ++ map (λ k. case (spells_as_listed k old_case12) (0 ∷ [])) (0 ∷ 1 ∷ 20 ∷ 26 ∷ 27 ∷ 31 ∷ 36 ∷ 37 ∷ [])
    ++ case (spells_as_listed 1 (bytes "x")) (0 ∷ [])
    ∷ []

-- Case 9: a locator of six characters and one of four in one square; an empty one is in none, and an exchange is new once.
unfoldable pub one_square : Text
unfolding text_of plain
one_square =
    text_of plain
    ("[QSORecords;4]"
    ∷ "240302;1401;DK1AA;1;59;001;59;004;A1;JO65FR;10;;;;"
    ∷ "240302;1402;DK1AB;1;59;002;59;004;A1;JO65;20;;;;"
    ∷ "240302;1403;DK1AC;1;59;003;59;004;;;30;;;;"
    ∷ "240302;1404;DK1AD;1;59;004;59;004;A2;JO66;40;;;;"
    ∷ [])

unfoldable pub square_cases : List Case
unfolding one_square
square_cases =
    case (is_judged 4 one_square) (0 ∷ 0 ∷ 0 ∷ 48 ∷ 0 ∷ 0 ∷ 48 ∷ [])
    ∷ case (comes_to one_square) (4 ∷ 0 ∷ 0 ∷ 0 ∷ 100 ∷ 2 ∷ 2 ∷ 0 ∷ 1000 ∷ 0 ∷ 0 ∷ 1100 ∷ [])
    ∷ []

-- The wrong turns that look right, each with a log on which it would show.
unfoldable pub with_band_multiplier : Text
unfolding text_of opening
with_band_multiplier =
    text_of (opening ("0;3" ∷ "0" ∷ "0;500;2" ∷ "0" ∷ "0;20;3" ∷ "0" ∷ "0;7;1" ∷ "0" ∷ "0" ∷ []))
    ("[QSORecords;2]"
    ∷ "240302;1401;DK1AA;1;59;001;59;004;A1;JO40AA;120;;;N;"
    ∷ "240302;1402;DK1AB;1;59;002;59;004;A1;JO40AB;10;;;;"
    ∷ [])

unfoldable pub with_band_multiplier_written : Text
unfolding text_of opening
with_band_multiplier_written =
    text_of (opening ("2;3" ∷ "130" ∷ "1;500;2" ∷ "500" ∷ "1;20;3" ∷ "20" ∷ "1;7;1" ∷ "7" ∷ "3942" ∷ []))
    ("[QSORecords;2]"
    ∷ "240302;1401;DK1AA;1;59;001;59;004;A1;JO40AA;120;N;N;N;"
    ∷ "240302;1402;DK1AB;1;59;002;59;004;A1;JO40AB;10;;;;"
    ∷ [])

-- A void contact, and an ERROR that holds a square and an exchange, stand before the real contact of the same call.
unfoldable pub void_first : Text
unfolding text_of plain
void_first =
    text_of plain
    ("[QSORecords;4]"
    ∷ "240302;1401;DK1AA;1;59;001;;;A1;JO40AA;0;N;N;N;"
    ∷ "240302;1402;ERROR;1;59;002;59;004;A1;JO40AA;0;N;N;N;"
    ∷ "240302;1403;DK1AA;1;59;003;59;004;A1;JO40AA;120;;;;D"
    ∷ "240302;1404;DK1AA;1;59;004;59;004;A2;JO41AA;50;N;N;N;"
    ∷ [])

unfoldable pub void_first_written : Text
unfolding text_of opening
void_first_written =
    text_of (opening ("1;1" ∷ "120" ∷ "1;500;1" ∷ "500" ∷ "1;0;1" ∷ "0" ∷ "0;0;1" ∷ "0" ∷ "620" ∷ []))
    ("[QSORecords;4]"
    ∷ "240302;1401;DK1AA;1;59;001;;;A1;JO40AA;0;;;;"
    ∷ "240302;1402;ERROR;1;59;002;59;004;A1;JO40AA;0;;;;"
    ∷ "240302;1403;DK1AA;1;59;003;59;004;A1;JO40AA;120;N;N;;"
    ∷ "240302;1404;DK1AA;1;59;004;59;004;A2;JO41AA;0;;;;D"
    ∷ [])

-- A repeat from another square: striking the first contact promotes it, and it brings a square more than was lost.
unfoldable pub promoted : Text
unfolding text_of plain
promoted =
    text_of plain
    ("[QSORecords;3]"
    ∷ "240302;1401;OZ1BB;1;59;001;59;004;;JO40AA;100;;N;;"
    ∷ "240302;1402;DK1AA;1;59;002;59;004;;JO40AB;100;;;;"
    ∷ "240302;1403;DK1AA;1;59;003;59;005;;JO41AA;100;;;;D"
    ∷ [])

abbrev second : Places
second zero = false
second (suc zero) = true
second (suc (suc n)) = false

-- False claims: a D on a first contact, a D missing on a repeat, N on a square and an exchange that are old, none on new ones.
unfoldable pub false_claims : Text
unfolding text_of plain
false_claims =
    text_of plain
    ("[QSORecords;3]"
    ∷ "240302;1401;DK1AA;1;59;001;59;004;A1;JO40AA;120;;;N;D"
    ∷ "240302;1402;OZ1BB;1;59;002;59;004;A1;JO40BC;80;N;N;;"
    ∷ "240302;1403;DK1AA;1;59;003;59;004;A2;JO41AA;120;N;N;N;"
    ∷ [])

unfoldable pub false_claims_written : Text
unfolding text_of opening
false_claims_written =
    text_of (opening ("2;1" ∷ "200" ∷ "1;500;1" ∷ "500" ∷ "1;0;1" ∷ "0" ∷ "1;0;1" ∷ "0" ∷ "700" ∷ []))
    ("[QSORecords;3]"
    ∷ "240302;1401;DK1AA;1;59;001;59;004;A1;JO40AA;120;N;N;N;"
    ∷ "240302;1402;OZ1BB;1;59;002;59;004;A1;JO40BC;80;;;;"
    ∷ "240302;1403;DK1AA;1;59;003;59;004;A2;JO41AA;0;;;;D"
    ∷ [])

unfoldable pub wrong_turn_cases : List Case
unfolding with_band_multiplier with_band_multiplier_written void_first void_first_written promoted false_claims false_claims_written
wrong_turn_cases =
    case (comes_to with_band_multiplier) (2 ∷ 0 ∷ 0 ∷ 0 ∷ 130 ∷ 1 ∷ 1 ∷ 1 ∷ 500 ∷ 20 ∷ 7 ∷ 3942 ∷ [])
    ∷ case (is_judged 2 with_band_multiplier) (0 ∷ 0 ∷ 0 ∷ 112 ∷ 0 ∷ [])
    ∷ case (is_judged 4 void_first) (0 ∷ 0 ∷ 0 ∷ 1 ∷ 3 ∷ 48 ∷ 2 ∷ [])
    ∷ case (comes_to void_first) (1 ∷ 1 ∷ 1 ∷ 1 ∷ 120 ∷ 1 ∷ 1 ∷ 0 ∷ 500 ∷ 0 ∷ 0 ∷ 620 ∷ [])
    ∷ case (is_written 65535 with_band_multiplier) (0 ∷ 0 ∷ 0 ∷ with_band_multiplier_written)
    ∷ case (is_written 65535 void_first) (0 ∷ 0 ∷ 0 ∷ void_first_written)
    ∷ case (is_written 65535 false_claims) (0 ∷ 0 ∷ 0 ∷ false_claims_written)
    ∷ case (is_struck (λ n. false) promoted) (700 ∷ 32 ∷ 0 ∷ 2 ∷ [])
    ∷ case (is_struck second promoted) (1200 ∷ 32 ∷ 32 ∷ [])
    ∷ case (is_written_and_struck second promoted) (600 ∷ 32 ∷ 1 ∷ [])
    ∷ case (is_judged 3 false_claims) (0 ∷ 0 ∷ 0 ∷ 112 ∷ 0 ∷ 2 ∷ [])
    ∷ case (comes_to false_claims) (2 ∷ 0 ∷ 1 ∷ 0 ∷ 200 ∷ 1 ∷ 1 ∷ 1 ∷ 500 ∷ 0 ∷ 0 ∷ 700 ∷ [])
    ∷ []

-- W3: "An operator works a station, tries again by aurora and gets half a report. She writes 0 points and no D". The broken try claims a square,
-- an exchange and a country. It brings none of them, leaves them new for another contact, and a repeat behind it is a repeat still.
unfoldable pub second_try : Text
unfolding text_of plain
second_try =
    text_of plain
    ("[QSORecords;5]"
    ∷ "240302;1401;DK1AA;1;59;001;59;004;A1;JO40AA;120;;;N;"
    ∷ "240302;1405;DK1AA;2;55A;002;51A;;A2;JO41AA;0;N;N;N;"
    ∷ "240302;1410;OZ1BB;1;59;003;59;010;A2;JO41BC;80;;;N;"
    ∷ "240302;1412;DK1AA;1;59;004;59;009;A3;JO42AA;50;N;N;N;"
    ∷ "240302;1420;OZ1BB;2;55A;005;;;;;0;;;;"
    ∷ [])

unfoldable pub second_try_written : Text
unfolding text_of opening
second_try_written =
    text_of (opening ("2;1" ∷ "200" ∷ "2;500;1" ∷ "1000" ∷ "2;0;1" ∷ "0" ∷ "2;0;1" ∷ "0" ∷ "1200" ∷ []))
    ("[QSORecords;5]"
    ∷ "240302;1401;DK1AA;1;59;001;59;004;A1;JO40AA;120;N;N;N;"
    ∷ "240302;1405;DK1AA;2;55A;002;51A;;A2;JO41AA;0;;;;"
    ∷ "240302;1410;OZ1BB;1;59;003;59;010;A2;JO41BC;80;N;N;N;"
    ∷ "240302;1412;DK1AA;1;59;004;59;009;A3;JO42AA;0;;;;D"
    ∷ "240302;1420;OZ1BB;2;55A;005;;;;;0;;;;"
    ∷ [])

-- "a duplicate needs points or a claimed D", and an earlier credited record of its own call besides: a D on an ERROR, on a void contact, on the
-- first that counts, on a repeat with no points, on a void contact of another call; then repeats with points, one with no D and one with it; and
-- with 0 points a whole report and no D, which is void, and no report and a D, which is a repeat.
unfoldable pub claimed_d : Text
unfolding text_of plain
claimed_d =
    text_of plain
    ("[QSORecords;11]"
    ∷ "240302;1401;ERROR;1;59;001;59;004;A1;JO40AA;0;N;N;N;D"
    ∷ "240302;1402;DK1AA;1;59;002;59;005;A1;JO40AA;0;N;N;N;D"
    ∷ "240302;1403;DK1AA;1;59;003;59;006;A1;JO40AA;120;;;;D"
    ∷ "240302;1404;DK1AA;1;59;004;59;007;A2;JO41AA;0;N;N;N;D"
    ∷ "240302;1405;OZ1BB;1;59;005;59;008;A2;JO41AA;0;N;N;N;D"
    ∷ "240302;1406;OZ1BB;1;59;006;59;009;A2;JO41AA;80;;;N;"
    ∷ "240302;1407;ERROR;1;59;007;59;010;A3;JO42AA;0;N;N;N;D"
    ∷ "240302;1408;OZ1BB;1;59;008;59;011;A3;JO42AA;1;N;N;N;"
    ∷ "240302;1409;DK1AA;1;59;009;59;012;A3;JO42AA;60;;;N;D"
    ∷ "240302;1410;DK1AA;1;59;010;59;013;;;0;;;;"
    ∷ "240302;1411;DK1AA;1;59;011;;;;;0;;;N;D"
    ∷ [])

unfoldable pub claimed_dWritten : Text
unfolding text_of opening
claimed_dWritten =
    text_of (opening ("2;1" ∷ "200" ∷ "2;500;1" ∷ "1000" ∷ "2;0;1" ∷ "0" ∷ "1;0;1" ∷ "0" ∷ "1200" ∷ []))
    ("[QSORecords;11]"
    ∷ "240302;1401;ERROR;1;59;001;59;004;A1;JO40AA;0;;;;"
    ∷ "240302;1402;DK1AA;1;59;002;59;005;A1;JO40AA;0;;;;"
    ∷ "240302;1403;DK1AA;1;59;003;59;006;A1;JO40AA;120;N;N;;"
    ∷ "240302;1404;DK1AA;1;59;004;59;007;A2;JO41AA;0;;;;D"
    ∷ "240302;1405;OZ1BB;1;59;005;59;008;A2;JO41AA;0;;;;"
    ∷ "240302;1406;OZ1BB;1;59;006;59;009;A2;JO41AA;80;N;N;N;"
    ∷ "240302;1407;ERROR;1;59;007;59;010;A3;JO42AA;0;;;;"
    ∷ "240302;1408;OZ1BB;1;59;008;59;011;A3;JO42AA;0;;;;D"
    ∷ "240302;1409;DK1AA;1;59;009;59;012;A3;JO42AA;0;;;;D"
    ∷ "240302;1410;DK1AA;1;59;010;59;013;;;0;;;;"
    ∷ "240302;1411;DK1AA;1;59;011;;;;;0;;;;D"
    ∷ [])

-- A contact, a broken try, a repeat with a D and one with points, and a D of another call. Once the contact is struck, the one with points counts,
-- and no D is left that has a credited record before it.
unfoldable pub tries : Text
unfolding text_of plain
tries =
    text_of plain
    ("[QSORecords;5]"
    ∷ "240302;1401;DK1AA;1;59;001;59;004;;JO40AA;120;;N;N;"
    ∷ "240302;1405;DK1AA;2;55A;002;51A;;;JO41AA;0;;;;"
    ∷ "240302;1410;DK1AA;1;59;003;59;009;;JO41AA;0;;;;D"
    ∷ "240302;1412;DK1AA;1;59;004;59;010;;JO41AA;50;;;N;"
    ∷ "240302;1414;OZ1BB;1;59;005;59;011;;JO41BC;0;;;;D"
    ∷ [])

unfoldable pub tries_written : Text
unfolding text_of opening
tries_written =
    text_of (opening ("1;1" ∷ "120" ∷ "1;500;1" ∷ "500" ∷ "0;0;1" ∷ "0" ∷ "1;0;1" ∷ "0" ∷ "620" ∷ []))
    ("[QSORecords;5]"
    ∷ "240302;1401;DK1AA;1;59;001;59;004;;JO40AA;120;;N;N;"
    ∷ "240302;1405;DK1AA;2;55A;002;51A;;;JO41AA;0;;;;"
    ∷ "240302;1410;DK1AA;1;59;003;59;009;;JO41AA;0;;;;D"
    ∷ "240302;1412;DK1AA;1;59;004;59;010;;JO41AA;0;;;;D"
    ∷ "240302;1414;OZ1BB;1;59;005;59;011;;JO41BC;0;;;;"
    ∷ [])

abbrev third : Places
third n = eqb n 2

abbrev first_and_fourth : Places
first_and_fourth n = eqb n 0 || eqb n 3

unfoldable pub second_try_cases : List Case
unfolding second_try second_try_written claimed_d claimed_dWritten tries tries_written
second_try_cases =
    case (is_judged 5 second_try) (0 ∷ 0 ∷ 0 ∷ 112 ∷ 1 ∷ 112 ∷ 2 ∷ 1 ∷ [])
    ∷ case (comes_to second_try) (2 ∷ 2 ∷ 1 ∷ 0 ∷ 200 ∷ 2 ∷ 2 ∷ 2 ∷ 1000 ∷ 0 ∷ 0 ∷ 1200 ∷ [])
    ∷ case (is_shown second_try)
    (bytes "QSOS 2\nPOINTS 200\nWWLS 2\nEXCHANGES 2\nDXCCS 2\nTOTAL 1200\n"
    ++ bytes "MODE 0 0\nMODE 1 2\nMODE 2 0\nMODE 3 0\nMODE 4 0\nMODE 5 0\nMODE 6 0\nMODE 7 0\nMODE 8 0\nMODE 9 0\nMODE - 0\n")
    ∷ case (is_written 65535 second_try) (0 ∷ 0 ∷ 0 ∷ second_try_written)
    ∷ case (is_written 65535 second_try_written) (0 ∷ 0 ∷ 0 ∷ second_try_written)
    ∷ case (is_judged 5 second_try_written) (0 ∷ 0 ∷ 0 ∷ 112 ∷ 1 ∷ 112 ∷ 2 ∷ 1 ∷ [])
    -- the broken try struck, which changes nothing; the contact struck
    ∷ case (is_struck second second_try) (1200 ∷ 112 ∷ 112 ∷ 2 ∷ 1 ∷ [])
    ∷ case (is_written_and_struck second second_try) (1200 ∷ 112 ∷ 112 ∷ 2 ∷ 1 ∷ [])
    ∷ case (is_worth second second_try) (0 ∷ [])
    ∷ case (is_struck first second_try) (1130 ∷ 1 ∷ 112 ∷ 112 ∷ 1 ∷ [])
    ∷ case (is_written_and_struck first second_try) (580 ∷ 1 ∷ 112 ∷ 1 ∷ 1 ∷ [])
    ∷ case (is_judged 11 claimed_d) (0 ∷ 0 ∷ 0 ∷ 3 ∷ 1 ∷ 48 ∷ 2 ∷ 1 ∷ 112 ∷ 3 ∷ 2 ∷ 2 ∷ 1 ∷ 2 ∷ [])
    ∷ case (comes_to claimed_d) (2 ∷ 3 ∷ 4 ∷ 2 ∷ 200 ∷ 2 ∷ 2 ∷ 1 ∷ 1000 ∷ 0 ∷ 0 ∷ 1200 ∷ [])
    ∷ case (is_written 65535 claimed_d) (0 ∷ 0 ∷ 0 ∷ claimed_dWritten)
    ∷ case (is_written 65535 claimed_dWritten) (0 ∷ 0 ∷ 0 ∷ claimed_dWritten)
    ∷ case (is_judged 11 claimed_dWritten) (0 ∷ 0 ∷ 0 ∷ 3 ∷ 1 ∷ 48 ∷ 2 ∷ 1 ∷ 112 ∷ 3 ∷ 2 ∷ 2 ∷ 1 ∷ 2 ∷ [])
    -- the first contact that counts struck
    ∷ case (is_struck third claimed_d) (1140 ∷ 3 ∷ 1 ∷ 1 ∷ 1 ∷ 112 ∷ 3 ∷ 2 ∷ 112 ∷ 1 ∷ 2 ∷ [])
    ∷ case (is_written_and_struck third claimed_d) (580 ∷ 3 ∷ 1 ∷ 1 ∷ 1 ∷ 112 ∷ 3 ∷ 2 ∷ 1 ∷ 1 ∷ 1 ∷ [])
    ∷ case (is_judged 5 tries) (0 ∷ 0 ∷ 0 ∷ 96 ∷ 1 ∷ 2 ∷ 2 ∷ 1 ∷ [])
    ∷ case (comes_to tries) (1 ∷ 2 ∷ 2 ∷ 0 ∷ 120 ∷ 1 ∷ 0 ∷ 1 ∷ 500 ∷ 0 ∷ 0 ∷ 620 ∷ [])
    ∷ case (is_written 65535 tries) (0 ∷ 0 ∷ 0 ∷ tries_written)
    ∷ case (is_written 65535 tries_written) (0 ∷ 0 ∷ 0 ∷ tries_written)
    ∷ case (is_judged 5 tries_written) (0 ∷ 0 ∷ 0 ∷ 96 ∷ 1 ∷ 2 ∷ 2 ∷ 1 ∷ [])
    -- the contact struck; it and the repeat with points; the broken try; the repeat with a D
    ∷ case (is_struck first tries) (550 ∷ 1 ∷ 1 ∷ 96 ∷ 1 ∷ [])
    ∷ case (is_written_and_struck first tries) (0 ∷ 1 ∷ 1 ∷ 1 ∷ 1 ∷ [])
    ∷ case (is_struck first_and_fourth tries) (0 ∷ 1 ∷ 1 ∷ 1 ∷ [])
    ∷ case (is_written_and_struck first_and_fourth tries) (0 ∷ 1 ∷ 1 ∷ 1 ∷ [])
    ∷ case (is_struck second tries) (620 ∷ 96 ∷ 2 ∷ 2 ∷ 1 ∷ [])
    ∷ case (is_written_and_struck second tries) (620 ∷ 96 ∷ 2 ∷ 2 ∷ 1 ∷ [])
    ∷ case (is_struck third tries) (620 ∷ 96 ∷ 1 ∷ 2 ∷ 1 ∷ [])
    ∷ []

-- W4: "a count of credited records for each mode code and for a blank mode". By Morse, 2, two count, and by 1, 0 and 9 one each, and two with a
-- blank mode, some of them with no report and no number; an ERROR and a void contact by codes of their own, a repeat by another code than the
-- contact, and a blank ERROR and repeat count for none.
unfoldable pub mixed_records : List String
mixed_records =
    "240302;1401;DK1AA;2;599;001;599;004;;JO40AA;120;;N;N;"
    ∷ "240302;1402;OZ1BB;1;59;002;59;010;;JO40BC;80;;;N;"
    ∷ "240302;1403;ERROR;2;;003;;;;;0;;;;"
    ∷ "240302;1404;DK1AA;1;59;004;59;009;;JO40AA;120;;;;"
    ∷ "240302;1405;SM5CC;3;53;005;;;;;0;;;;"
    ∷ "240302;1406;SM5CC;;53;006;51;001;;JO41AA;30;;;;"
    ∷ "240302;1407;LA2DD;;;;;;;;40;;;;"
    ∷ "240302;1408;SM5CC;;;008;;;;;0;;;;D"
    ∷ "240302;1409;PA0EE;0;59;009;59;003;;;10;;;;"
    ∷ "240302;1410;PA0FF;9;;;;;;;10;;;;"
    ∷ "240302;1411;PA0GG;2;599;011;599;005;;;10;;;;"
    ∷ ";1412;ERROR;;;;;;;;0;;;;"
    ∷ "240302;1413;PA0HH;0;59;013;;;;;0;;;;"
    ∷ []

unfoldable pub mixed_modes : Text
unfolding text_of plain mixed_records
mixed_modes = text_of plain ("[QSORecords;13]" ∷ mixed_records)

unfoldable pub mixed_modes_written : Text
unfolding text_of opening
mixed_modes_written =
    text_of (opening ("7;1" ∷ "300" ∷ "2;500;1" ∷ "1000" ∷ "0;0;1" ∷ "0" ∷ "2;0;1" ∷ "0" ∷ "1300" ∷ []))
    ("[QSORecords;13]"
    ∷ "240302;1401;DK1AA;2;599;001;599;004;;JO40AA;120;;N;N;"
    ∷ "240302;1402;OZ1BB;1;59;002;59;010;;JO40BC;80;;;N;"
    ∷ "240302;1403;ERROR;2;;003;;;;;0;;;;"
    ∷ "240302;1404;DK1AA;1;59;004;59;009;;JO40AA;0;;;;D"
    ∷ "240302;1405;SM5CC;3;53;005;;;;;0;;;;"
    ∷ "240302;1406;SM5CC;;53;006;51;001;;JO41AA;30;;N;;"
    ∷ "240302;1407;LA2DD;;;;;;;;40;;;;"
    ∷ "240302;1408;SM5CC;;;008;;;;;0;;;;D"
    ∷ "240302;1409;PA0EE;0;59;009;59;003;;;10;;;;"
    ∷ "240302;1410;PA0FF;9;;;;;;;10;;;;"
    ∷ "240302;1411;PA0GG;2;599;011;599;005;;;10;;;;"
    ∷ ";1412;ERROR;;;;;;;;0;;;;"
    ∷ "240302;1413;PA0HH;0;59;013;;;;;0;;;;"
    ∷ [])

-- It without the contact by Morse that is repeated by 1: the repeat counts, by its own mode.
unfoldable pub mixed_modes_struck : Text
unfolding text_of plain mixed_records
mixed_modes_struck = text_of plain ("[QSORecords;12]" ∷ drop 1 mixed_records)

-- A log of one contact by this mode; what is counted by it, and what is shown.
unfoldable pub one_by : Text → Text
unfolding lined plain
one_by mode =
    lined
    (plain
    ++ bytes "[QSORecords;1]"
    ∷ (bytes "240302;1401;DK1AA;" ++ mode ++ bytes ";59;001;59;004;;JO40AA;120;;N;N;")
    ∷ [])

abbrev counted : ℕ → List ℕ
counted place = set (replicate 11 0) place 1 ++ 1 ∷ []

abbrev shown_by : ℕ → Text
shown_by place =
    bytes "QSOS 1\nPOINTS 120\nWWLS 1\nEXCHANGES 0\nDXCCS 1\nTOTAL 620\n"
    ++ set (bytes "MODE 0 0\nMODE 1 0\nMODE 2 0\nMODE 3 0\nMODE 4 0\nMODE 5 0\nMODE 6 0\nMODE 7 0\nMODE 8 0\nMODE 9 0\nMODE - 0\n") (9 * place + 7) 49

-- What is asked of each mode, by its place among the eleven.
abbrev one_mode : ℕ → Text → List Case
one_mode place mode =
    case (comes_by (one_by mode)) (counted place) ∷ case (is_shown (one_by mode)) (shown_by place) ∷ []

unfoldable pub mode_cases : List Case
unfolding mixed_modes mixed_modes_written mixed_modes_struck one_by empty_log
mode_cases =
    case (is_judged 13 mixed_modes) (0 ∷ 0 ∷ 0 ∷ 96 ∷ 64 ∷ 3 ∷ 2 ∷ 1 ∷ 32 ∷ 0 ∷ 2 ∷ 0 ∷ 0 ∷ 0 ∷ 3 ∷ 1 ∷ [])
    ∷ case (comes_to mixed_modes) (7 ∷ 2 ∷ 2 ∷ 2 ∷ 300 ∷ 2 ∷ 0 ∷ 2 ∷ 1000 ∷ 0 ∷ 0 ∷ 1300 ∷ [])
    ∷ case (comes_by mixed_modes) (1 ∷ 1 ∷ 2 ∷ 0 ∷ 0 ∷ 0 ∷ 0 ∷ 0 ∷ 0 ∷ 1 ∷ 2 ∷ 7 ∷ [])
    ∷ case (is_shown mixed_modes)
    (bytes "QSOS 7\nPOINTS 300\nWWLS 2\nEXCHANGES 0\nDXCCS 2\nTOTAL 1300\n"
    ++ bytes "MODE 0 1\nMODE 1 1\nMODE 2 2\nMODE 3 0\nMODE 4 0\nMODE 5 0\nMODE 6 0\nMODE 7 0\nMODE 8 0\nMODE 9 1\nMODE - 2\n")
    ∷ case (is_written 65535 mixed_modes) (0 ∷ 0 ∷ 0 ∷ mixed_modes_written)
    ∷ case (comes_by mixed_modes_written) (1 ∷ 1 ∷ 2 ∷ 0 ∷ 0 ∷ 0 ∷ 0 ∷ 0 ∷ 0 ∷ 1 ∷ 2 ∷ 7 ∷ [])
    ∷ case (is_struck_to first mixed_modes) mixed_modes_struck
    ∷ case (comes_by mixed_modes_struck) (1 ∷ 2 ∷ 1 ∷ 0 ∷ 0 ∷ 0 ∷ 0 ∷ 0 ∷ 0 ∷ 1 ∷ 2 ∷ 7 ∷ [])
    -- no records, and a refusal
    ∷ case (comes_by empty_log) (0 ∷ 0 ∷ 0 ∷ 0 ∷ 0 ∷ 0 ∷ 0 ∷ 0 ∷ 0 ∷ 0 ∷ 0 ∷ 0 ∷ [])
    ∷ case (comes_by (mixed_modes ++ bytes "x")) (0 ∷ 0 ∷ 0 ∷ 0 ∷ 0 ∷ 0 ∷ 0 ∷ 0 ∷ 0 ∷ 0 ∷ 0 ∷ 0 ∷ [])
    ∷ case (is_shown (mixed_modes ++ bytes "x")) (bytes "REFUSED 6 53 0\n")
    ∷ one_mode 0 (bytes "0")
    ++ one_mode 1 (bytes "1")
    ++ one_mode 2 (bytes "2")
    ++ one_mode 3 (bytes "3")
    ++ one_mode 4 (bytes "4")
    ++ one_mode 5 (bytes "5")
    ++ one_mode 6 (bytes "6")
    ++ one_mode 7 (bytes "7")
    ++ one_mode 8 (bytes "8")
    ++ one_mode 9 (bytes "9")
    ++ one_mode 10 (bytes "")

-- A log in which no two numbers are the same: the counts of the four classes and of what is new, the bonuses and the multipliers, and what
-- is claimed. Every argument holds something of its own. Each class of record has marks that are false, and what repeats of a void or an
-- ERROR, its call, its exchange and its square, is new all the same.
unfoldable pub wide_opening : List String → List Text
unfolding claiming
wide_opening claims =
    texts
    ("[REG1TEST;1]"
    ∷ "TName=Autumn contest; VHF"
    ∷ "TDate=20231007;20231008"
    ∷ "PCall=OZ1FDJ/P"
    ∷ "PWWLo=JO65FX"
    ∷ "PExch=7 DOK"
    ∷ "PAdr1=Mast 1"
    ∷ "PAdr2=Hill = 2"
    ∷ "PSect=Multi"
    ∷ "PBand=432 MHz"
    ∷ "PClub=OZ2AGR"
    ∷ "RName=Ann"
    ∷ "RCall=OZ1FTU"
    ∷ "RAdr1=Road 3"
    ∷ "RAdr2=Lane 4"
    ∷ "RPoCo=2800"
    ∷ "RCity=Lyngby"
    ∷ "RCoun=Denmark"
    ∷ "RPhon=+45 1"
    ∷ "RHBBS=OZ6BBS"
    ∷ "MOpe1=OZ1AAA;OZ1BBB"
    ∷ "MOpe2=OZ1CCC"
    ∷ "STXEq=Home made"
    ∷ "SPowe=50"
    ∷ "SRXEq=Bought"
    ∷ "SAnte=19 el."
    ∷ "SAntH=12;130"
    ∷ [])
    ++ claiming claims
    ++ texts ("CODXC=OY9JD;IP62OA;1302" ∷ "[Remarks]" ∷ "First remark" ∷ "[QSORecords" ∷ "second; remark" ∷ [])

unfoldable pub wide_claims : List Text
unfolding wide_opening
wide_claims =
    wide_opening ("31;9" ∷ "32" ∷ "33;500;2" ∷ "34" ∷ "35;300;3" ∷ "36" ∷ "37;100;5" ∷ "38" ∷ "39" ∷ [])

unfoldable pub wide_log : Text
unfolding text_of wide_claims
wide_log =
    text_of wide_claims
    ("[QSORecords;13]"
    ∷ "231007;1400;DK1AA;1;59;001;57;101;A1;JO65FR;1;;;N;D"
    ∷ ";1401;ERROR;2;58;002;56;102;B1;JO66AA;0;N;N;N;D"
    ∷ "231007;1402;DK2BB;3;55;003;54;103;B1;JO66AA;0;N;N;N;D"
    ∷ "231007;1403;DK2BB;4;53;004;52;104;B1;JO66;20;N;;N;"
    ∷ "231007;1404;DK1AA;5;51;005;41;105;C1;JO67AA;11;N;N;N;"
    ∷ "231007;1405;DK3CC;6;42;006;43;106;C1;JO65AB;300;;N;N;"
    ∷ "231007;1406;ERROR;;;;;;;;0;;;;"
    ∷ "231007;1407;DK4DD;7;44;007;45;107;A1;JO67AA;4000;N;N;;"
    ∷ "231007;1408;DK1AA/P;8;46;008;47;108;;;50000;N;N;N;D"
    ∷ "231007;1409;DK2BB;9;48;009;49;109;;;0;;;N;D"
    ∷ ";1410;ERROR;0;31;010;32;110;;JO68AA;0;;N;;"
    ∷ "231008;1411;DK5EE;1;33;011;34;111;D1;JN65AA;600000;N;N;N;"
    ∷ "231008;1412;DK1AB;2;35;012;36;112;;IO65;100007;;;N;"
    ∷ [])

unfoldable pub wide_written : Text
unfolding text_of wide_opening
wide_written =
    text_of (wide_opening ("7;9" ∷ "754328" ∷ "5;500;2" ∷ "2500" ∷ "4;300;3" ∷ "1200" ∷ "6;100;5" ∷ "600" ∷ "22758840" ∷ []))
    ("[QSORecords;13]"
    ∷ "231007;1400;DK1AA;1;59;001;57;101;A1;JO65FR;1;N;N;N;"
    ∷ ";1401;ERROR;2;58;002;56;102;B1;JO66AA;0;;;;"
    ∷ "231007;1402;DK2BB;3;55;003;54;103;B1;JO66AA;0;;;;"
    ∷ "231007;1403;DK2BB;4;53;004;52;104;B1;JO66;20;N;N;N;"
    ∷ "231007;1404;DK1AA;5;51;005;41;105;C1;JO67AA;0;;;;D"
    ∷ "231007;1405;DK3CC;6;42;006;43;106;C1;JO65AB;300;N;;N;"
    ∷ "231007;1406;ERROR;;;;;;;;0;;;;"
    ∷ "231007;1407;DK4DD;7;44;007;45;107;A1;JO67AA;4000;;N;;"
    ∷ "231007;1408;DK1AA/P;8;46;008;47;108;;;50000;;;N;"
    ∷ "231007;1409;DK2BB;9;48;009;49;109;;;0;;;;D"
    ∷ ";1410;ERROR;0;31;010;32;110;;JO68AA;0;;;;"
    ∷ "231008;1411;DK5EE;1;33;011;34;111;D1;JN65AA;600000;N;N;N;"
    ∷ "231008;1412;DK1AB;2;35;012;36;112;;IO65;100007;;N;N;"
    ∷ [])

-- What writing back may not change of it.
unfoldable pub wide_unclaimed : Text
unfolding text_of wide_opening
wide_unclaimed =
    text_of (wide_opening (";9" ∷ "" ∷ ";500;2" ∷ "" ∷ ";300;3" ∷ "" ∷ ";100;5" ∷ "" ∷ "" ∷ []))
    ("[QSORecords;13]"
    ∷ "231007;1400;DK1AA;1;59;001;57;101;A1;JO65FR;;;;;"
    ∷ ";1401;ERROR;2;58;002;56;102;B1;JO66AA;;;;;"
    ∷ "231007;1402;DK2BB;3;55;003;54;103;B1;JO66AA;;;;;"
    ∷ "231007;1403;DK2BB;4;53;004;52;104;B1;JO66;;;;;"
    ∷ "231007;1404;DK1AA;5;51;005;41;105;C1;JO67AA;;;;;"
    ∷ "231007;1405;DK3CC;6;42;006;43;106;C1;JO65AB;;;;;"
    ∷ "231007;1406;ERROR;;;;;;;;;;;;"
    ∷ "231007;1407;DK4DD;7;44;007;45;107;A1;JO67AA;;;;;"
    ∷ "231007;1408;DK1AA/P;8;46;008;47;108;;;;;;;"
    ∷ "231007;1409;DK2BB;9;48;009;49;109;;;;;;;"
    ∷ ";1410;ERROR;0;31;010;32;110;;JO68AA;;;;;"
    ∷ "231008;1411;DK5EE;1;33;011;34;111;D1;JN65AA;;;;;"
    ∷ "231008;1412;DK1AB;2;35;012;36;112;;IO65;;;;;"
    ∷ [])

-- Its first three records and the ninth: two credited ones, an ERROR and a void.
abbrev four : Places
four n = eqb n 0 || eqb n 1 || eqb n 2 || eqb n 8

-- It without those four.
unfoldable pub wide_struck : Text
unfolding text_of wide_claims
wide_struck =
    text_of wide_claims
    ("[QSORecords;9]"
    ∷ "231007;1403;DK2BB;4;53;004;52;104;B1;JO66;20;N;;N;"
    ∷ "231007;1404;DK1AA;5;51;005;41;105;C1;JO67AA;11;N;N;N;"
    ∷ "231007;1405;DK3CC;6;42;006;43;106;C1;JO65AB;300;;N;N;"
    ∷ "231007;1406;ERROR;;;;;;;;0;;;;"
    ∷ "231007;1407;DK4DD;7;44;007;45;107;A1;JO67AA;4000;N;N;;"
    ∷ "231007;1409;DK2BB;9;48;009;49;109;;;0;;;N;D"
    ∷ ";1410;ERROR;0;31;010;32;110;;JO68AA;0;;N;;"
    ∷ "231008;1411;DK5EE;1;33;011;34;111;D1;JN65AA;600000;N;N;N;"
    ∷ "231008;1412;DK1AB;2;35;012;36;112;;IO65;100007;;;N;"
    ∷ [])

unfoldable pub wide_cases : List Case
unfolding wide_log wide_written wide_unclaimed wide_struck
wide_cases =
    case (is_read wide_log) (0 ∷ 0 ∷ 0 ∷ 13 ∷ [])
    ∷ case (is_log wide_log) (1 ∷ wide_log)
    ∷ case (is_judged 13 wide_log) (0 ∷ 0 ∷ 0 ∷ 112 ∷ 3 ∷ 1 ∷ 112 ∷ 2 ∷ 80 ∷ 3 ∷ 32 ∷ 64 ∷ 2 ∷ 3 ∷ 112 ∷ 96 ∷ [])
    ∷ case (comes_to wide_log) (7 ∷ 1 ∷ 2 ∷ 3 ∷ 754328 ∷ 5 ∷ 4 ∷ 6 ∷ 2500 ∷ 1200 ∷ 600 ∷ 22758840 ∷ [])
    ∷ case (comes_by wide_log) (0 ∷ 2 ∷ 1 ∷ 0 ∷ 1 ∷ 0 ∷ 1 ∷ 1 ∷ 1 ∷ 0 ∷ 0 ∷ 7 ∷ [])
    ∷ case (is_shown wide_log)
    (bytes "QSOS 7\nPOINTS 754328\nWWLS 5\nEXCHANGES 4\nDXCCS 6\nTOTAL 22758840\n"
    ++ bytes "MODE 0 0\nMODE 1 2\nMODE 2 1\nMODE 3 0\nMODE 4 1\nMODE 5 0\nMODE 6 1\nMODE 7 1\nMODE 8 1\nMODE 9 0\nMODE - 0\n")
    ∷ case (is_written 65535 wide_log) (0 ∷ 0 ∷ 0 ∷ wide_written)
    ∷ case (is_written 65535 wide_written) (0 ∷ 0 ∷ 0 ∷ wide_written)
    ∷ case (is_judged 13 wide_written) (0 ∷ 0 ∷ 0 ∷ 112 ∷ 3 ∷ 1 ∷ 112 ∷ 2 ∷ 80 ∷ 3 ∷ 32 ∷ 64 ∷ 2 ∷ 3 ∷ 112 ∷ 96 ∷ [])
    ∷ case (is_unclaimed wide_log) wide_unclaimed
    ∷ case (is_viewed 3 wide_log) (0 ∷ 0 ∷ 0 ∷ 72 ∷ bytes "OZ1FDJ/P")
    ∷ case (is_viewed 20 wide_log) (0 ∷ 0 ∷ 0 ∷ 308 ∷ bytes "OZ1AAA;OZ1BBB")
    ∷ case (is_viewed 29 wide_log) (0 ∷ 0 ∷ 0 ∷ 434 ∷ bytes "33;500;2")
    ∷ case (is_viewed 7 wide_log) (0 ∷ 0 ∷ 0 ∷ 129 ∷ bytes "Hill = 2")
    ∷ case (is_viewed 21 wide_log) (0 ∷ 0 ∷ 0 ∷ 329 ∷ bytes "OZ1CCC")
    ∷ case (is_viewed 30 wide_log) (0 ∷ 0 ∷ 0 ∷ 450 ∷ bytes "34")
    ∷ case (is_viewed 36 wide_log) (0 ∷ 0 ∷ 0 ∷ 522 ∷ bytes "OY9JD;IP62OA;1302")
    ∷ case (is_struck_to four wide_log) wide_struck
    ∷ case (is_struck_to (λ n. false) wide_log) wide_log
    ∷ case (is_struck four wide_log) (21256140 ∷ 112 ∷ 112 ∷ 96 ∷ 3 ∷ 16 ∷ 2 ∷ 3 ∷ 112 ∷ 96 ∷ [])
    ∷ case (is_written_and_struck four wide_log) (21252810 ∷ 112 ∷ 1 ∷ 112 ∷ 3 ∷ 48 ∷ 2 ∷ 3 ∷ 112 ∷ 96 ∷ [])
    ∷ case (is_worth four wide_log) (51801 ∷ [])
    ∷ case (is_worth (λ n. true) wide_log) (760628 ∷ [])
    ∷ case (is_worth (λ n. false) wide_log) (0 ∷ [])
    ∷ case (comes_to_stand four 0) (0 ∷ [])
    ∷ case (comes_to_stand four 3) (0 ∷ [])
    ∷ case (comes_to_stand four 7) (4 ∷ [])
    ∷ case (comes_to_stand four 9) (5 ∷ [])
    ∷ case (comes_to_stand four 12) (8 ∷ [])
    ∷ []

-- Striking by marks: case 12 without its first record, by which case 13 comes to 700; with none; with all; and each refusal on both sides of what is
-- needed, reading's in front of 7, 7 in front of 8.
unfoldable pub case12_struck : Text
unfolding text_of plain case12_records
case12_struck = text_of plain ("[QSORecords;4]" ∷ drop 2 case12_records)

unfoldable pub striking_cases : List Case
unfolding case12 case12_struck old_case12 old_struck empty_log wide_log wide_struck three_bad
striking_cases =
    case (strikes_out 65535 (1 ∷ 0 ∷ 0 ∷ 0 ∷ 0 ∷ []) case12) (0 ∷ 0 ∷ 0 ∷ case12_struck)
    ∷ case (is_judged 4 case12_struck) (0 ∷ 0 ∷ 0 ∷ 96 ∷ 3 ∷ 0 ∷ 1 ∷ [])
    ∷ case (comes_to case12_struck) (2 ∷ 1 ∷ 0 ∷ 1 ∷ 200 ∷ 1 ∷ 0 ∷ 1 ∷ 500 ∷ 0 ∷ 0 ∷ 700 ∷ [])
    -- any byte but 0 strikes, and none past the records
    ∷ case (strikes_out 65535 (255 ∷ 0 ∷ 0 ∷ 0 ∷ 0 ∷ 1 ∷ 255 ∷ []) case12) (0 ∷ 0 ∷ 0 ∷ case12_struck)
    ∷ case (strikes_out 65535 (replicate 5 0) case12) (0 ∷ 0 ∷ 0 ∷ case12)
    ∷ case (strikes_out 65535 (1 ∷ 2 ∷ 3 ∷ 64 ∷ 128 ∷ []) case12) (0 ∷ 0 ∷ 0 ∷ empty_log)
    ∷ case (strikes_out 65535 [] empty_log) (0 ∷ 0 ∷ 0 ∷ empty_log)
    ∷ case (strikes_out 65535 (0 ∷ 0 ∷ 0 ∷ 0 ∷ 7 ∷ []) case12) (0 ∷ 0 ∷ 0 ∷ text_of plain ("[QSORecords;4]" ∷ take 4 (drop 1 case12_records)))
    -- fewer digits in the count line; a strike leaves the spelling, the claims and the marks
    ∷ case (strikes_out 65535 (1 ∷ 1 ∷ 1 ∷ 0 ∷ 0 ∷ 0 ∷ 0 ∷ 0 ∷ 1 ∷ 0 ∷ 0 ∷ 0 ∷ 0 ∷ []) wide_log) (0 ∷ 0 ∷ 0 ∷ wide_struck)
    ∷ case (strikes_out 65535 (1 ∷ 0 ∷ 0 ∷ 0 ∷ 0 ∷ []) old_case12) (0 ∷ 0 ∷ 0 ∷ old_struck)
    -- 7, 8, and what comes in front of them
    ∷ case (strikes_out 0 (replicate 4 1) case12) (7 ∷ 0 ∷ 0 ∷ [])
    ∷ case (strikes_out (length case12_struck) (1 ∷ 0 ∷ 0 ∷ 0 ∷ 0 ∷ []) case12) (0 ∷ 0 ∷ 0 ∷ case12_struck)
    ∷ case (strikes_out (length case12_struck - 1) (1 ∷ 0 ∷ 0 ∷ 0 ∷ 0 ∷ []) case12) (8 ∷ 0 ∷ 0 ∷ [])
    ∷ case (strikes_out 0 [] (bytes "x")) (2 ∷ 1 ∷ 0 ∷ [])
    ∷ case (strikes_out 0 [] three_bad) (5 ∷ 41 ∷ 3 ∷ [])
    ∷ case (strikes_out 0 [] (replicate 65536 65)) (1 ∷ 0 ∷ 0 ∷ [])
    -- what the slice holds afterwards
    ∷ case (leaves_striking (replicate (length case12_struck) 200 ++ 201 ∷ 202 ∷ []) (1 ∷ 0 ∷ 0 ∷ 0 ∷ 0 ∷ []) case12) (case12_struck ++ 201 ∷ 202 ∷ [])
    ∷ case (leaves_striking (201 ∷ 202 ∷ []) (1 ∷ 0 ∷ 0 ∷ 0 ∷ 0 ∷ []) case12) (201 ∷ 202 ∷ [])
    ∷ case (leaves_striking (replicate 600 200) (1 ∷ 1 ∷ 1 ∷ 1 ∷ []) case12) (replicate 600 200)
    ∷ case (leaves_striking (201 ∷ 202 ∷ []) [] (bytes "x")) (201 ∷ 202 ∷ [])
    ∷ []

-- "the same call, byte for byte": calls that differ in one character, in length, in what stands behind a `/`; squares that differ in one of
-- their four characters; exchanges that differ in the last of six, in length, in a space.
unfoldable pub nearly_same : Text
unfolding text_of plain
nearly_same =
    text_of plain
    ("[QSORecords;16]"
    ∷ "240302;1401;DK1AA;1;59;001;59;004;ABCDE1;JO65FR;1;;;;"
    ∷ "240302;1402;DK1AB;1;59;002;59;004;ABCDE2;JO64FR;2;;;;"
    ∷ "240302;1403;DK1A;1;59;003;59;004;ABCDE;JO75FR;4;;;;"
    ∷ "240302;1404;DK1AAA;1;59;004;59;004;1;JN65FR;8;;;;"
    ∷ "240302;1405;DK1AA/P;1;59;005;59;004;1 ;IO65FR;16;;;;"
    ∷ "240302;1406;DK1AA/M;1;59;006;59;004; 1;JO56;32;;;;"
    ∷ "240302;1407;DL1AA;1;59;007;59;004;BBCDE1;JO46;64;;;;"
    ∷ "240302;1408;EK1AA;1;59;008;59;004;01;JO65XX;128;;;;"
    ∷ "240302;1409;OZ/DK1AA;1;59;009;59;004;1;JO65;256;;;;"
    ∷ "240302;1410;ABCDEFGHIJKLMN;1;59;010;59;004;A;;512;;;;"
    ∷ "240302;1411;ABCDEFGHIJKLMM;1;59;011;59;004;B;;1024;;;;"
    ∷ "240302;1412;ERRORS;1;59;012;59;004;A;;2048;;;;"
    ∷ "240302;1413;DK1AA;1;59;013;59;004;;;4096;;;;"
    ∷ "240302;1414;DK1AA/P;1;59;014;59;004;;;8192;;;;"
    ∷ "240302;1415;ABCDEFGHIJKLMM;1;59;015;59;004;;;16384;;;;"
    ∷ "240302;1416;ERRORS;1;59;016;59;004;;;32768;;;;"
    ∷ [])

unfoldable pub sameness_cases : List Case
unfolding nearly_same
sameness_cases =
    case (is_judged 16 nearly_same) (0 ∷ 0 ∷ 0 ∷ 48 ∷ 48 ∷ 48 ∷ 48 ∷ 48 ∷ 48 ∷ 48 ∷ 16 ∷ 0 ∷ 16 ∷ 16 ∷ 0 ∷ 2 ∷ 2 ∷ 2 ∷ 2 ∷ [])
    ∷ case (comes_to nearly_same) (12 ∷ 0 ∷ 4 ∷ 0 ∷ 4095 ∷ 7 ∷ 10 ∷ 0 ∷ 3500 ∷ 0 ∷ 0 ∷ 7595 ∷ [])
    ∷ []

-- A log as a value: what makes a valid one invalid.
abbrev with_arguments : (List Text → List Text) → Log → Log
with_arguments change log =
    record {
      keywords = log.keywords;
      arguments = change log.arguments;
      remarks = log.remarks;
      records = log.records;
    }

abbrev with_keywords : (List Text → List Text) → Log → Log
with_keywords change log =
    record {
      keywords = change log.keywords;
      arguments = log.arguments;
      remarks = log.remarks;
      records = log.records;
    }

abbrev with_remarks : List Text → Log → Log
with_remarks remarks log =
    record {
      keywords = log.keywords;
      arguments = log.arguments;
      remarks = remarks;
      records = log.records;
    }

abbrev with_records : List Text → Log → Log
with_records records log =
    record {
      keywords = log.keywords;
      arguments = log.arguments;
      remarks = log.remarks;
      records = map (λ l. qso_of (parts l)) records;
    }

unfoldable pub value_cases : List Case
unfolding empty_log a_record
value_cases =
    case (is_valid_with (λ log. log) empty_log) (1 ∷ [])
    ∷ case (is_valid_with (with_arguments (λ ts. set ts 2 (bytes "OZ2"))) empty_log) (1 ∷ [])
    ∷ case (is_valid_with (with_arguments (λ ts. set ts 2 (bytes "OZ"))) empty_log) (0 ∷ [])
    ∷ case (is_valid_with (with_arguments (λ ts. set ts 35 (bytes ";;"))) empty_log) (0 ∷ [])
    ∷ case (is_valid_with (with_arguments (λ ts. set ts 0 (replicate 69 65))) empty_log) (1 ∷ [])
    ∷ case (is_valid_with (with_arguments (λ ts. set ts 0 (replicate 70 65))) empty_log) (0 ∷ [])
    ∷ case (is_valid_with (with_arguments (λ ts. set ts 0 (128 ∷ []))) empty_log) (0 ∷ [])
    ∷ case (is_valid_with (with_arguments (λ ts. take 35 ts)) empty_log) (0 ∷ [])
    ∷ case (is_valid_with (with_arguments (λ ts. ts ++ bytes "x" ∷ [])) empty_log) (0 ∷ [])
    ∷ case (is_valid_with (with_keywords (λ ws. set ws 0 (bytes "tNaMe"))) empty_log) (1 ∷ [])
    ∷ case (is_valid_with (with_keywords (λ ws. set ws 0 (bytes "TNane"))) empty_log) (0 ∷ [])
    ∷ case (is_valid_with (with_keywords (λ ws. set ws 0 (bytes "TNam"))) empty_log) (0 ∷ [])
    ∷ case (is_valid_with (with_keywords (λ ws. set ws 35 (bytes "CODXCs"))) empty_log) (0 ∷ [])
    ∷ case (is_valid_with (with_keywords (λ ws. take 35 ws)) empty_log) (0 ∷ [])
    ∷ case (is_valid_with (with_keywords (λ ws. ws ++ bytes "x" ∷ [])) empty_log) (0 ∷ [])
    ∷ case (is_valid_with (with_remarks (replicate 75 65 ∷ bytes "[QSORecords" ∷ [] ∷ [])) empty_log) (1 ∷ [])
    ∷ case (is_valid_with (with_remarks (replicate 76 65 ∷ [])) empty_log) (0 ∷ [])
    ∷ case (is_valid_with (with_remarks ((31 ∷ []) ∷ [])) empty_log) (0 ∷ [])
    ∷ case (is_valid_with (with_remarks (bytes "a remark" ∷ bytes "[QSORecords;" ∷ [])) empty_log) (0 ∷ [])
    ∷ case (is_valid_with (with_remarks (bytes "[QSORecords;0]" ∷ [])) empty_log) (0 ∷ [])
    ∷ case (is_valid_with (with_records (a_record ∷ a_record ∷ [])) empty_log) (1 ∷ [])
    ∷ case (is_valid_with (with_records (a_record ∷ bytes "240302;2400;DK1AA;1;59;001;59;004;;JO40AA;120;;N;N;" ∷ [])) empty_log) (0 ∷ [])
    ∷ case (is_valid_with (with_records (a_record ∷ bytes "240302;1401;DK1AA;1;59;001;59;004;;JO40AA;120;;N;N;N" ∷ [])) empty_log) (0 ∷ [])
    ∷ []

-- A text so many times.
unfoldable pub times : ℕ → Text → Text
times zero t = []
times (suc n) t = t ++ times n t

-- The limits of a whole log: 999 records are judged.
unfoldable pub full_log : Text
unfolding text_of plain times
full_log = text_of plain ("[QSORecords;999]" ∷ []) ++ times 999 (bytes ";0000;ERROR;;;;;;;;0;;;;\r\n")

-- A log of 65,535 bytes, whose claimed total has one digit less than the right one.
unfoldable pub long_log : Text
unfolding text_of opening times
long_log =
    text_of (opening ("1;1" ∷ "10" ∷ "1;0;1" ∷ "0" ∷ "0;0;1" ∷ "0" ∷ "0;0;1" ∷ "0" ∷ "9" ∷ [])) []
    ++ times 844 (replicate 75 65 ++ bytes "\r\n")
    ++ replicate 57 65
    ++ bytes "\r\n[QSORecords;1]\r\n240302;1401;DK1AA;;;;;;;JO40AA;10;;N;;\r\n"

-- It is taken, and refused 8, since what it is written as has one byte more.
unfoldable pub limit_cases : List Case
unfolding full_log long_log
limit_cases =
    case (is_shown full_log)
    (bytes "QSOS 0\nPOINTS 0\nWWLS 0\nEXCHANGES 0\nDXCCS 0\nTOTAL 0\n"
    ++ bytes "MODE 0 0\nMODE 1 0\nMODE 2 0\nMODE 3 0\nMODE 4 0\nMODE 5 0\nMODE 6 0\nMODE 7 0\nMODE 8 0\nMODE 9 0\nMODE - 0\n")
    ∷ case (is_written 70000 long_log) (8 ∷ 0 ∷ 0 ∷ [])
    ∷ []
