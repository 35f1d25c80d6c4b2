-- The table's cases of the link (W7).
-- Assumes nothing.
use Rattle.std.specs.Prelude.{ℕ, length, take, drop, replicate}
use mathlib.Core.List.{List, [], ◌∷◌, ◌++◌, flat_map}
use Rattle.rules.specs.Text.{Text, bytes}
use Rattle.rules.specs.Cases.{Case, case, LinkCall, feeds, closes, links}
use Rattle.rules.specs.TableLogs.{lined, text_of, plain, case12, case12_written, empty_log, three_bad}

-- A call with slices that suffice for case 12: five verdicts, and five times 24 bytes.
abbrev fed : Text → LinkCall
fed s = feeds 5 120 s

abbrev closed : LinkCall
closed = closes 5 120

-- Nothing is refused, and so many verdicts are written; or it is refused.
abbrev on : ℕ → List ℕ
on verdicts = 0 ∷ 0 ∷ 0 ∷ verdicts ∷ []

abbrev no : ℕ → ℕ → ℕ → ℕ → List ℕ
no number line field verdicts = number ∷ line ∷ field ∷ verdicts ∷ []

-- The closing refuses, or repeats a refusal: the total is zero, and these verdicts stay.
abbrev no_closing : ℕ → ℕ → ℕ → List ℕ → List ℕ
no_closing number line field verdicts = number ∷ line ∷ field ∷ 0 ∷ verdicts

-- The closing accepts case 12.
abbrev judged12 : List ℕ
judged12 = 0 ∷ 0 ∷ 0 ∷ 700 ∷ 96 ∷ 64 ∷ 3 ∷ 2 ∷ 1 ∷ []

-- # Case 12, cut

-- Each byte is a piece, and behind it comes a piece of none.
unfoldable pub byte_by_byte : Text → List LinkCall
byte_by_byte [] = []
byte_by_byte (b ∷ s) = fed (b ∷ []) ∷ fed [] ∷ byte_by_byte s

-- What is answered meanwhile: nothing is refused as long as the bytes of so many calls come, and so many verdicts are written.
unfoldable pub quietly : ℕ → ℕ → List ℕ
unfolding flat_map
quietly calls verdicts = flat_map (λ (v : ℕ). on v) (replicate calls verdicts)

-- Case 12 in two pieces, cut behind so many bytes; so many verdicts are written by the first.
abbrev cut : ℕ → ℕ → Case
cut n verdicts =
    case (links 0 (fed (take n case12) ∷ fed (drop n case12) ∷ closed ∷ [])) (on verdicts ++ on 5 ++ judged12)

unfoldable pub cut_cases : List Case
unfolding case12 case12_written text_of plain byte_by_byte quietly
cut_cases =
    case (links 0 (fed case12 ∷ closed ∷ [])) (on 5 ++ judged12)
    -- what is written back of it, where the last byte of a line decides; an ERROR record with no date, where the first does
    ∷ case (links 0 (fed case12_written ∷ closed ∷ [])) (on 5 ++ judged12)
    ∷ case (links 0 (fed (text_of plain ("[QSORecords;1]" ∷ ";1410;ERROR;;;003;;;;;0;;;;" ∷ [])) ∷ closed ∷ [])) (on 1 ++ 0 ∷ 0 ∷ 0 ∷ 0 ∷ 3 ∷ [])
    -- in front of all bytes, behind one, around the first CR LF
    ∷ cut 0 0
    ∷ cut 1 0
    ∷ cut 12 0
    ∷ cut 13 0
    ∷ cut 14 0
    -- in the count line, and around its end
    ∷ cut 442 0
    ∷ cut 455 0
    ∷ cut 456 0
    ∷ cut 457 0
    ∷ cut 458 0
    -- in the first record, and around its end
    ∷ cut 459 0
    ∷ cut 509 0
    ∷ cut 510 0
    ∷ cut 511 1
    ∷ cut 512 1
    -- behind the third, and at the end
    ∷ cut 597 3
    ∷ cut 650 4
    ∷ cut 686 4
    ∷ cut 687 4
    ∷ cut 688 5
    -- in three pieces, and byte by byte
    ∷ case (links 0 (fed (take 500 case12) ∷ fed (take 10 (drop 500 case12)) ∷ fed (drop 510 case12) ∷ closed ∷ []))
    (on 0 ++ on 0 ++ on 5 ++ judged12)
    ∷ case (links 0 (byte_by_byte case12 ++ closed ∷ []))
    (quietly 1020 0 ++ quietly 102 1 ++ quietly 70 2 ++ quietly 106 3 ++ quietly 76 4 ++ quietly 2 5 ++ judged12)
    ∷ []

-- # Refusals, and when they are settled

-- The lines up to `[Remarks]`, behind which line 39 is due.
abbrev header : Text
header = lined plain

-- These bytes are taken, and then the next one, or what is told of it.
abbrev then : Text → Text → List ℕ → Case
then s t says = case (links 0 (fed s ∷ fed t ∷ [])) (on 0 ++ says)

-- What is fed is taken; the closing refuses.
abbrev unclosed : Text → ℕ → ℕ → List ℕ → Case
unclosed s number line verdicts =
    case (links 0 (fed s ∷ closed ∷ [])) (on (length verdicts) ++ no_closing number line 0 verdicts)

unfoldable pub link_refused_cases : List Case
unfolding case12 text_of lined plain empty_log three_bad
link_refused_cases =
    -- 2: a byte that no line has
    then (bytes "[REG") (1 ∷ []) (no 2 1 0 0)
    ∷ then [] (10 ∷ []) (no 2 1 0 0)
    ∷ then header (31 ∷ []) (no 2 39 0 0)
    ∷ then header (32 ∷ 127 ∷ []) (on 0)
    ∷ then header (128 ∷ []) (no 2 39 0 0)
    ∷ then header (0 ∷ []) (no 2 39 0 0)
    ∷ then header (9 ∷ []) (no 2 39 0 0)
    ∷ then header (255 ∷ []) (no 2 39 0 0)
    ∷ then (header ++ lined (replicate 300 [])) (1 ∷ []) (no 2 339 0 0)
    ∷ then (header ++ bytes "x") (10 ∷ []) (no 2 39 0 0)
    -- 2: the 76th character
    ∷ then (header ++ replicate 75 65) (13 ∷ 10 ∷ []) (on 0)
    ∷ then (header ++ replicate 75 65) (65 ∷ []) (no 2 39 0 0)
    ∷ then (header ++ replicate 74 65) (65 ∷ 65 ∷ []) (no 2 39 0 0)
    -- 2: a CR with no LF behind it
    ∷ then (header ++ bytes "x\r") (bytes "x") (no 2 39 0 0)
    ∷ then (header ++ bytes "x\r") (13 ∷ []) (no 2 39 0 0)
    ∷ then (header ++ bytes "x\r") (32 ∷ 10 ∷ []) (no 2 39 0 0)
    ∷ then (header ++ bytes "\r") (10 ∷ []) (on 0)
    -- 3 comes at the line's LF, and not before: 2 may come instead
    ∷ then (bytes "[REG1TEST;2]") (13 ∷ []) (on 0)
    ∷ then (bytes "[REG1TEST;2]\r") (10 ∷ []) (no 3 1 0 0)
    ∷ then (bytes "[REG1TEST;2]") (1 ∷ []) (no 2 1 0 0)
    ∷ then (bytes "[REG1TEST;1]\r\nTDate=\r") (10 ∷ []) (no 3 2 0 0)
    -- 4 too, of an argument and of the count line
    ∷ then (lined (take 9 plain) ++ bytes "PBand=145 MHz\r") (10 ∷ []) (no 4 10 0 0)
    ∷ then (header ++ bytes "[QSORecords;1000]\r") (10 ∷ []) (no 4 39 0 0)
    ∷ then (header ++ bytes "[QSORecords;1000]") (1 ∷ []) (no 2 39 0 0)
    -- 5 too: the verdict in front of it stays, and no more are written
    ∷ case (links 0 (fed three_bad ∷ fed case12 ∷ closed ∷ [])) (no 5 41 3 1 ++ no 5 41 3 1 ++ no_closing 5 41 3 (3 ∷ []))
    ∷ case (links 0 (fed (take 458 case12 ++ bytes "240302;2400;DK1AA;1;59;001;59;004;;JO40AA;120;;N;N;\r") ∷ fed (10 ∷ []) ∷ []))
    (on 0 ++ no 5 40 2 0)
    -- 6: the first byte too many, whatever it is; and where a record is due at the end
    ∷ case (links 0 (fed (case12 ++ bytes "x") ∷ closed ∷ [])) (no 6 45 0 5 ++ no_closing 6 45 0 (96 ∷ 64 ∷ 3 ∷ 2 ∷ 1 ∷ []))
    ∷ case (links 0 (fed case12 ∷ fed (1 ∷ []) ∷ [])) (on 5 ++ no 6 45 0 5)
    ∷ case (links 0 (fed case12 ∷ fed (13 ∷ []) ∷ fed (10 ∷ []) ∷ [])) (on 5 ++ no 6 45 0 5 ++ no 6 45 0 5)
    ∷ then empty_log (0 ∷ []) (no 6 40 0 0)
    ∷ then empty_log (26 ∷ []) (no 6 40 0 0)
    ∷ unclosed (take 458 case12) 6 40 []
    ∷ unclosed (take 511 case12) 6 41 (96 ∷ [])
    -- 2 at the end: nothing came, a line is not finished, or a CR stands alone
    ∷ unclosed [] 2 1 []
    ∷ unclosed (take 14 case12) 2 2 []
    ∷ unclosed header 2 39 []
    ∷ unclosed (header ++ bytes "[QSORecords;0]") 2 39 []
    ∷ unclosed (header ++ bytes "[QSORecords;0]\r") 2 39 []
    ∷ unclosed (take 512 case12) 2 41 (96 ∷ [])
    ∷ unclosed (take 511 case12 ++ bytes "\r") 2 41 (96 ∷ [])
    ∷ unclosed (take 687 case12) 2 44 (96 ∷ 64 ∷ 3 ∷ 2 ∷ [])
    -- 1: the 65,536th byte, whatever it is; what the 65,535th settles stays
    ∷ case (links 65534 (fed (bytes "[") ∷ fed (bytes "R") ∷ closed ∷ [])) (on 0 ++ no 1 0 0 0 ++ no_closing 1 0 0 [])
    ∷ case (links 65533 (fed (bytes "[R") ∷ fed (bytes "E") ∷ [])) (on 0 ++ no 1 0 0 0)
    ∷ case (links 65533 (fed [] ∷ fed (bytes "[") ∷ fed (bytes "R") ∷ fed (bytes "E") ∷ [])) (on 0 ++ on 0 ++ on 0 ++ no 1 0 0 0)
    ∷ case (links 65535 (fed [] ∷ fed (1 ∷ []) ∷ [])) (on 0 ++ no 1 0 0 0)
    ∷ case (links 65520 (fed (take 15 case12) ∷ fed (take 1 (drop 15 case12)) ∷ [])) (on 0 ++ no 1 0 0 0)
    ∷ case (links 65522 (fed (bytes "[REG1TEST;2]\r") ∷ fed (10 ∷ []) ∷ [])) (on 0 ++ no 1 0 0 0)
    ∷ case (links 64847 (fed case12 ∷ closed ∷ [])) (on 5 ++ judged12)
    ∷ case (links 64847 (fed case12 ∷ fed (bytes "x") ∷ closed ∷ [])) (on 5 ++ no 1 0 0 5 ++ no_closing 1 0 0 (96 ∷ 64 ∷ 3 ∷ 2 ∷ 1 ∷ []))
    ∷ case (links 65534 (fed (1 ∷ 1 ∷ []) ∷ [])) (no 2 1 0 0)
    ∷ case (links 65535 (closed ∷ [])) (no_closing 2 1 0 [])
    ∷ []

-- # The slices, and calls behind a refusal and behind the closing

unfoldable pub link_lent_cases : List Case
unfolding case12 text_of lined plain empty_log
link_lent_cases =
    -- 7 at the count line, for each of the two slices; in front of it they may have any length
    case (links 0 (feeds 4 120 case12 ∷ closes 5 120 ∷ [])) (no 7 0 0 0 ++ no_closing 7 0 0 [])
    ∷ case (links 0 (feeds 5 119 case12 ∷ fed [] ∷ [])) (no 7 0 0 0 ++ no 7 0 0 0)
    ∷ case (links 0 (feeds 5 96 case12 ∷ [])) (no 7 0 0 0)
    ∷ case (links 0 (feeds 4 999 case12 ∷ [])) (no 7 0 0 0)
    ∷ case (links 0 (feeds 999 119 case12 ∷ [])) (no 7 0 0 0)
    ∷ case (links 0 (feeds 0 0 (take 457 case12) ∷ feeds 4 120 (10 ∷ []) ∷ [])) (on 0 ++ no 7 0 0 0)
    ∷ case (links 0 (feeds 0 0 (take 457 case12) ∷ fed (drop 457 case12) ∷ closed ∷ [])) (on 0 ++ on 5 ++ judged12)
    -- it comes before a record is looked at, but behind what is wrong in front of the count line
    ∷ case (links 0 (feeds 4 120 (take 458 case12 ++ (1 ∷ [])) ∷ [])) (no 7 0 0 0)
    ∷ case (links 0 (feeds 0 0 (bytes "[REG1TEST;2]\r\n") ∷ [])) (no 3 1 0 0)
    ∷ case (links 0 (feeds 0 0 (header ++ bytes "[QSORecords;1000]\r\n") ∷ [])) (no 4 39 0 0)
    -- 7 in a later call, before any byte is taken
    ∷ case (links 0 (fed (take 511 case12) ∷ feeds 4 120 (1 ∷ []) ∷ closed ∷ [])) (on 1 ++ no 7 0 0 1 ++ no_closing 7 0 0 (96 ∷ []))
    ∷ case (links 0 (fed (take 511 case12) ∷ feeds 5 119 [] ∷ [])) (on 1 ++ no 7 0 0 1)
    ∷ case (links 0 (fed (take 520 case12) ∷ feeds 4 120 [] ∷ [])) (on 1 ++ no 7 0 0 1)
    ∷ case (links 0 (fed (take 458 case12) ∷ feeds 0 0 (drop 458 case12) ∷ [])) (on 0 ++ no 7 0 0 0)
    -- at the closing too, whatever is missing there
    ∷ case (links 0 (fed (take 511 case12) ∷ closes 4 120 ∷ [])) (on 1 ++ no_closing 7 0 0 (96 ∷ []))
    ∷ case (links 0 (fed (take 512 case12) ∷ closes 5 119 ∷ [])) (on 1 ++ no_closing 7 0 0 (96 ∷ []))
    ∷ case (links 0 (fed case12 ∷ closes 4 120 ∷ [])) (on 5 ++ no_closing 7 0 0 (96 ∷ 64 ∷ 3 ∷ 2 ∷ 1 ∷ []))
    ∷ case (links 0 (fed case12 ∷ closes 5 119 ∷ [])) (on 5 ++ no_closing 7 0 0 (96 ∷ 64 ∷ 3 ∷ 2 ∷ 1 ∷ []))
    ∷ case (links 65535 (feeds 0 0 (1 ∷ []) ∷ [])) (no 1 0 0 0)
    -- no record needs no slice
    ∷ case (links 0 (feeds 0 0 empty_log ∷ closes 0 0 ∷ [])) (on 0 ++ 0 ∷ 0 ∷ 0 ∷ 0 ∷ [])
    -- slices may be longer
    ∷ case (links 0 (feeds 999 23976 case12 ∷ closes 6 121 ∷ [])) (on 5 ++ judged12)
    ∷ case (links 0 (feeds 999 120 case12 ∷ closes 5 999 ∷ [])) (on 5 ++ judged12)
    -- a refusal is repeated, whatever comes and whatever is lent
    ∷ case (links 0 (fed (1 ∷ []) ∷ fed case12 ∷ feeds 0 0 [] ∷ closes 0 0 ∷ closed ∷ []))
    (no 2 1 0 0 ++ no 2 1 0 0 ++ no 2 1 0 0 ++ no_closing 2 1 0 [] ++ no_closing 2 1 0 [])
    ∷ case (links 0 (fed (take 511 case12) ∷ closed ∷ fed (drop 511 case12) ∷ closed ∷ []))
    (on 1 ++ no_closing 6 41 0 (96 ∷ []) ++ no 6 41 0 1 ++ no_closing 6 41 0 (96 ∷ []))
    -- 13 behind a closing that accepted, and again
    ∷ case (links 0 (fed case12 ∷ closed ∷ closed ∷ fed [] ∷ feeds 0 0 (1 ∷ []) ∷ closes 0 0 ∷ []))
    (on 5 ++ judged12 ++ no_closing 13 0 0 (96 ∷ 64 ∷ 3 ∷ 2 ∷ 1 ∷ []) ++ no 13 0 0 5 ++ no 13 0 0 5 ++ no_closing 13 0 0 (96 ∷ 64 ∷ 3 ∷ 2 ∷ 1 ∷ []))
    ∷ []
