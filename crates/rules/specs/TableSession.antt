-- The table's cases of the session (W5).
-- Assumes nothing.
use Rattle.std.specs.Prelude.{ℕ, List, [], ◌∷◌, ◌++◌, map, drop}
use Prim.Native.String.{String}
use Rattle.rules.specs.Text.{Text, bytes}
use Rattle.rules.specs.Judging.{Declared}
use Rattle.rules.specs.Session.{Call, starts, takes, gives_back}
use Rattle.rules.specs.Cases.{Case, case, plays, ends_with, has_place_after}
use Rattle.rules.specs.TableLogs.{case12_records}

-- The bonus and the multiplier of squares, exchanges and countries.
abbrev rates : ℕ → ℕ → ℕ → ℕ → ℕ → ℕ → Declared
rates b1 m1 b2 m2 b3 m3 =
    record {
      square_bonus = b1;
      square_multiplier = m1;
      exchange_bonus = b2;
      exchange_multiplier = m2;
      country_bonus = b3;
      country_multiplier = m3;
    }

-- What case 12 declares.
abbrev plainly : Call
plainly = starts (rates 500 1 0 1 0 1)

abbrev taking : List String → List Call
taking ls = map (λ l. takes (bytes l)) ls

-- An answer to a call, with the verdicts afterwards: of one that is refused, by its number and field.
abbrev ok : ℕ → List ℕ → List ℕ
ok total verdicts = 0 ∷ 0 ∷ 0 ∷ total ∷ verdicts

abbrev no : ℕ → ℕ → ℕ → List ℕ → List ℕ
no number field total verdicts = number ∷ 0 ∷ field ∷ total ∷ verdicts

-- # Case 12, record by record

abbrev a : String
a = "240302;1401;DK1AA;1;59;001;59;004;;JO40AA;120;;N;N;"

abbrev again : String
again = "240302;1412;DK1AA;2;599;004;599;009;;JO40AA;120;;;;"

abbrev void : String
void = "240302;1420;DK1AA;1;53;005;;;;;0;;;;"

abbrev other : String
other = "240302;1405;OZ1BB;;59;002;59;010;X;JO40BC;80;;;;"

-- `again` with other points.
abbrev fewer : String
fewer = "240302;1412;DK1AA;2;599;004;599;009;;JO40AA;50;;;;"

abbrev error : String
error = "240302;1410;ERROR;;;003;;;;;0;;;;"

unfoldable pub taking_cases : List Case
unfolding case12_records
taking_cases =
    case (plays 999 (plainly ∷ map (λ l. takes (bytes l)) (drop 1 case12_records)))
    (ok 0 []
    ++ ok 620 (96 ∷ [])
    ++ ok 700 (96 ∷ 64 ∷ [])
    ++ ok 700 (96 ∷ 64 ∷ 3 ∷ [])
    ++ ok 700 (96 ∷ 64 ∷ 3 ∷ 2 ∷ [])
    ++ ok 700 (96 ∷ 64 ∷ 3 ∷ 2 ∷ 1 ∷ []))
    -- a void record makes no duplicate of a later one, and takes part in nothing
    ∷ case (plays 999 (plainly ∷ taking (void ∷ a ∷ again ∷ void ∷ [])))
    (ok 0 [] ++ ok 0 (1 ∷ []) ++ ok 620 (1 ∷ 96 ∷ []) ++ ok 620 (1 ∷ 96 ∷ 2 ∷ []) ++ ok 620 (1 ∷ 96 ∷ 2 ∷ 1 ∷ []))
    -- each declared number has its own part in the total: (200 + 7 + 11 + 13) x 2 x 3 x 5
    ∷ case (ends_with 999 (starts (rates 7 2 11 3 13 5) ∷ taking (a ∷ other ∷ [])))
    (2 ∷ 0 ∷ 0 ∷ 0 ∷ 200 ∷ 1 ∷ 1 ∷ 1 ∷ 7 ∷ 11 ∷ 13 ∷ 6930 ∷ 0 ∷ 1 ∷ 0 ∷ 0 ∷ 0 ∷ 0 ∷ 0 ∷ 0 ∷ 0 ∷ 0 ∷ 1 ∷ [])
    -- of two records of one call the first is credited, with its points, its country and its mode
    ∷ case (ends_with 999 (plainly ∷ taking (a ∷ fewer ∷ [])))
    (1 ∷ 0 ∷ 1 ∷ 0 ∷ 120 ∷ 1 ∷ 0 ∷ 1 ∷ 500 ∷ 0 ∷ 0 ∷ 620 ∷ 0 ∷ 1 ∷ 0 ∷ 0 ∷ 0 ∷ 0 ∷ 0 ∷ 0 ∷ 0 ∷ 0 ∷ 0 ∷ [])
    -- with room for one the second is refused, and the totals stay those of the first
    ∷ case (ends_with 1 (plainly ∷ taking (a ∷ other ∷ [])))
    (1 ∷ 0 ∷ 0 ∷ 0 ∷ 120 ∷ 1 ∷ 0 ∷ 1 ∷ 500 ∷ 0 ∷ 0 ∷ 620 ∷ 0 ∷ 1 ∷ 0 ∷ 0 ∷ 0 ∷ 0 ∷ 0 ∷ 0 ∷ 0 ∷ 0 ∷ 0 ∷ [])
    ∷ []

-- # Giving back, and starting anew

unfoldable pub giving_cases : List Case
giving_cases =
    -- the call, the square and the exchange of the record that is given back are new again
    case (plays 999 (plainly ∷ takes (bytes a) ∷ takes (bytes other) ∷ gives_back ∷ takes (bytes other) ∷ gives_back ∷ gives_back ∷ takes (bytes again) ∷ []))
    (ok 0 [] ++ ok 620 (96 ∷ []) ++ ok 700 (96 ∷ 16 ∷ []) ++ ok 620 (96 ∷ []) ++ ok 700 (96 ∷ 16 ∷ []) ++ ok 620 (96 ∷ []) ++ ok 0 [] ++ ok 620 (32 ∷ []))
    -- a duplicate is given back, and its credited record stays; nothing is left to give back behind the first
    ∷ case (plays 999 (plainly ∷ takes (bytes a) ∷ takes (bytes again) ∷ gives_back ∷ gives_back ∷ gives_back ∷ []))
    (ok 0 [] ++ ok 620 (96 ∷ []) ++ ok 620 (96 ∷ 2 ∷ []) ++ ok 620 (96 ∷ []) ++ ok 0 [] ++ no 12 0 0 [])
    -- starting anew forgets the records and what was declared
    ∷ case (plays 999 (plainly ∷ takes (bytes a) ∷ starts (rates 0 1 0 1 0 1) ∷ gives_back ∷ takes (bytes a) ∷ []))
    (ok 0 [] ++ ok 620 (96 ∷ []) ++ ok 0 [] ++ no 12 0 0 [] ++ ok 120 (96 ∷ []))
    -- a void record and an ERROR are given back like any other, one at a time
    ∷ case (plays 999 (plainly ∷ taking (a ∷ error ∷ void ∷ []) ++ gives_back ∷ gives_back ∷ gives_back ∷ []))
    (ok 0 []
    ++ ok 620 (96 ∷ [])
    ++ ok 620 (96 ∷ 3 ∷ [])
    ++ ok 620 (96 ∷ 3 ∷ 1 ∷ [])
    ++ ok 620 (96 ∷ 3 ∷ [])
    ++ ok 620 (96 ∷ [])
    ++ ok 0 [])
    -- the records are forgotten though the same is declared again
    ∷ case (plays 999 (plainly ∷ takes (bytes a) ∷ plainly ∷ takes (bytes other) ∷ []))
    (ok 0 [] ++ ok 620 (96 ∷ []) ++ ok 0 [] ++ ok 580 (48 ∷ []))
    -- each of the six numbers is the new one: (200 + 17 + 19 + 23) x 3 x 4 x 7
    ∷ case (ends_with 999 (starts (rates 7 2 11 3 13 5) ∷ takes (bytes a) ∷ starts (rates 17 3 19 4 23 7) ∷ taking (a ∷ other ∷ [])))
    (2 ∷ 0 ∷ 0 ∷ 0 ∷ 200 ∷ 1 ∷ 1 ∷ 1 ∷ 17 ∷ 19 ∷ 23 ∷ 21756 ∷ 0 ∷ 1 ∷ 0 ∷ 0 ∷ 0 ∷ 0 ∷ 0 ∷ 0 ∷ 0 ∷ 0 ∷ 1 ∷ [])
    ∷ []

-- # Refusals

-- A session goes on with this record, whatever is refused in between.
abbrev refused_start : Declared → Case
refused_start d =
    case (plays 999 (plainly ∷ takes (bytes a) ∷ starts d ∷ takes (bytes again) ∷ []))
    (ok 0 [] ++ ok 620 (96 ∷ []) ++ no 4 0 620 (96 ∷ []) ++ ok 620 (96 ∷ 2 ∷ []))

abbrev accepted_start : Declared → Case
accepted_start d = case (plays 999 (plainly ∷ takes (bytes a) ∷ starts d ∷ [])) (ok 0 [] ++ ok 620 (96 ∷ []) ++ ok 0 [])

-- 5 with the field of document 01 and line 0.
abbrev refused_line : ℕ → Text → Case
refused_line field l =
    case (plays 999 (plainly ∷ takes (bytes a) ∷ takes l ∷ [])) (ok 0 [] ++ ok 620 (96 ∷ []) ++ no 5 field 620 (96 ∷ []))

unfoldable pub session_refused_cases : List Case
session_refused_cases =
    refused_start (rates 10000 1 0 1 0 1)
    ∷ refused_start (rates 0 1 10000 1 0 1)
    ∷ refused_start (rates 0 1 0 1 10000 1)
    ∷ refused_start (rates 0 0 0 1 0 1)
    ∷ refused_start (rates 0 1 0 0 0 1)
    ∷ refused_start (rates 0 1 0 1 0 0)
    ∷ refused_start (rates 0 100 0 1 0 1)
    ∷ refused_start (rates 0 1 0 100 0 1)
    ∷ refused_start (rates 0 1 0 1 0 100)
    -- a multiplier of 0 is bad with a bonus too; 65,536 and 257 would be good by their lowest bytes
    ∷ refused_start (rates 500 0 0 1 0 1)
    ∷ refused_start (rates 65536 1 0 1 0 1)
    ∷ refused_start (rates 0 257 0 1 0 1)
    -- a start is refused where no record is present, too
    ∷ case (plays 999 (plainly ∷ starts (rates 10000 1 0 1 0 1) ∷ takes (bytes a) ∷ []))
    (ok 0 [] ++ no 4 0 0 [] ++ ok 620 (96 ∷ []))
    ∷ accepted_start (rates 9999 99 9999 99 9999 99)
    ∷ accepted_start (rates 0 1 0 1 0 1)
    ∷ refused_line 0 []
    ∷ refused_line 0 (bytes "240302;1401;DK1AA;1;59;001;59;004;;JO40AA;120;;N;N")
    ∷ refused_line 15 (bytes "240302;1401;DK1AA;1;59;001;59;004;;JO40AA;120;;N;N;\r\n")
    ∷ refused_line 15 (bytes "240302;1401;DK1AA;1;59;001;59;004;;JO40AA;120;;N;N;\r")
    ∷ refused_line 15 (bytes "240302;1401;DK1AA;1;59;001;59;004;;JO40AA;120;;N;N;\n")
    ∷ refused_line 1 (bytes "230229;1401;DK1AA;1;59;001;59;004;;JO40AA;120;;N;N;")
    ∷ refused_line 11 (bytes "240302;1410;ERROR;;;003;;;;;1;;;;")
    ∷ refused_line 9 (bytes "240302;1401;DK1AA;1;59;001;59;004;" ++ 9 ∷ bytes ";JO40AA;120;;N;N;")
    -- a slice with room for two: the third is refused, a bad one by its field first; giving back frees the place
    ∷ case (plays 2 (plainly ∷ taking (a ∷ other ∷ again ∷ "bad" ∷ []) ++ gives_back ∷ taking (again ∷ other ∷ [])))
    (ok 0 []
    ++ ok 620 (96 ∷ [])
    ++ ok 700 (96 ∷ 16 ∷ [])
    ++ no 11 0 700 (96 ∷ 16 ∷ [])
    ++ no 5 0 700 (96 ∷ 16 ∷ [])
    ++ ok 620 (96 ∷ [])
    ++ ok 620 (96 ∷ 2 ∷ [])
    ++ no 11 0 620 (96 ∷ 2 ∷ []))
    ∷ case (plays 0 (plainly ∷ taking (a ∷ []))) (ok 0 [] ++ no 11 0 0 [])
    -- none of the four refusals changes any of the six numbers: (120 + 7 + 13) x 2 x 3 x 5, and with `other` (200 + 7 + 11 + 13) x 2 x 3 x 5
    ∷ case (plays 2 (starts (rates 7 2 11 3 13 5) ∷ gives_back ∷ taking (a ∷ other ∷ []) ++ starts (rates 17 3 19 4 10000 7) ∷ taking ("bad" ∷ again ∷ [])))
    (ok 0 []
    ++ no 12 0 0 []
    ++ ok 4200 (96 ∷ [])
    ++ ok 6930 (96 ∷ 16 ∷ [])
    ++ no 4 0 6930 (96 ∷ 16 ∷ [])
    ++ no 5 0 6930 (96 ∷ 16 ∷ [])
    ++ no 11 0 6930 (96 ∷ 16 ∷ []))
    -- "The 1,000th record is refused", whatever the slices have room for
    ∷ case (has_place_after 998 999) (1 ∷ [])
    ∷ case (has_place_after 998 998) (0 ∷ [])
    ∷ case (has_place_after 999 1000) (0 ∷ [])
    ∷ case (has_place_after 998 1000) (1 ∷ [])
    ∷ case (has_place_after 1000 1001) (0 ∷ [])
    ∷ case (has_place_after 0 1) (1 ∷ [])
    -- slices with less room than there are records
    ∷ case (has_place_after 2 1) (0 ∷ [])
    ∷ []
