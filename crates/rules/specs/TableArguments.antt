-- The table's cases of lines, of arguments and of the 36 keywords.
-- Assumes nothing.
use Rattle.std.specs.Prelude.{ℕ, ◌+◌, ◌-◌, cond, ◌&&◌, List, [], ◌∷◌, ◌++◌, map, leb, length, take, replicate}
use Prim.Native.String.{String}
use Rattle.rules.specs.declared.Due.{Due}
use Rattle.rules.specs.declared.Due.TheVariants.{Identifier, Keyword, Remarks, Remark, Record, End}
use Rattle.rules.specs.Text.{Text, bytes}
use Rattle.rules.specs.Arguments.{Rule, two_dates, a_call, empty_or_call, empty_or_calls, a_locator, an_exchange, a_band, count_and_multiplier, count_bonus_multiplier, claimed_points, claimed_bonus, claimed_total, best_contact, anything}
use Rattle.rules.specs.Cases.{Case, case, ask, texts, varied, has_line, leads, spells_alike, meets_rule}

-- Arguments that keep a rule, and arguments that break it.
abbrev right : Rule → List String → List Case
right rule ss = ask (meets_rule rule) (1 ∷ []) (texts ss)

abbrev wrong : Rule → List String → List Case
wrong rule ss = ask (meets_rule rule) (0 ∷ []) (texts ss)

-- An argument with each of these characters at each of these places keeps its rule, or breaks it.
abbrev right_with : Rule → String → List ℕ → List ℕ → List Case
right_with rule s places codes = ask (meets_rule rule) (1 ∷ []) (varied (bytes s) places codes)

abbrev wrong_with : Rule → String → List ℕ → List ℕ → List Case
wrong_with rule s places codes = ask (meets_rule rule) (0 ∷ []) (varied (bytes s) places codes)

-- Lines: at most 75 characters of code 32 to 127, and CR LF.
unfoldable pub line_cases : List Case
line_cases =
    ask has_line (1 ∷ 3 ∷ []) (bytes "abc\r\n" ∷ bytes "abc\r\nmore" ∷ bytes "abc\r\n\r\n" ∷ (32 ∷ 127 ∷ 126 ∷ 13 ∷ 10 ∷ []) ∷ [])
    ++ ask has_line (1 ∷ 0 ∷ []) (bytes "\r\n" ∷ [])
    ++ ask has_line (1 ∷ 75 ∷ []) ((replicate 75 65 ++ bytes "\r\n") ∷ [])
    ++ ask has_line (0 ∷ [])
    ((replicate 76 65 ++ bytes "\r\n")
    ∷ []
    ∷ bytes "abc"
    ∷ (bytes "abc" ++ (10 ∷ []))
    ∷ (bytes "abc" ++ (13 ∷ []))
    ∷ (bytes "abc" ++ (13 ∷ 65 ∷ 13 ∷ 10 ∷ []))
    ∷ (10 ∷ 13 ∷ [])
    ∷ (65 ∷ 31 ∷ 13 ∷ 10 ∷ [])
    ∷ (65 ∷ 128 ∷ 13 ∷ 10 ∷ [])
    ∷ (65 ∷ 9 ∷ 13 ∷ 10 ∷ [])
    ∷ [])

-- The nineteen forced arguments, on both sides of each bound; the free ones take anything.
unfoldable pub argument_cases : List Case
argument_cases =
    right anything ("" ∷ "any; text = at all" ∷ "[QSORecords;1]" ∷ [])
    ++ right two_dates ("19900101;19900101" ∷ "20891231;20891231" ∷ "20240302;20240303" ∷ "20240229;20240229" ∷ "20000229;20000301" ∷ "19951231;19960101" ∷ [])
    ++ wrong two_dates ("" ∷ "20240302" ∷ "20240302;" ∷ "20240302;20240303;" ∷ "20240302;20240303;20240304" ∷ ";20240303" ∷ "20240302,20240303" ∷ "19891231;19900101" ∷ "20891231;20900101" ∷ "20240303;20240302" ∷ "20240302;20240302 " ∷ "2024032;20240303" ∷ "202403020;20240303" ∷ "20240302;2024030A" ∷ "20230229;20230301" ∷ "20240001;20240101" ∷ "20241301;20241302" ∷ "20240100;20240101" ∷ [])
    ++ right two_dates ("20230131;20231231" ∷ "20230228;20231231" ∷ "20230331;20231231" ∷ "20230430;20231231" ∷ "20230531;20231231" ∷ "20230630;20231231" ∷ "20230731;20231231" ∷ "20230831;20231231" ∷ "20230930;20231231" ∷ "20231031;20231231" ∷ "20231130;20231231" ∷ "20231231;20231231" ∷ [])
    ++ wrong two_dates ("20230132;20231231" ∷ "20230229;20231231" ∷ "20230332;20231231" ∷ "20230431;20231231" ∷ "20230532;20231231" ∷ "20230631;20231231" ∷ "20230732;20231231" ∷ "20230832;20231231" ∷ "20230931;20231231" ∷ "20231032;20231231" ∷ "20231131;20231231" ∷ "20231232;20231231" ∷ [])
    ++ wrong two_dates ("202403002;20240303" ∷ "20240302;202403003" ∷ [])
    ++ right a_call ("OZ1" ∷ "ABCDEFGHIJKLMN" ∷ "0/Z" ∷ "OZ1FDJ/P" ∷ "///" ∷ [])
    ++ wrong a_call ("" ∷ "OZ" ∷ "ABCDEFGHIJKLMNO" ∷ "oz1" ∷ "OZ 1" ∷ "OZ-1" ∷ "OZ1;" ∷ "O[1" ∷ "O@1" ∷ "O:1" ∷ [])
    ++ right empty_or_call ("" ∷ "OZ2AGR" ∷ "ABCDEFGHIJKLMN" ∷ [])
    ++ wrong empty_or_call ("OZ" ∷ " " ∷ "ABCDEFGHIJKLMNO" ∷ "OZ1;OZ2" ∷ [])
    ++ right empty_or_calls ("" ∷ "OZ1FTU" ∷ "OZ1FTU;SM5CC" ∷ "OZ1;OZ2;OZ3;OZ4" ∷ [])
    ++ wrong empty_or_calls (";" ∷ "OZ1;" ∷ ";OZ1" ∷ "OZ1;;OZ2" ∷ "OZ1;OZ" ∷ "OZ1,OZ2" ∷ "OZ1; OZ2" ∷ [])
    ++ right a_locator ("JO65" ∷ "JO65FX" ∷ "AA00AA" ∷ "RR99XX" ∷ "AA00" ∷ "RR99" ∷ [])
    ++ wrong a_locator ("" ∷ "JO6" ∷ "JO65F" ∷ "JO65FY" ∷ "JO65FXA" ∷ "JS65" ∷ "SA65" ∷ "J065" ∷ "JO6A" ∷ "JOA5" ∷ "JO65fx" ∷ "jo65" ∷ "JO65 " ∷ [])
    ++ wrong a_locator ("JO65FRAA" ∷ "JO65FRAAAA" ∷ [])
    ++ right an_exchange ("" ∷ "ABC123" ∷ "1" ∷ "A B" ∷ "@_`{|~" ∷ [])
    ++ wrong an_exchange ("ABC1234" ∷ "a" ∷ "Az" ∷ "A;B" ∷ "ABCz" ∷ [])
    ++ ask (meets_rule an_exchange) (1 ∷ []) ((32 ∷ 127 ∷ []) ∷ [])
    ++ ask (meets_rule an_exchange) (0 ∷ []) ((31 ∷ []) ∷ (128 ∷ []) ∷ (65 ∷ 0 ∷ []) ∷ [])
    ++ right count_and_multiplier ("0;1" ∷ "9999;99" ∷ "24;1" ∷ [])
    ++ wrong count_and_multiplier ("" ∷ "24" ∷ "24;" ∷ "24;1;1" ∷ ";1" ∷ "10000;1" ∷ "9999;100" ∷ "24;0" ∷ "024;1" ∷ "24;01" ∷ "24;00" ∷ "-1;1" ∷ "2 ;1" ∷ [])
    ++ right count_bonus_multiplier ("0;0;1" ∷ "9999;9999;99" ∷ "19;500;1" ∷ [])
    ++ wrong count_bonus_multiplier ("" ∷ "19;500" ∷ "19;500;" ∷ "19;500;1;1" ∷ "10000;0;1" ∷ "0;10000;1" ∷ "0;0;100" ∷ "0;0;0" ∷ "00;0;1" ∷ "0;00;1" ∷ "0;0;01" ∷ ";;" ∷ "0;;1" ∷ "a;0;1" ∷ [])
    ++ right claimed_points ("0" ∷ "999999999" ∷ "100000000" ∷ "7" ∷ [])
    ++ wrong claimed_points ("" ∷ "1000000000" ∷ "00" ∷ "01" ∷ "1a" ∷ "-1" ∷ "1;" ∷ " 1" ∷ [])
    ++ right claimed_bonus ("0" ∷ "9999999" ∷ [])
    ++ wrong claimed_bonus ("" ∷ "10000000" ∷ "00" ∷ "0009999" ∷ [])
    ++ right claimed_total ("0" ∷ "999999999999999" ∷ "998404684715196" ∷ [])
    ++ wrong claimed_total ("" ∷ "1000000000000000" ∷ "000000000000001" ∷ [])
    ++ right best_contact (";;0" ∷ "OY9JD;IP62OA;1302" ∷ "OY9JD;;999999" ∷ ";IP62;0" ∷ [])
    ++ wrong best_contact ("" ∷ ";;" ∷ ";0" ∷ ";;;0" ∷ "OY;IP62OA;1302" ∷ "OY9JD;IP62O;1302" ∷ "OY9JD;IP62OA;1000000" ∷ "OY9JD;IP62OA;01302" ∷ "OY9JD;IP62OA;" ∷ [])

-- The characters just outside each kind, on both sides and at each place: 47 and 58 of a digit, 64 and 91 of a capital letter, 96 and 123 of a
-- small one, 31 and 128 of all that are allowed; and the first and the last of each kind.
unfoldable pub argument_character_cases : List Case
unfolding varied
argument_character_cases =
    wrong_with two_dates "20240302;20240303" (0 ∷ 1 ∷ 2 ∷ 3 ∷ 4 ∷ 5 ∷ 6 ∷ 7 ∷ 9 ∷ 10 ∷ 11 ∷ 12 ∷ 13 ∷ 14 ∷ 15 ∷ 16 ∷ []) (47 ∷ 58 ∷ [])
    ++ wrong_with two_dates "20240302;20240303" (8 ∷ []) (44 ∷ 58 ∷ 60 ∷ [])
    ++ right_with a_call "OZ1FDJ" (0 ∷ 1 ∷ 2 ∷ 3 ∷ 4 ∷ 5 ∷ []) (47 ∷ 48 ∷ 57 ∷ 65 ∷ 90 ∷ [])
    ++ wrong_with a_call "OZ1FDJ" (0 ∷ 1 ∷ 2 ∷ 3 ∷ 4 ∷ 5 ∷ []) (46 ∷ 58 ∷ 59 ∷ 64 ∷ 91 ∷ 97 ∷ [])
    ++ wrong_with empty_or_call "OZ1FDJ" (0 ∷ 5 ∷ []) (46 ∷ 58 ∷ 59 ∷ 64 ∷ 91 ∷ [])
    ++ wrong_with empty_or_calls "OZ1;OZ2AB" (0 ∷ 2 ∷ 4 ∷ 8 ∷ []) (46 ∷ 58 ∷ 64 ∷ 91 ∷ [])
    ++ wrong_with empty_or_calls "OZ1;OZ2AB" (3 ∷ []) (44 ∷ 58 ∷ 60 ∷ [])
    ++ right_with a_locator "JO65FR" (0 ∷ 1 ∷ []) (65 ∷ 82 ∷ [])
    ++ right_with a_locator "JO65FR" (2 ∷ 3 ∷ []) (48 ∷ 57 ∷ [])
    ++ right_with a_locator "JO65FR" (4 ∷ 5 ∷ []) (65 ∷ 88 ∷ [])
    ++ wrong_with a_locator "JO65FR" (0 ∷ 1 ∷ []) (64 ∷ 83 ∷ 48 ∷ [])
    ++ wrong_with a_locator "JO65FR" (2 ∷ 3 ∷ []) (47 ∷ 58 ∷ 65 ∷ [])
    ++ wrong_with a_locator "JO65FR" (4 ∷ 5 ∷ []) (64 ∷ 89 ∷ 48 ∷ [])
    ++ wrong_with a_locator "JO65" (0 ∷ 1 ∷ []) (64 ∷ 83 ∷ [])
    ++ wrong_with a_locator "JO65" (2 ∷ 3 ∷ []) (47 ∷ 58 ∷ [])
    ++ right_with an_exchange "ABC123" (0 ∷ 5 ∷ []) (32 ∷ 58 ∷ 60 ∷ 96 ∷ 123 ∷ 127 ∷ [])
    ++ wrong_with an_exchange "ABC123" (0 ∷ 5 ∷ []) (31 ∷ 59 ∷ 97 ∷ 122 ∷ 128 ∷ [])
    ++ wrong_with count_and_multiplier "24;31" (0 ∷ 1 ∷ 3 ∷ 4 ∷ []) (47 ∷ 58 ∷ [])
    ++ wrong_with count_bonus_multiplier "24;50;31" (0 ∷ 1 ∷ 3 ∷ 4 ∷ 6 ∷ 7 ∷ []) (47 ∷ 58 ∷ [])
    ++ wrong_with claimed_points "120" (0 ∷ 1 ∷ 2 ∷ []) (47 ∷ 58 ∷ [])
    ++ wrong_with claimed_bonus "120" (0 ∷ 1 ∷ 2 ∷ []) (47 ∷ 58 ∷ [])
    ++ wrong_with claimed_total "120" (0 ∷ 1 ∷ 2 ∷ []) (47 ∷ 58 ∷ [])
    ++ wrong_with best_contact "OY9JD;IP62OA;1302" (0 ∷ 4 ∷ 6 ∷ 11 ∷ 13 ∷ 16 ∷ []) (46 ∷ 58 ∷ 64 ∷ 91 ∷ [])

-- The fifteen names in the table of 001.
abbrev names : List Text
names =
    texts
    ("50 MHz"
    ∷ "70 MHz"
    ∷ "144 MHz"
    ∷ "432 MHz"
    ∷ "1,3 GHz"
    ∷ "2,3 GHz"
    ∷ "3,4 GHz"
    ∷ "5,7 GHz"
    ∷ "10 GHz"
    ∷ "24 GHz"
    ∷ "47 GHz"
    ∷ "76 GHz"
    ∷ "120 GHz"
    ∷ "144 GHz"
    ∷ "248 GHz"
    ∷ [])

-- "compared whole": the front of a name is no name, nor is a name with something behind it or before it. The last four are names of 002.
unfoldable pub band_cases : List Case
band_cases =
    ask (meets_rule a_band) (1 ∷ []) names
    ++ ask (meets_rule a_band) (0 ∷ []) (map (λ name. take (length name - 1) name) names)
    ++ ask (meets_rule a_band) (0 ∷ []) (map (λ name. take 3 name) names)
    ++ ask (meets_rule a_band) (0 ∷ []) (map (λ name. name ++ bytes " ") names)
    ++ ask (meets_rule a_band) (0 ∷ []) (map (λ name. 49 ∷ name) names)
    ++ wrong a_band
    (""
    ∷ "144MHz"
    ∷ "144  MHz"
    ∷ "144 mhz"
    ∷ "14 MHz"
    ∷ "1.3 GHz"
    ∷ "1,3 GHZ"
    ∷ "1,2 GHz"
    ∷ "144 MHz;432 MHz"
    ∷ "145 MHz"
    ∷ "435 MHz"
    ∷ "122 GHz"
    ∷ "134 GHz"
    ∷ [])

-- Each letter of a text in its other case.
unfoldable pub turned : Text → Text
turned [] = []
turned (c ∷ s) =
    let toSmall = (c + 32) ∷ turned s in
    let toCapital = (c - 32) ∷ turned s in
    let asItIs = c ∷ turned s in
    cond (leb 65 c && leb c 90) toSmall (cond (leb 97 c && leb c 122) toCapital asItIs)

-- The line of the keyword of this number, the first of which is 1, with each of these arguments: those that are taken, with every letter of the
-- keyword in its other case too, and those that are refused 4. Without its `=`, or with a space before it, the line is refused 3.
abbrev forced : ℕ → String → List String → List String → List Case
forced k name rights wrongs =
    ask (leads (Keyword (k - 1))) (0 ∷ []) (map (λ s. bytes name ++ 61 ∷ bytes s) rights)
    ++ ask (leads (Keyword (k - 1))) (0 ∷ []) (map (λ s. turned (bytes name) ++ 61 ∷ bytes s) rights)
    ++ ask (leads (Keyword (k - 1))) (4 ∷ 0 ∷ []) (map (λ s. bytes name ++ 61 ∷ bytes s) wrongs)
    ++ ask (leads (Keyword (k - 1))) (3 ∷ 0 ∷ []) (map (λ s. bytes name ++ bytes s) ("" ∷ " =" ∷ ":" ∷ []))

-- A free keyword takes what breaks each of the rules.
abbrev free : ℕ → String → List Case
free k name = forced k name ("" ∷ "a; = ;z" ∷ []) []

-- Each of the 36 keywords, right and wrong by its own rule and by no other's.
unfoldable pub keyword_cases : List Case
unfolding turned
keyword_cases =
    free 1 "TName"
    ++ forced 2 "TDate" ("20240302;20240303" ∷ []) ("" ∷ "20240303;20240302" ∷ [])
    ++ forced 3 "PCall" ("OZ1FDJ/P" ∷ []) ("" ∷ "OZ" ∷ "OZ1FDJ;OZ2AGR" ∷ [])
    ++ forced 4 "PWWLo" ("JO65" ∷ "JO65FR" ∷ []) ("" ∷ "JS65" ∷ "JO65F" ∷ [])
    ++ forced 5 "PExch" ("" ∷ "A B" ∷ []) ("a" ∷ "ABCDEFG" ∷ "A;B" ∷ [])
    ++ free 6 "PAdr1"
    ++ free 7 "PAdr2"
    ++ free 8 "PSect"
    ++ forced 9 "PBand" ("144 MHz" ∷ []) ("" ∷ "145 MHz" ∷ [])
    ++ forced 10 "PClub" ("" ∷ "OZ1FDJ/P" ∷ []) ("OZ" ∷ "A B" ∷ "OZ1FDJ;OZ2AGR" ∷ [])
    ++ free 11 "RName"
    ++ forced 12 "RCall" ("" ∷ "OZ1FDJ/P" ∷ []) ("OZ" ∷ "A B" ∷ "OZ1FDJ;OZ2AGR" ∷ [])
    ++ free 13 "RAdr1"
    ++ free 14 "RAdr2"
    ++ free 15 "RPoCo"
    ++ free 16 "RCity"
    ++ free 17 "RCoun"
    ++ free 18 "RPhon"
    ++ free 19 "RHBBS"
    ++ forced 20 "MOpe1" ("" ∷ "OZ1FTU" ∷ "OZ1FTU;SM5CC;OZ1FDJ/P" ∷ []) (";" ∷ "OZ1FTU;" ∷ "OZ" ∷ [])
    ++ forced 21 "MOpe2" ("" ∷ "OZ1FTU" ∷ "OZ1FTU;SM5CC;OZ1FDJ/P" ∷ []) (";" ∷ "OZ1FTU;" ∷ "OZ" ∷ [])
    ++ free 22 "STXEq"
    ++ free 23 "SPowe"
    ++ free 24 "SRXEq"
    ++ free 25 "SAnte"
    ++ free 26 "SAntH"
    ++ forced 27 "CQSOs" ("9999;99" ∷ []) ("" ∷ "24" ∷ "24;500;1" ∷ "24;0" ∷ [])
    ++ forced 28 "CQSOP" ("0" ∷ "999999999" ∷ []) ("" ∷ "1000000000" ∷ "00" ∷ [])
    ++ forced 29 "CWWLs" ("9999;9999;99" ∷ []) ("" ∷ "24;1" ∷ "24;500;0" ∷ [])
    ++ forced 30 "CWWLB" ("0" ∷ "9999999" ∷ []) ("" ∷ "10000000" ∷ "00" ∷ [])
    ++ forced 31 "CExcs" ("9999;9999;99" ∷ []) ("" ∷ "24;1" ∷ "24;500;0" ∷ [])
    ++ forced 32 "CExcB" ("0" ∷ "9999999" ∷ []) ("" ∷ "10000000" ∷ "00" ∷ [])
    ++ forced 33 "CDXCs" ("9999;9999;99" ∷ []) ("" ∷ "24;1" ∷ "24;500;0" ∷ [])
    ++ forced 34 "CDXCB" ("0" ∷ "9999999" ∷ []) ("" ∷ "10000000" ∷ "00" ∷ [])
    ++ forced 35 "CToSc" ("0" ∷ "999999999999999" ∷ []) ("" ∷ "1000000000000000" ∷ "00" ∷ [])
    ++ forced 36 "CODXC" (";;0" ∷ "OY9JD;IP62OA;999999" ∷ []) ("" ∷ ";;" ∷ ";;1000000" ∷ "OY;;0" ∷ [])

-- Lines where something is due (case 3 among them).
abbrev goes : Due → List String → List Case
goes due ss = ask (leads due) (0 ∷ []) (texts ss)

abbrev stops : Due → ℕ → List String → List Case
stops due number ss = ask (leads due) (number ∷ 0 ∷ []) (texts ss)

unfoldable pub due_cases : List Case
due_cases =
    goes Identifier ("[REG1TEST;1]" ∷ [])
    ++ stops Identifier 3 ("" ∷ "[REG1TEST;2]" ∷ "[REG1TEST;1] " ∷ "[reg1test;1]" ∷ "REG1TEST;1" ∷ "[REG1TEST;1" ∷ "[REG1TEST:1]" ∷ "[REG1TEST;1];" ∷ "TName=" ∷ [])
    ++ goes (Keyword 0) ("TName=" ∷ "TName=any = text;" ∷ "Tname=x" ∷ "tnAME=x" ∷ [])
    ++ stops (Keyword 0) 3 ("" ∷ "TName" ∷ "TName =" ∷ "Tnane=x" ∷ "tnam=x" ∷ "tnames=x" ∷ " TName=x" ∷ "TDate=20240302;20240303" ∷ [])
    ++ goes (Keyword 2) ("PCall=OZ1FDJ" ∷ [])
    ++ stops (Keyword 2) 4 ("PCall=" ∷ "PCall= OZ1FDJ" ∷ [])
    -- a wrong keyword is told before its wrong argument, and a keyword in another spelling is none
    ++ stops (Keyword 2) 3 ("PcalL:OZ" ∷ "PCa11=OZ" ∷ "PCallOZ1FDJ" ∷ [])
    ++ stops (Keyword 2) 4 ("Pcall=OZ" ∷ [])
    -- as 000 and the samples spell them: W1 takes what differs in the case of letters alone
    ++ goes (Keyword 4) ("PEXch=" ∷ [])
    ++ goes (Keyword 19) ("mope1=OZ1FTU" ∷ "MOPE1=OZ1FTU" ∷ [])
    ++ stops (Keyword 19) 3 ("MOpel=OZ1FTU" ∷ "MOpeL=OZ1FTU" ∷ "MOpeQ=OZ1FTU" ∷ "MOpeq=OZ1FTU" ∷ [])
    ++ goes (Keyword 25) ("SAnth=" ∷ [])
    ++ goes (Keyword 26) ("CQSOS=24;1" ∷ [])
    ++ stops (Keyword 26) 3 ("CQS0s=24;1" ∷ [])
    ++ stops (Keyword 28) 3 ("CWWLP=24;0;1" ∷ [])
    ++ goes (Keyword 30) ("CEXcs=24;0;1" ∷ [])
    ++ stops (Keyword 32) 3 ("CDXCc=24;0;1" ∷ [])
    ++ goes (Keyword 35) ("CODXC=;;0" ∷ "CODXc=;;0" ∷ [])
    ++ stops (Keyword 35) 3 ("[Remarks]" ∷ [])
    ++ goes Remarks ("[Remarks]" ∷ [])
    ++ stops Remarks 3 ("" ∷ "[Remarks] " ∷ "[remarks]" ∷ "[Remarks" ∷ [])
    ++ goes Remark ("" ∷ "[Remarks]" ∷ "[QSORecords" ∷ "[QSORecords:1]" ∷ " [QSORecords;1]" ∷ "[QSORecords;0]" ∷ "[QSORecords;999]" ∷ [])
    ++ stops Remark 4
    ("[QSORecords;1000]"
    ∷ "[QSORecords;]"
    ∷ "[QSORecords;01]"
    ∷ "[QSORecords;00]"
    ∷ "[QSORecords;1] "
    ∷ "[QSORecords;1]]"
    ∷ "[QSORecords;1"
    ∷ "[QSORecords; 1]"
    ∷ "[QSORecords;1;]"
    ∷ "[QSORecords;99999999999999999999]"
    ∷ "[QSORecords;1)"
    ∷ "[QSORecords;/]"
    ∷ "[QSORecords;:]"
    ∷ "[QSORecords;-1]"
    ∷ "[QSORecords;"
    ∷ [])
    ++ goes (Record 2) ("240302;1401;DK1AA;1;59;001;59;004;;JO40AA;120;;N;N;" ∷ [])
    ++ ask (leads (Record 2)) (5 ∷ 11 ∷ []) (texts ("240302;1401;DK1AA;1;59;001;59;004;;JO40AA;007;;N;N;" ∷ []))
    ++ stops End 6 ("" ∷ "x" ∷ [])

-- Texts that are the same but for the case of their letters: of the characters that differ by 32, letters alone.
abbrev alike : String → String → Case
alike s t = case (spells_alike (bytes s) (bytes t)) (1 ∷ [])

abbrev unlike : ℕ → ℕ → Case
unlike c d = case (spells_alike (c ∷ []) (d ∷ [])) (0 ∷ [])

unfoldable pub spelling_cases : List Case
spelling_cases =
    alike "" ""
    ∷ alike "ABCDEFGHIJKLMNOPQRSTUVWXYZ" "abcdefghijklmnopqrstuvwxyz"
    ∷ alike "abcdefghijklmnopqrstuvwxyz" "ABCDEFGHIJKLMNOPQRSTUVWXYZ"
    ∷ alike "aBcD1;= " "AbCd1;= "
    ∷ case (spells_alike (bytes "ab") (bytes "a")) (0 ∷ [])
    ∷ case (spells_alike (bytes "a") (bytes "ab")) (0 ∷ [])
    ∷ case (spells_alike (bytes "ab") (bytes "ac")) (0 ∷ [])
    ∷ case (spells_alike (bytes "ab") (bytes "BA")) (0 ∷ [])
    ∷ map (λ c. unlike c (c + 32)) (32 ∷ 42 ∷ 48 ∷ 49 ∷ 57 ∷ 61 ∷ 64 ∷ 91 ∷ 92 ∷ 93 ∷ 94 ∷ 95 ∷ 96 ∷ 97 ∷ 122 ∷ 123 ∷ [])
    ++ map (λ c. unlike (c + 32) c) (16 ∷ 17 ∷ 29 ∷ 32 ∷ 48 ∷ 49 ∷ 57 ∷ 64 ∷ 91 ∷ 92 ∷ 93 ∷ 94 ∷ 95 ∷ 97 ∷ 122 ∷ [])
