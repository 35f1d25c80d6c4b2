-- "Shape of a log": a log as a value, which logs are valid, and the bytes that a log is written as. The format is a set of texts: those
-- that a valid log is written as.
-- Assumes nothing.
use Rattle.std.specs.Prelude.{ℕ, ◌+◌, ◌≡◌, Bool, true, false, cond, not, ◌&&◌, List, [], ◌∷◌, ◌++◌, map, T, leb, length}
use Rattle.rules.specs.Text.{Text, bytes, all, allowed, same, same_but_case, begins, joined, digits}
use Rattle.rules.specs.Rules.{Rules}
use Rattle.rules.specs.Fields.{Qso, fields_of, field_rules}
use Rattle.rules.specs.Arguments.{Entry, entries, meets, every}

-- The 36 keywords as they are spelt, their arguments, the remark lines and the records; N is the number of records.
pub record Log : Type 0 where
  pub keywords : List Text
  pub arguments : List Text
  pub remarks : List Text
  pub records : List Qso

-- The argument of a keyword.
unfoldable pub argument_in : List Entry → List Text → Text → Text
unfolding same
argument_in [] ts keyword = []
argument_in (e ∷ es) [] keyword = []
argument_in (e ∷ es) (t ∷ ts) keyword =
    let later = argument_in es ts keyword in
    cond (same e.keyword keyword) t later

unfoldable pub argument : Log → Text → Text
unfolding argument_in entries
argument log keyword = argument_in entries log.arguments keyword

-- "In order: `[REG1TEST;1]`; the 36 keyword lines ..; `[Remarks]`; zero or more remark lines; `[QSORecords;N]`; N records; nothing more."
unfoldable pub identifier : Text
identifier = bytes "[REG1TEST;1]"

unfoldable pub remarks_line : Text
remarks_line = bytes "[Remarks]"

unfoldable pub count_start : Text
count_start = bytes "[QSORecords;"

unfoldable pub count_line : ℕ → Text
unfolding count_start digits
count_line n = count_start ++ digits n ++ bytes "]"

-- "The keyword is followed at once by `=`."
unfoldable pub keyword_start : Text → Text
keyword_start keyword = keyword ++ bytes "="

unfoldable pub keyword_lines : List Text → List Text → List Text
unfolding keyword_start
keyword_lines [] ts = []
keyword_lines (w ∷ ws) [] = []
keyword_lines (w ∷ ws) (t ∷ ts) = (keyword_start w ++ t) ∷ keyword_lines ws ts

-- The listed spelling of these keywords.
unfoldable pub keywords_of : List Entry → List Text
keywords_of es = map (λ e. e.keyword) es

-- W1: "the keyword matcher now also says whether the spelling was the listed one": how many keywords are not spelt as they are listed.
unfoldable pub respelt : List Entry → List Text → ℕ
unfolding same
respelt [] ws = 0
respelt (e ∷ es) [] = 0
respelt (e ∷ es) (w ∷ ws) = cond (same e.keyword w) 0 1 + respelt es ws

-- "Exactly 14 semicolons"
unfoldable pub record_line : Qso → Text
unfolding joined fields_of
record_line q = joined (fields_of q)

unfoldable pub lines_of : Log → List Text
unfolding identifier keyword_lines remarks_line count_line record_line
lines_of log =
    identifier
    ∷ keyword_lines log.keywords log.arguments
    ++ remarks_line
    ∷ log.remarks
    ++ count_line (length log.records)
    ∷ map record_line log.records

-- Lines "end with CR LF (001)".
unfoldable pub crlf : Text
crlf = 13 ∷ 10 ∷ []

unfoldable pub ended : List Text → Text
unfolding crlf
ended [] = []
ended (l ∷ ls) = l ++ crlf ++ ended ls

-- The bytes that a log is written as.
unfoldable pub render : Log → Text
unfolding ended lines_of
render log = ended (lines_of log)

-- "Lines hold at most 75 characters, each of code 32 to 127"
unfoldable pub line_rule : Rules → Text → Bool
unfolding all
line_rule R l = leb (length l) R.longest_line && all allowed l

-- W1: "Read a keyword in either letter case": each of the 36 is spelt as it is listed, but for the case of its letters.
unfoldable pub keyword_rules : List Entry → List Text → Bool
unfolding same_but_case
keyword_rules [] [] = true
keyword_rules [] (w ∷ ws) = false
keyword_rules (e ∷ es) [] = false
keyword_rules (e ∷ es) (w ∷ ws) = same_but_case e.keyword w && keyword_rules es ws

-- Each of the 36 keywords has its argument, and "the other nineteen are forced".
unfoldable pub argument_rules : Rules → List Entry → List Text → Bool
unfolding meets
argument_rules R [] [] = true
argument_rules R [] (t ∷ ts) = false
argument_rules R (e ∷ es) [] = false
argument_rules R (e ∷ es) (t ∷ ts) = meets R e.rule t && argument_rules R es ts

-- "The first line after `[Remarks]` that begins `[QSORecords;` is the count line": no remark does.
unfoldable pub remark_rule : Text → Bool
unfolding begins count_start
remark_rule l = not (begins count_start l)

-- Each field of each record keeps its rule.
unfoldable pub conjunction : List Bool → Bool
conjunction [] = true
conjunction (b ∷ bs) = b && conjunction bs

unfoldable pub record_rules : Rules → List Qso → Bool
unfolding conjunction field_rules
record_rules R [] = true
record_rules R (q ∷ qs) = conjunction (field_rules R q) && record_rules R qs

unfoldable pub valid : Rules → Log → Bool
unfolding render lines_of entries every line_rule keyword_rules argument_rules remark_rule record_rules
valid R log =
    leb (length (render log)) R.longest_log
    && every (line_rule R) (lines_of log)
    && keyword_rules entries log.keywords
    && argument_rules R entries log.arguments
    && every remark_rule log.remarks
    && leb (length log.records) R.most_records
    && record_rules R log.records

-- A text follows the format exactly when it is what some valid log is written as.
abbrev pub IsWrittenAs : Rules → Text → Log → Type 0
IsWrittenAs R s log = T (valid R log) × (render log ≡ s)

abbrev pub FollowsTheFormat : Rules → Text → Type 0
FollowsTheFormat R s = (log : Log) × IsWrittenAs R s log
