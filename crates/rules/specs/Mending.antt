-- W2, "A file that a mail program chewed": what the mender does to a text, what it tells of it, and when it says no.
-- Assumes nothing.
use Rattle.std.specs.Prelude.{ℕ, ◌+◌, Bool, true, false, cond, ◌&&◌, List, [], ◌∷◌, ◌++◌, map, leb, ltb, eqb, length, drop}
use Rattle.rules.specs.declared.Refusal.{Refusal}
use Rattle.rules.specs.declared.Region.{Region}
use Rattle.rules.specs.declared.Region.TheVariants.{Head, Remarks, Records}
use Rattle.rules.specs.Text.{Text, bytes, digit, span, same, begins, empty}
use Rattle.rules.specs.Rules.{Rules}
use Rattle.rules.specs.Log.{remarks_line, count_start, count_line, ended}
use Rattle.rules.specs.Reading.{Reading, accepted, refused, refusal, read}
use Rattle.rules.specs.Answers.{no_refusal}

-- # Lines

-- "A line here ends at LF": its characters, and whether LF stands behind them. Only a last line can lack it.
pub record ChewedLine : Type 0 where
  pub text : Text
  pub ends : Bool

-- The character goes in front of the first line.
unfoldable pub in_front : ℕ → List ChewedLine → List ChewedLine
in_front c [] = record { text = c ∷ []; ends = false } ∷ []
in_front c (l ∷ ls) = record { text = c ∷ l.text; ends = l.ends } ∷ ls

unfoldable pub chewed_lines : Text → List ChewedLine
unfolding in_front
chewed_lines [] = []
chewed_lines (c ∷ s) =
    let more = chewed_lines s in
    cond (eqb c 10) (record { text = []; ends = true } ∷ more) (in_front c more)

-- CR is the last character.
unfoldable pub ends_in_cr : Text → Bool
ends_in_cr [] = false
ends_in_cr (c ∷ []) = eqb c 13
ends_in_cr (c ∷ d ∷ s) = ends_in_cr (d ∷ s)

-- The text in front of it.
unfoldable pub without_cr : Text → Text
without_cr [] = []
without_cr (c ∷ []) = cond (eqb c 13) [] (c ∷ [])
without_cr (c ∷ d ∷ s) = c ∷ without_cr (d ∷ s)

-- A line as it is mended: its text, behind which CR LF will stand, and the kinds of the things that were done to it, 1 to 4.
pub record MendedLine : Type 0 where
  pub text : Text
  pub done : List ℕ

-- # The four things

-- 1: "put CR before a bare LF"; 2: "end a last line that has bytes and no LF, adding LF after a CR, else CR LF"
unfoldable pub end_done : ChewedLine → List ℕ
unfolding ends_in_cr
end_done l = cond l.ends (cond (ends_in_cr l.text) [] (1 ∷ [])) (2 ∷ [])

unfoldable pub end_mended : ChewedLine → MendedLine
unfolding without_cr end_done
end_mended l = record { text = without_cr l.text; done = end_done l }

-- 3: "drop spaces at the end"
unfoldable pub trimmed : Text → Text
trimmed [] = []
trimmed (c ∷ s) =
    let rest = trimmed s in
    cond (eqb c 32 && empty rest) [] (c ∷ rest)

-- 4: "where the count line is one or more digits between `[QSORecords;` and `]`, set them to the number of lines that follow"
unfoldable pub digits_then_end : Text → Bool
unfolding span same
digits_then_end t =
    let n = span digit t in
    leb 1 n && same (drop n t) (bytes "]")

unfoldable pub has_count : Text → Bool
unfolding begins count_start digits_then_end
has_count l = begins count_start l && digits_then_end (drop (length count_start) l)

unfoldable pub count_set : ℕ → Text → Text
unfolding has_count count_line
count_set follow l = cond (has_count l) (count_line follow) l

-- A line gets this text. "It lists each thing it changed": where the text is the one that the line has, nothing was done.
unfoldable pub changed_to : ℕ → Text → MendedLine → MendedLine
unfolding same
changed_to kind new l =
    record { text = new; done = l.done ++ cond (same new l.text) [] (kind ∷ []) }

-- # Where a line lies

-- "only the first two if no line is `[Remarks]`": a line lies in the head as long as none was. "The first line after `[Remarks]` that begins
-- `[QSORecords;` is the count line", and all behind it are record lines.
unfoldable pub region_after : Region → Text → Region
unfolding same remarks_line begins count_start
region_after Head l = cond (same l remarks_line) Remarks Head
region_after Remarks l = cond (begins count_start l) Records Remarks
region_after Records l = Records

-- What is done to a line besides its end, by where it lies, where so many lines follow it. No line among the remarks but the count line has a count.
unfoldable pub line_mended : Region → ℕ → MendedLine → MendedLine
unfolding changed_to count_set trimmed
line_mended Head follow l = l
line_mended Remarks follow l = changed_to 4 (count_set follow l.text) l
line_mended Records follow l = changed_to 3 (trimmed l.text) l

unfoldable pub lines_mended : Region → List MendedLine → List MendedLine
unfolding line_mended region_after
lines_mended region [] = []
lines_mended region (l ∷ ls) =
    line_mended region (length ls) l ∷ lines_mended (region_after region l.text) ls

-- # The mended log and the list

-- "It does four things in this order and no others": the ends of all lines first, then what lies in each.
unfoldable pub mended_lines : Text → List MendedLine
unfolding lines_mended end_mended chewed_lines
mended_lines s = lines_mended Head (map end_mended (chewed_lines s))

unfoldable pub texts_of : List MendedLine → List Text
texts_of ls = map (λ l. l.text) ls

unfoldable pub mended_text : Text → Text
unfolding ended texts_of mended_lines
mended_text s = ended (texts_of (mended_lines s))

-- "It lists each thing it changed in a line once, as kind 1 to 4 and line, .. by line, then in the order above."
pub record Change : Type 0 where
  pub kind : ℕ
  pub line : ℕ

unfoldable pub changes_in : ℕ → List ℕ → List Change
changes_in line kinds = map (λ kind. record { kind = kind; line = line }) kinds

-- Of lines the first of which has this number.
unfoldable pub changes_from : ℕ → List MendedLine → List Change
unfolding changes_in
changes_from n [] = []
changes_from n (l ∷ ls) = changes_in n l.done ++ changes_from (n + 1) ls

unfoldable pub changes : Text → List Change
unfolding changes_from mended_lines
changes s = changes_from 1 (mended_lines s)

-- # When the mender says no

-- How long the lent slices are: for the mended log, and for the kinds and the lines of the list.
pub record Rooms : Type 0 where
  pub out : ℕ
  pub kinds : ℕ
  pub lines : ℕ

pub data Mending : Type 0 where
  mended : Text → List Change → Mending
  unmended : Refusal → Mending

-- "then 10 list slices too short, then 8"
unfoldable pub hand_over : Rooms → Text → List Change → Mending
hand_over rooms t cs =
    let fits = cond (leb (length t) rooms.out) (mended t cs) (unmended (refusal 8 0 0)) in
    cond (leb (length cs) rooms.kinds && leb (length cs) rooms.lines) fits (unmended (refusal 10 0 0))

-- "The mended log is accepted or no byte is handed over."
unfoldable pub mend_reading : Rooms → Text → List Change → Reading → Mending
unfolding hand_over
mend_reading rooms t cs (accepted log) = hand_over rooms t cs
mend_reading rooms t cs (refused r) = unmended r

-- "Refusals: 1 if the input is over the limit, then the reader's number for the mended log"
unfoldable pub mend : Rules → Rooms → Text → Mending
unfolding mend_reading mended_text changes read
mend R rooms s =
    let by_log = mend_reading rooms (mended_text s) (changes s) (read R (mended_text s)) in
    cond (ltb R.longest_log (length s)) (unmended (refusal 1 0 0)) by_log

-- # What is handed out

unfoldable pub refusal_of_mending : Mending → Refusal
unfolding no_refusal
refusal_of_mending (mended t cs) = no_refusal
refusal_of_mending (unmended r) = r

unfoldable pub bytes_of_mending : Mending → Text
bytes_of_mending (mended t cs) = t
bytes_of_mending (unmended r) = []

-- "in two lent slices"
unfoldable pub kinds_of_mending : Mending → List ℕ
kinds_of_mending (mended t cs) = map (λ c. c.kind) cs
kinds_of_mending (unmended r) = []

unfoldable pub lines_of_mending : Mending → List ℕ
lines_of_mending (mended t cs) = map (λ c. c.line) cs
lines_of_mending (unmended r) = []
