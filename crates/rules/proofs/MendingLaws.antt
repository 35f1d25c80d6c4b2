-- Laws of the lines of a chewed text and of what is done to one line: lines that were ended are found again, no line holds LF, and what was done to
-- a line once is done.
-- Assumes nothing.
use Prim.Native.Nat.{ℕ, suc, ◌≤◌}
use mathlib.Core.Path.{◌≡◌, refl, sym, ap, ap₂, ◌∙◌}
use mathlib.Core.Bool.{Bool, true, false, cond, not, ◌&&◌, and-false}
use mathlib.Core.List.{List, [], ◌∷◌, ◌++◌, map, map-map, append_assoc}
use lib.Dec.{leb, eqb}
use lib.ListN.{length, drop, length-map}
use lib.Seq.{drop-append_seam}
use native.Mathlib.Omega.{arith}
use borrow.Author.Tests.{not-true, leb-true, le-leb, ne_eqb}
use Rattle.rules.specs.declared.Region.{Region}
use Rattle.rules.specs.declared.Region.TheVariants.{Head, Remarks, Records}
use Rattle.rules.specs.Text.{Text, bytes, allowed, digit, empty, all, span, begins, number, digits}
use Rattle.rules.specs.Arguments.{every}
use Rattle.rules.specs.Log.{count_start, count_line, crlf, ended}
use Rattle.rules.specs.Mending.{ChewedLine, in_front, chewed_lines, ends_in_cr, without_cr, MendedLine, end_done, end_mended, trimmed, digits_then_end, has_count, count_set, changed_to, region_after, line_mended, lines_mended, mended_lines, texts_of, mended_text}
use Rattle.rules.specs.MendingDemands.{line_texts}
use Rattle.rules.proofs.Tests.{never, and_l, and_r, and_i, not_false}
use Rattle.rules.proofs.TextLaws.{all_append, all_weaker, span_run, same_refl, begins_front}
use Rattle.rules.proofs.NumberLaws.{digits_all, digits_number}
use Rattle.rules.proofs.LogLaws.{digits_allowed}

-- # Characters

-- A character that ends no line; each that is allowed is one.
abbrev pub no_lf : ℕ → Bool
no_lf c = not (eqb c 10)

pub allowed_is_no_lf : (c : ℕ) → allowed c ≡ true → no_lf c ≡ true
allowed_is_no_lf c e =
    let low : 32 ≤ c = leb-true 32 c (and_l (leb 32 c) (leb c 127) e) in
    not_false (ne_eqb c 10 (λ z. omega arith))

pub allowed_no_lf : (t : Text) → all allowed t ≡ true → all no_lf t ≡ true
allowed_no_lf = all_weaker allowed no_lf allowed_is_no_lf

-- # Lines

-- What stands in front of LF is a line.
pub line_front : (l rest : Text) → all no_lf l ≡ true → chewed_lines (l ++ 10 ∷ rest) ≡ record { text = l; ends = true } ∷ chewed_lines rest
unfolding chewed_lines in_front all
line_front [] rest e = refl
line_front (c ∷ l) rest e =
    rw (not-true (eqb c 10) (and_l (no_lf c) (all no_lf l) e), line_front l rest (and_r (no_lf c) (all no_lf l) e))

-- A line with CR LF behind it.
abbrev pub ended_line : Text → ChewedLine
ended_line l = record { text = l ++ 13 ∷ []; ends = true }

-- Lines that were ended are found again.
pub ended_lines : (ls : List Text) → every (all no_lf) ls ≡ true → chewed_lines (ended ls) ≡ map ended_line ls
unfolding ended crlf every all
ended_lines [] e = unfold chewed_lines in refl
ended_lines (l ∷ ls) e =
    let clean : all no_lf (l ++ 13 ∷ []) ≡ true = all_append no_lf l (13 ∷ []) (and_l (all no_lf l) (every (all no_lf) ls) e) refl in
    ap chewed_lines (append_assoc l crlf (ended ls) ∙ sym (append_assoc l (13 ∷ []) (10 ∷ ended ls)))
    ∙ line_front (l ++ 13 ∷ []) (ended ls) clean
    ∙ ap {B = List ChewedLine} (λ r. ended_line l ∷ r) (ended_lines ls (and_r (all no_lf l) (every (all no_lf) ls) e))

-- The last character says whether a text ends in CR, and CR at the end is taken.
pub ends_behind : (l : Text) (c : ℕ) → ends_in_cr (l ++ c ∷ []) ≡ eqb c 13
unfolding ends_in_cr
ends_behind [] c = refl
ends_behind (d ∷ []) c = refl
ends_behind (d ∷ f ∷ l) c = ends_behind (f ∷ l) c

pub without_behind : (l : Text) → without_cr (l ++ 13 ∷ []) ≡ l
unfolding without_cr
without_behind [] = refl
without_behind (c ∷ []) = refl
without_behind (c ∷ d ∷ l) = ap (λ (r : Text). c ∷ r) (without_behind (d ∷ l))

-- A line to which nothing was done.
abbrev pub untouched : Text → MendedLine
untouched l = record { text = l; done = [] }

pub end_kept : (l : Text) → end_mended (ended_line l) ≡ untouched l
unfolding end_mended end_done
end_kept l = rw (ends_behind l 13, without_behind l)

ends_kept : (ls : List Text) → map end_mended (map ended_line ls) ≡ map untouched ls
ends_kept [] = refl
ends_kept (l ∷ ls) = rw (end_kept l, ends_kept ls)

pub ended_kept : (ls : List Text) → every (all no_lf) ls ≡ true → map end_mended (chewed_lines (ended ls)) ≡ map untouched ls
ended_kept ls e = ap (map end_mended) (ended_lines ls e) ∙ ends_kept ls

pub line_texts_ended : (ls : List Text) → every (all no_lf) ls ≡ true → line_texts (ended ls) ≡ ls
unfolding line_texts
line_texts_ended ls e = ap (map (λ (l : ChewedLine). without_cr l.text)) (ended_lines ls e) ∙ without_ends ls
  where
    without_ends : (ls : List Text) → map (λ (l : ChewedLine). without_cr l.text) (map ended_line ls) ≡ ls
    without_ends [] = refl
    without_ends (l ∷ ls) = rw (without_behind l, without_ends ls)

-- No line holds LF.
abbrev pub chewed_texts : List ChewedLine → List Text
chewed_texts ls = map (λ l. l.text) ls

in_front_clean : (c : ℕ) (ls : List ChewedLine) → no_lf c ≡ true → every (all no_lf) (chewed_texts ls) ≡ true → every (all no_lf) (chewed_texts (in_front c ls)) ≡ true
unfolding in_front every all
in_front_clean c [] e g = and_i (and_i e refl) refl
in_front_clean c (l ∷ ls) e g =
    let first = all no_lf l.text in
    let others = every (all no_lf) (chewed_texts ls) in
    and_i (and_i e (and_l first others g)) (and_r first others g)

pub lines_clean : (s : Text) → every (all no_lf) (chewed_texts (chewed_lines s)) ≡ true
unfolding chewed_lines every all
lines_clean [] = refl
lines_clean (c ∷ s) = by (lines_clean s) (eqb c 10) refl
  where
    by : every (all no_lf) (chewed_texts (chewed_lines s)) ≡ true → (b : Bool) → eqb c 10 ≡ b → every (all no_lf) (chewed_texts (cond b (record { text = []; ends = true } ∷ chewed_lines s) (in_front c (chewed_lines s)))) ≡ true
    by g true e = g
    by g false e = in_front_clean c (chewed_lines s) (not_false e) g

-- Nor does it without its end.
without_clean : (f : ℕ → Bool) (t : Text) → all f t ≡ true → all f (without_cr t) ≡ true
unfolding without_cr all
without_clean f [] e = refl
without_clean f (c ∷ []) e = by (eqb c 13)
  where
    by : (b : Bool) → all f (cond b [] (c ∷ [])) ≡ true
    by true = refl
    by false = e
without_clean f (c ∷ d ∷ t) e =
    and_i (and_l (f c) (all f (d ∷ t)) e) (without_clean f (d ∷ t) (and_r (f c) (all f (d ∷ t)) e))

texts_clean : (ls : List ChewedLine) → every (all no_lf) (chewed_texts ls) ≡ true → every (all no_lf) (map (λ l. without_cr l.text) ls) ≡ true
unfolding every
texts_clean [] e = refl
texts_clean (l ∷ ls) e =
    let first = all no_lf l.text in
    let others = every (all no_lf) (chewed_texts ls) in
    and_i (without_clean no_lf l.text (and_l first others e)) (texts_clean ls (and_r first others e))

pub line_texts_clean : (s : Text) → every (all no_lf) (line_texts s) ≡ true
unfolding line_texts
line_texts_clean s = texts_clean (chewed_lines s) (lines_clean s)

-- # Spaces at the end

some_behind : (t : Text) (c : ℕ) (s : Text) → empty (t ++ c ∷ s) ≡ false
some_behind [] c s = refl
some_behind (d ∷ t) c s = refl

-- Behind a character that is no space, the spaces at the end are those of what follows.
pub trimmed_behind : (t : Text) (c : ℕ) (s : Text) → eqb c 32 ≡ false → trimmed s ≡ s → trimmed (t ++ c ∷ s) ≡ t ++ c ∷ s
unfolding trimmed
trimmed_behind [] c s e h = rw (e, h)
trimmed_behind (d ∷ t) c s e h = rw (trimmed_behind t c s e h, some_behind t c s, and-false (eqb d 32))

pub trimmed_twice : (t : Text) → trimmed (trimmed t) ≡ trimmed t
unfolding trimmed
trimmed_twice [] = refl
trimmed_twice (c ∷ t) = by (trimmed_twice t) (eqb c 32 && empty (trimmed t)) refl
  where
    by : trimmed (trimmed t) ≡ trimmed t → (b : Bool) → (eqb c 32 && empty (trimmed t)) ≡ b → trimmed (cond b [] (c ∷ trimmed t)) ≡ cond b [] (c ∷ trimmed t)
    by h true e = refl
    by h false e = rw (h, e)

trimmed_clean : (f : ℕ → Bool) (t : Text) → all f t ≡ true → all f (trimmed t) ≡ true
unfolding trimmed all
trimmed_clean f [] e = refl
trimmed_clean f (c ∷ t) e =
    by (trimmed_clean f t (and_r (f c) (all f t) e)) (eqb c 32 && empty (trimmed t))
  where
    by : all f (trimmed t) ≡ true → (b : Bool) → all f (cond b [] (c ∷ trimmed t)) ≡ true
    by h true = refl
    by h false = and_i (and_l (f c) (all f t) e) h

-- # The count line

-- A number has a digit.
number_some : (t : Text) → number t ≡ true → 1 ≤ length t
unfolding number
number_some [] e = never e
number_some (c ∷ t) e = omega arith

digits_then_end_lem : (n : ℕ) → digits_then_end (digits n ++ bytes "]") ≡ true
unfolding digits_then_end
digits_then_end_lem n =
    let run : span digit (digits n ++ bytes "]") ≡ length (digits n) = span_run digit (digits n) 93 [] (digits_all n) refl in
    rw (run, le-leb 1 (length (digits n)) (number_some (digits n) (digits_number n)), drop-append_seam (digits n) (bytes "]")) (same_refl (bytes "]"))

pub count_begins : (n : ℕ) → begins count_start (count_line n) ≡ true
unfolding count_line
count_begins n =
    ap (begins count_start) (append_assoc count_start (digits n) (bytes "]")) ∙ begins_front count_start (digits n ++ bytes "]")

pub count_has : (n : ℕ) → has_count (count_line n) ≡ true
unfolding has_count count_line count_start begins
count_has n = digits_then_end_lem n

-- A line with a count begins as the count line does.
pub has_begins : (t : Text) → has_count t ≡ true → begins count_start t ≡ true
unfolding has_count
has_begins t e = and_l (begins count_start t) (digits_then_end (drop (length count_start) t)) e

pub set_of_count : (n : ℕ) → count_set n (count_line n) ≡ count_line n
unfolding count_set
set_of_count n = rw (count_has n)

pub set_of_none : (n : ℕ) (t : Text) → has_count t ≡ false → count_set n t ≡ t
unfolding count_set
set_of_none n t e = rw e

-- No other line has one.
pub none_begun : (t : Text) → begins count_start t ≡ false → has_count t ≡ false
unfolding has_count
none_begun t e = rw e

-- A line whose count is set is the count line, or what it was.
pub set_cases : (n : ℕ) (t : Text) (P : Text → Type 0) → (has_count t ≡ false → P t) → (has_count t ≡ true → P (count_line n)) → P (count_set n t)
unfolding count_set
set_cases n t P kept set = by (has_count t) refl
  where
    by : (b : Bool) → has_count t ≡ b → P (cond b (count_line n) t)
    by true e = set e
    by false e = kept e

count_clean : (n : ℕ) → all no_lf (count_line n) ≡ true
unfolding count_line
count_clean n =
    all_append no_lf (count_start ++ digits n) (bytes "]")
    (all_append no_lf count_start (digits n) (unfold count_start all in refl) (allowed_no_lf (digits n) (digits_allowed (digits n) (digits_all n))))
    (unfold all in refl)

-- # One line

-- What the text of a line becomes, by where it lies, where so many lines follow.
unfoldable pub set_to : Region → ℕ → Text → Text
set_to Head follow t = t
set_to Remarks follow t = count_set follow t
set_to Records follow t = trimmed t

pub mended_text_lem : (region : Region) (n : ℕ) (l : MendedLine) → (line_mended region n l).text ≡ set_to region n l.text
unfolding line_mended changed_to set_to
mended_text_lem Head n l = refl
mended_text_lem Remarks n l = refl
mended_text_lem Records n l = refl

-- Nothing is done where the text is the one that the line has.
none_changed : (kind : ℕ) (new t : Text) → new ≡ t → changed_to kind new (untouched t) ≡ untouched t
unfolding changed_to
none_changed kind new t e = rw (e, same_refl t)

pub mended_untouched : (region : Region) (n : ℕ) (t : Text) → set_to region n t ≡ t → line_mended region n (untouched t) ≡ untouched t
unfolding line_mended set_to
mended_untouched Head n t e = refl
mended_untouched Remarks n t e = none_changed 4 (count_set n t) t e
mended_untouched Records n t e = none_changed 3 (trimmed t) t e

-- A line that was set is set, lies where it lay, and holds no LF if it held none.
pub set_twice : (region : Region) (n : ℕ) (t : Text) → set_to region n (set_to region n t) ≡ set_to region n t
unfolding set_to
set_twice Head n t = refl
set_twice Remarks n t = set_cases n t (λ u. count_set n u ≡ u) (set_of_none n t) (λ e. set_of_count n)
set_twice Records n t = trimmed_twice t

pub region_kept : (region : Region) (n : ℕ) (t : Text) → region_after region (set_to region n t) ≡ region_after region t
unfolding set_to region_after
region_kept Head n t = refl
region_kept Remarks n t =
    set_cases n t (λ u. cond (begins count_start u) Records Remarks ≡ cond (begins count_start t) Records Remarks) (λ e. refl)
    (λ e. rw (count_begins n, has_begins t e))
region_kept Records n t = refl

pub set_clean : (region : Region) (n : ℕ) (t : Text) → all no_lf t ≡ true → all no_lf (set_to region n t) ≡ true
unfolding set_to
set_clean Head n t e = e
set_clean Remarks n t e = set_cases n t (λ u. all no_lf u ≡ true) (λ h. e) (λ h. count_clean n)
set_clean Records n t e = trimmed_clean no_lf t e

-- # All lines

pub mended_more : (region : Region) (l : MendedLine) (ls : List MendedLine) → lines_mended region (l ∷ ls) ≡ line_mended region (length ls) l ∷ lines_mended (region_after region l.text) ls
unfolding lines_mended
mended_more region l ls = refl

-- What the texts of lines become, the first of which lies here.
unfoldable pub set_lines : Region → List Text → List Text
set_lines region [] = []
set_lines region (l ∷ ls) = set_to region (length ls) l ∷ set_lines (region_after region l) ls

pub length_set : (region : Region) (ls : List Text) → length (set_lines region ls) ≡ length ls
unfolding set_lines
length_set region [] = refl
length_set region (l ∷ ls) = ap suc (length_set (region_after region l) ls)

lines_set_clean : (region : Region) (ls : List Text) → every (all no_lf) ls ≡ true → every (all no_lf) (set_lines region ls) ≡ true
unfolding set_lines every
lines_set_clean region [] e = refl
lines_set_clean region (l ∷ ls) e =
    let others = every (all no_lf) ls in
    and_i (set_clean region (length ls) l (and_l (all no_lf l) others e)) (lines_set_clean (region_after region l) ls (and_r (all no_lf l) others e))

texts_set : (region : Region) (ls : List MendedLine) → texts_of (lines_mended region ls) ≡ set_lines region (texts_of ls)
unfolding texts_of set_lines
texts_set region [] = unfold lines_mended in refl
texts_set region (l ∷ ls) =
    let first : (line_mended region (length ls) l).text ≡ set_to region (length (texts_of ls)) l.text = rw (length-map ls (λ l. l.text)) (mended_text_lem region (length ls) l) in
    ap texts_of (mended_more region l ls)
    ∙ ap₂ {C = List Text} (λ t ts. t ∷ ts) first (texts_set (region_after region l.text) ls)

-- The texts of the lines of a mended text: those of the lines as they came, each set.
pub texts_of_lines : (s : Text) → texts_of (map end_mended (chewed_lines s)) ≡ line_texts s
unfolding texts_of line_texts end_mended
texts_of_lines s = map-map (λ (l : MendedLine). l.text) end_mended (chewed_lines s)

pub texts_mended : (s : Text) → texts_of (mended_lines s) ≡ set_lines Head (line_texts s)
unfolding mended_lines
texts_mended s = texts_set Head (map end_mended (chewed_lines s)) ∙ ap (set_lines Head) (texts_of_lines s)

pub mended_is : (s : Text) → mended_text s ≡ ended (set_lines Head (line_texts s))
unfolding mended_text
mended_is s = ap ended (texts_mended s)

pub mended_clean : (s : Text) → every (all no_lf) (set_lines Head (line_texts s)) ≡ true
mended_clean s = lines_set_clean Head (line_texts s) (line_texts_clean s)
