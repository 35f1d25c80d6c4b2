-- Lines that are as the mender leaves them stay as they are, and nothing is listed. The lines of an accepted log are so, and those of a mended one;
-- and what is mended differs from what came in by the four things alone.
-- Assumes nothing.
use Prim.Native.Nat.{ℕ, ◌+◌, ◌≤◌}
use mathlib.Core.Path.{◌≡◌, refl, sym, ap, ap₂, ◌∙◌}
use mathlib.Core.Logic.{inl, inr}
use mathlib.Core.Bool.{Bool, true, false, cond, not}
use mathlib.Core.List.{List, [], ◌∷◌, ◌++◌, map}
use lib.Dec.{leb, eqb}
use lib.ListN.{length, drop, length-map}
use native.Mathlib.Omega.{arith}
use borrow.Author.Tests.{not-true, eqb-true, eq-eqb, ne_eqb}
use Rattle.rules.specs.declared.Region.{Region}
use Rattle.rules.specs.declared.Region.TheVariants.{Head, Remarks, Records}
use Rattle.rules.specs.Text.{Text, bytes, allowed, all, lower, same, same_but_case, begins, semicolon, joined}
use Rattle.rules.specs.Rules.{Rules}
use Rattle.rules.specs.Fields.{Qso, empty_or, duplicate_mark, field_rules, fields_of}
use Rattle.rules.specs.Arguments.{Entry, entries, every}
use Rattle.rules.specs.Log.{Log, identifier, remarks_line, count_start, count_line, keyword_start, keyword_lines, keywords_of, record_line, lines_of, ended, line_rule, keyword_rules, remark_rule, conjunction, record_rules, valid, FollowsTheFormat}
use Rattle.rules.specs.Mending.{chewed_lines, MendedLine, end_mended, trimmed, has_count, region_after, line_mended, lines_mended, mended_lines, texts_of, mended_text, changes_from, changes_in, changes, Rooms, mended, mend}
use Rattle.rules.specs.MendingDemands.{AcceptedComesOutUnchanged, MendedOnceIsMended, bare_line, bare_lines, line_texts, bare, NothingElseChanges, ListIsTooLong}
use Rattle.rules.proofs.Tests.{so, holds, never, clash, and_l, and_r, and_i}
use Rattle.rules.proofs.TextLaws.{same_eq}
use Rattle.rules.proofs.LogLaws.{behind_keywords, lines_opened}
use Rattle.rules.proofs.Format.{Rightly, of_valid, render_law, accepted_when_written}
use Rattle.rules.proofs.ValidLogs.{rule_at}
use Rattle.rules.proofs.MendingLaws.{no_lf, allowed_no_lf, untouched, ended_kept, trimmed_behind, count_begins, set_of_count, set_of_none, none_begun, set_to, mended_untouched, mended_more, line_texts_ended, set_twice, region_kept, set_lines, length_set, mended_is, mended_clean, count_has, trimmed_twice, set_cases}
use Rattle.rules.proofs.MendingGiven.{mend_all}

-- # Lines that stay

-- Each line, by where it lies, is the one that it would become.
abbrev pub Settled : Region → List Text → Type 0
Settled region [] = Unit {0}
Settled region (l ∷ ls) = (set_to region (length ls) l ≡ l) × Settled (region_after region l) ls

settled_lines : (region : Region) (ls : List Text) → Settled region ls → lines_mended region (map untouched ls) ≡ map untouched ls
settled_lines region [] k = unfold lines_mended in refl
settled_lines region (l ∷ ls) k =
    let first : line_mended region (length (map untouched ls)) (untouched l) ≡ untouched l = rw (length-map ls untouched) (mended_untouched region (length ls) l k.0) in
    mended_more region (untouched l) (map untouched ls)
    ∙ ap₂ {C = List MendedLine} (λ x xs. x ∷ xs) first (settled_lines (region_after region l) ls k.1)

texts_untouched : (ls : List Text) → texts_of (map untouched ls) ≡ ls
unfolding texts_of
texts_untouched [] = refl
texts_untouched (l ∷ ls) = ap {B = List Text} (λ r. l ∷ r) (texts_untouched ls)

changes_untouched : (n : ℕ) (ls : List Text) → changes_from n (map untouched ls) ≡ []
unfolding changes_from changes_in
changes_untouched n [] = refl
changes_untouched n (l ∷ ls) = changes_untouched (n + 1) ls

pub record Stays (s : Text) : Type 0 where
  pub text : mended_text s ≡ s
  pub list : changes s ≡ []

pub settled_stays : (ls : List Text) → every (all no_lf) ls ≡ true → Settled Head ls → Stays (ended ls)
unfolding mended_text changes mended_lines
settled_stays ls e k =
    let lines : lines_mended Head (map end_mended (chewed_lines (ended ls))) ≡ map untouched ls = ap (lines_mended Head) (ended_kept ls e) ∙ settled_lines Head ls k in
    record {
      text = ap (λ (x : List MendedLine). ended (texts_of x)) lines ∙ ap ended (texts_untouched ls);
      list = ap (changes_from 1) lines ∙ changes_untouched 1 ls;
    }

-- # An accepted log

-- In front of `[Remarks]`, lines that are not it stay.
abbrev other : Text → Bool
other l = not (same l remarks_line)

head_settled : (ls rest : List Text) → every other ls ≡ true → Settled Head rest → Settled Head (ls ++ rest)
unfolding every set_to region_after
head_settled [] rest e k = k
head_settled (l ∷ ls) rest e k = (
  refl,
  rw (not-true (same l remarks_line) (and_l (other l) (every other ls) e)) (head_settled ls rest (and_r (other l) (every other ls) e) k),
)

-- A keyword begins with a letter, in whatever spelling, so its line is not `[Remarks]`.
abbrev no_bracket : Text → Bool
no_bracket [] = false
no_bracket (c ∷ s) = not (eqb (lower c) 91)

word_other : (word w t : Text) → no_bracket word ≡ true → same_but_case word w ≡ true → other (keyword_start w ++ t) ≡ true
unfolding same_but_case same keyword_start remarks_line
word_other [] w t b e = never b
word_other (c ∷ word) [] t b e = never e
word_other (c ∷ word) (d ∷ w) t b e =
    let alike : lower c ≡ lower d = eqb-true (lower c) (lower d) (and_l (eqb (lower c) (lower d)) (same (map lower word) (map lower w)) e) in
    let letter : eqb d 91 ≡ false = ne_eqb d 91 (λ z. clash (eq-eqb (lower c) 91 (alike ∙ ap lower z)) (not-true (eqb (lower c) 91) b)) in
    rw letter

keywords_other : (es : List Entry) (ws ts : List Text) → every no_bracket (keywords_of es) ≡ true → keyword_rules es ws ≡ true → every other (keyword_lines ws ts) ≡ true
unfolding every keywords_of keyword_rules keyword_lines
keywords_other [] [] ts b e = refl
keywords_other [] (w ∷ ws) ts b e = never e
keywords_other (x ∷ es) [] ts b e = never e
keywords_other (x ∷ es) (w ∷ ws) [] b e = refl
keywords_other (x ∷ es) (w ∷ ws) (t ∷ ts) b e =
    let first = no_bracket x.keyword in
    let others = every no_bracket (keywords_of es) in
    let spelt = same_but_case x.keyword w in
    and_i
    (word_other x.keyword w t (and_l first others b) (and_l spelt (keyword_rules es ws) e))
    (keywords_other es ws ts (and_r first others b) (and_r spelt (keyword_rules es ws) e))

table_letters : every no_bracket (keywords_of entries) ≡ true
unfolding every keywords_of entries
table_letters = refl

-- Remarks stay, and so does a count line that so many lines follow.
remarks_settled : (ms rest : List Text) → every remark_rule ms ≡ true → Settled Remarks rest → Settled Remarks (ms ++ rest)
unfolding every remark_rule set_to region_after
remarks_settled [] rest e k = k
remarks_settled (l ∷ ms) rest e k =
    let none : begins count_start l ≡ false = not-true (begins count_start l) (and_l (remark_rule l) (every remark_rule ms) e) in (
      set_of_none (length (ms ++ rest)) l (none_begun l none),
      rw none (remarks_settled ms rest (and_r (remark_rule l) (every remark_rule ms) e) k),
    )

count_settled : (n : ℕ) (ls : List Text) → length ls ≡ n → Settled Records ls → Settled Remarks (count_line n ∷ ls)
unfolding set_to region_after
count_settled n ls e k = (rw e (set_of_count n), rw (count_begins n) k)

-- A record line ends in its last semicolon or in `D`.
abbrev last_of : Text → List Text → Text
last_of t [] = t
last_of t (u ∷ ts) = last_of u ts

joined_trimmed : (t : Text) (ts : List Text) → trimmed (last_of t ts) ≡ last_of t ts → trimmed (joined (t ∷ ts)) ≡ joined (t ∷ ts)
unfolding joined
joined_trimmed t [] h = h
joined_trimmed t (u ∷ ts) h = trimmed_behind t semicolon (joined (u ∷ ts)) refl (joined_trimmed u ts h)

mark_trimmed : (t : Text) → empty_or (same duplicate_mark) t ≡ true → trimmed t ≡ t
unfolding empty_or duplicate_mark trimmed
mark_trimmed [] e = refl
mark_trimmed (c ∷ t) e = let is : duplicate_mark ≡ c ∷ t = same_eq duplicate_mark (c ∷ t) e in ap trimmed (sym is) ∙ is

module _ (R : Rules) where
  record_trimmed : (q : Qso) → conjunction (field_rules R q) ≡ true → trimmed (record_line q) ≡ record_line q
  unfolding record_line fields_of field_rules
  record_trimmed q e =
      let mark = empty_or (same duplicate_mark) q.duplicate in
      joined_trimmed q.date (drop 1 (fields_of q)) (mark_trimmed q.duplicate (so mark (rule_at (field_rules R q) 14 (holds e))))

  records_settled : (qs : List Qso) → record_rules R qs ≡ true → Settled Records (map record_line qs)
  unfolding record_rules set_to region_after
  records_settled [] e = tt
  records_settled (q ∷ qs) e =
      let first = conjunction (field_rules R q) in
      (record_trimmed q (and_l first (record_rules R qs) e), records_settled qs (and_r first (record_rules R qs) e))

  log_settled : (log : Log) → Rightly R log → Settled Head (lines_of log)
  unfolding every set_to region_after same remarks_line identifier
  log_settled log r =
      let qs = log.records in
      let counted : Settled Remarks (count_line (length qs) ∷ map record_line qs) = count_settled (length qs) (map record_line qs) (length-map qs record_line) (records_settled qs r.rules) in
      rw (lines_opened log)
      (head_settled (identifier ∷ keyword_lines log.keywords log.arguments) (behind_keywords log)
      (keywords_other entries log.keywords log.arguments table_letters r.spellings)
      (refl, remarks_settled log.remarks (count_line (length qs) ∷ map record_line qs) r.remark_rules counted))

  -- Lines of allowed characters hold no LF.
  rules_clean : (ls : List Text) → every (line_rule R) ls ≡ true → every (all no_lf) ls ≡ true
  unfolding every line_rule
  rules_clean [] e = refl
  rules_clean (l ∷ ls) e =
      let line = and_l (line_rule R l) (every (line_rule R) ls) e in
      and_i
      (allowed_no_lf l (and_r (leb (length l) R.longest_line) (all allowed l) line))
      (rules_clean ls (and_r (line_rule R l) (every (line_rule R) ls) e))

  log_stays : (log : Log) → Rightly R log → Stays (ended (lines_of log))
  log_stays log r = settled_stays (lines_of log) (rules_clean (lines_of log) r.line_rules) (log_settled log r)

pub accepted_stays : (R : Rules) → AcceptedComesOutUnchanged R
accepted_stays R s log e =
    let w = (accepted_when_written R s log).0 e in
    let r = of_valid R log (so (valid R log) w.0) in
    let is : s ≡ ended (lines_of log) = sym w.1 ∙ render_law log in
    let stays : Stays s = rw is (log_stays R log r) in
    let short : length s ≤ R.longest_log = rw (← w.1) r.short in
    record {
      text = stays.text;
      list = stays.list;
      answer = λ rooms h. unchanged rooms short stays.text stays.list h;
    }
  where
    unchanged : (rooms : Rooms) → length s ≤ R.longest_log → mended_text s ≡ s → changes s ≡ [] → length s ≤ rooms.out → mend R rooms s ≡ mended s []
    unchanged rooms short text list h =
        let format : FollowsTheFormat R (mended_text s) = rw text (log, (accepted_when_written R s log).0 e) in
        let fits : ListIsTooLong rooms s → ⊥ = rw list (elim [ inl x ↦ omega arith | inr x ↦ omega arith ]) in
        mend_all R rooms s short format fits (rw text h) ∙ ap₂ mended text list

-- # A mended text

-- Lines that were set stay.
set_settled : (region : Region) (ls : List Text) → Settled region (set_lines region ls)
unfolding set_lines
set_settled region [] = tt
set_settled region (l ∷ ls) = (
  rw (length_set (region_after region l) ls) (set_twice region (length ls) l),
  rw (region_kept region (length ls) l) (set_settled (region_after region l) ls),
)

pub mended_once : MendedOnceIsMended
mended_once s =
    let stays : Stays (mended_text s) = rw (mended_is s) (settled_stays (set_lines Head (line_texts s)) (mended_clean s) (set_settled Head (line_texts s))) in
    (stays.text, stays.list)

-- Without what is set, a line is what it was.
bare_set : (region : Region) (n : ℕ) (l : Text) → bare_line region (set_to region n l) ≡ bare_line region l
unfolding bare_line set_to
bare_set Head n l = refl
bare_set Remarks n l =
    set_cases n l (λ t. cond (has_count t) (count_start ++ bytes "]") t ≡ cond (has_count l) (count_start ++ bytes "]") l) (λ e. refl)
    (λ e. rw (count_has n, e))
bare_set Records n l = trimmed_twice l

bare_lines_set : (region : Region) (ls : List Text) → bare_lines region (set_lines region ls) ≡ bare_lines region ls
unfolding bare_lines set_lines
bare_lines_set region [] = refl
bare_lines_set region (l ∷ ls) =
    ap₂ {C = List Text} (λ t ts. t ∷ ts) (bare_set region (length ls) l)
    (ap (λ (r : Region). bare_lines r (set_lines (region_after region l) ls)) (region_kept region (length ls) l) ∙ bare_lines_set (region_after region l) ls)

pub nothing_else : NothingElseChanges
unfolding bare
nothing_else s =
    ap (bare_lines Head) (ap line_texts (mended_is s) ∙ line_texts_ended (set_lines Head (line_texts s)) (mended_clean s))
    ∙ bare_lines_set Head (line_texts s)
