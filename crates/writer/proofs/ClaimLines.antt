-- The lines of the keywords when a log is written back: those of the nine claims with other numbers, and the others as they were.
-- Assumes nothing.
use Prim.Native.Nat.{ℕ, ◌≤◌}
use native.Mathlib.Omega.{arith}
use mathlib.Core.Bool.{Bool, true, false, cond, not, ◌&&◌, ◌||◌}
use mathlib.Core.List.{List, [], ◌∷◌, ◌++◌, map, append-nil, head-eq_of_cons-eq, tail-eq_of_cons-eq}
use mathlib.Core.Path.{◌≡◌, refl, sym, ap, ◌∙◌}
use lib.Dec.{leb, eqb}
use lib.ListN.{length, take, drop, length-append}
use lib.Seq.{take_at, drop_at, drop-length, drop-append_seam}
use borrow.Author.Tests.{not-true, le-leb, eqb-true, eq-eqb}
use Rattle.places.proofs.HeaderHeld.{every_entry}
use Rattle.rules.proofs.LogLaws.{argument_count}
use Rattle.rules.proofs.SpellingLaws.{case_length, length_start, spelling_count, keyword_count}
use Rattle.rules.proofs.NumberLaws.{number_from_lem, number_digits}
use Rattle.rules.proofs.Tests.{never, and_l, and_r, and_i}
use Rattle.rules.proofs.TextLaws.{parts_some, joined_parts, span_stops, span_run, same_refl}
use Rattle.rules.specs.Arguments.{Entry, entries, each, count, bonus, multiplier, meets, every}
use Rattle.rules.specs.Log.{keyword_start, keyword_lines, keyword_rules, argument_rules}
use Rattle.rules.specs.Rules.{Rules}
use Rattle.rules.specs.Text.{Text, digit, semicolon, all, span, same, same_but_case, number, number_of, parts, joined, digits}
use Rattle.rules.specs.Writing.{recounted, Claim, claims, claimed, written_arguments}
use Rattle.rules.specs.declared.Totals.{Totals}
use Rattle.writer.specs.ClaimsText.{claim_numbers}
use Rattle.writer.proofs.NumberedLines.{behind_number, renumbered, keyworded, renumbered_line, renumbered_lines}

-- # One argument

none_behind : (t : Text) → all digit t ≡ true → behind_number t ≡ []
none_behind t e =
    let whole : span digit t ≡ length t = sym (span_stops digit t semicolon [] refl) ∙ span_run digit t semicolon [] e refl in
    ap (λ (n : ℕ). drop n t) whole ∙ drop-length t

-- A number that is the whole argument gives way to another.
whole_renumbered : (most n : ℕ) (t : Text) → number_of most t ≡ true → digits n ≡ renumbered n t
unfolding number_of
whole_renumbered most n t e =
    let d : all digit t ≡ true = number_digits t (and_l (number t) (leb (length t) most) e) in
    sym (ap (λ (r : Text). digits n ++ r) (none_behind t d) ∙ append-nil (digits n))

-- So does a number that is the first of several arguments: the others stand behind its digits.
first_renumbered : (new u : Text) (us : List Text) → all digit u ≡ true → joined (new ∷ us) ≡ new ++ behind_number (joined (u ∷ us))
unfolding joined
first_renumbered new u [] d = sym (ap (λ (r : Text). new ++ r) (none_behind u d) ∙ append-nil new)
first_renumbered new u (v ∷ us) d =
    let rest = semicolon ∷ joined (v ∷ us) in
    let n : span digit (u ++ rest) ≡ length u = span_run digit u semicolon (joined (v ∷ us)) d refl in
    sym (ap (λ (r : Text). new ++ r) (ap (λ (k : ℕ). drop k (u ++ rest)) n ∙ drop-append_seam u rest))

count_renumbered : (R : Rules) (rules : List (Text → Bool)) (n : ℕ) (t : Text) → each (count R ∷ rules) (parts t) ≡ true → recounted (digits n) t ≡ renumbered n t
unfolding recounted each count
count_renumbered R rules n t e =
    let k = parts_some t in
    let u = k.first in
    let us = k.others in
    let c : count R u ≡ true = and_l (count R u) (each rules us) (rw k.are at e) in
    let d : all digit u ≡ true = number_digits u (number_from_lem 0 R.most_count u c).is_number in
    ap (λ (ts : List Text). joined (digits n ∷ drop 1 ts)) k.are
    ∙ first_renumbered (digits n) u us d
    ∙ ap (λ (r : Text). digits n ++ behind_number r) (ap joined (sym k.are) ∙ joined_parts t)

-- # The lines of keywords that no claim names

-- Some claim names this keyword.
named : List Claim → Text → Bool
named [] keyword = false
named (c ∷ cs) keyword = same c.keyword keyword || named cs keyword

abbrev unnamed : List Claim → Entry → Bool
unnamed cs e = not (named cs e.keyword)

unnamed_stays : (cs : List Claim) (keyword t : Text) → named cs keyword ≡ false → claimed cs keyword t ≡ t
unfolding named claimed
unnamed_stays [] keyword t h = refl
unnamed_stays (c ∷ cs) keyword t h = by (same c.keyword keyword) h (unnamed_stays cs keyword t)
  where
    by : (b : Bool) → (b || named cs keyword) ≡ false → (named cs keyword ≡ false → claimed cs keyword t ≡ t) → cond b (c.becomes t) (claimed cs keyword t) ≡ t
    by true k more = never (sym k)
    by false k more = more k

arguments_stay : (cs : List Claim) (es : List Entry) (ts : List Text) → every_entry (unnamed cs) es ≡ true → written_arguments cs es ts ≡ ts
unfolding every_entry written_arguments
arguments_stay cs [] ts h = refl
arguments_stay cs (e ∷ es) [] h = refl
arguments_stay cs (e ∷ es) (t ∷ ts) h =
    let none : named cs e.keyword ≡ false = not-true (named cs e.keyword) (and_l (unnamed cs e) (every_entry (unnamed cs) es) h) in
    rw (unnamed_stays cs e.keyword t none, arguments_stay cs es ts (and_r (unnamed cs e) (every_entry (unnamed cs) es) h))

-- The lines of keywords, in these spellings, as they are written with these claims.
abbrev new_lines : List Claim → List Entry → List Text → List Text → List Text
new_lines cs es ws ts = keyword_lines ws (written_arguments cs es ts)

lines_stay : (cs : List Claim) (es : List Entry) (ws ts : List Text) → every_entry (unnamed cs) es ≡ true → new_lines cs es ws ts ≡ keyword_lines ws ts
lines_stay cs es ws ts h = ap (keyword_lines ws) (arguments_stay cs es ts h)

-- Without claims every line stays.
none_named : (es : List Entry) → every_entry (unnamed []) es ≡ true
unfolding every_entry named
none_named [] = refl
none_named (e ∷ es) = none_named es

unclaimed_stay : (es : List Entry) (ws ts : List Text) → new_lines [] es ws ts ≡ keyword_lines ws ts
unclaimed_stay es ws ts = lines_stay [] es ws ts (none_named es)

-- # The lines of keywords that a claim names

-- A claim is the first of several arguments, a count with these rules behind it, or a whole argument of at most so many digits.
data Kind : Type 0 where
  several : List (Text → Bool) → Kind
  alone : ℕ → Kind

-- The rule that such an argument keeps, and what it becomes.
abbrev rule_by : Rules → Kind → Text → Bool
rule_by R (several rules) = λ t. each (count R ∷ rules) (parts t)
rule_by R (alone most) = number_of most

abbrev becomes_by : Kind → ℕ → Text → Text
becomes_by (several rules) n = recounted (digits n)
becomes_by (alone most) n = λ t. digits n

becomes_renumbered : (R : Rules) (k : Kind) (n : ℕ) (t : Text) → rule_by R k t ≡ true → becomes_by k n t ≡ renumbered n t
becomes_renumbered R (several rules) n t e = count_renumbered R rules n t e
becomes_renumbered R (alone most) n t e = whole_renumbered most n t e

-- As many claims of these kinds, for these keywords and numbers.
claims_by : List Kind → List Entry → List ℕ → List Claim
claims_by [] es ns = []
claims_by (k ∷ ks) [] ns = []
claims_by (k ∷ ks) (e ∷ es) [] = []
claims_by (k ∷ ks) (e ∷ es) (n ∷ ns) = record { keyword = e.keyword; becomes = becomes_by k n } ∷ claims_by ks es ns

-- A claim for a keyword that none of these has changes none of their arguments.
abbrev apart_from : Text → Entry → Bool
apart_from keyword e = not (same keyword e.keyword)

arguments_skip : (c : Claim) (cs : List Claim) (es : List Entry) (ts : List Text) → every_entry (apart_from c.keyword) es ≡ true → written_arguments (c ∷ cs) es ts ≡ written_arguments cs es ts
unfolding every_entry written_arguments claimed
arguments_skip c cs [] ts h = refl
arguments_skip c cs (e ∷ es) [] h = refl
arguments_skip c cs (e ∷ es) (t ∷ ts) h =
    let a = apart_from c.keyword e in
    let b = every_entry (apart_from c.keyword) es in
    rw (not-true (same c.keyword e.keyword) (and_l a b h), arguments_skip c cs es ts (and_r a b h))

-- No keyword stands twice.
apart : List Entry → Bool
apart [] = true
apart (e ∷ es) = every_entry (apart_from e.keyword) es && apart es

-- A keyword in any spelling has five characters, and its `=` is the sixth.
abbrev six : Text → Bool
six w = eqb (length (keyword_start w)) 6

line_renumbered : (n : ℕ) (w t u : Text) → six w ≡ true → u ≡ renumbered n t → keyword_start w ++ u ≡ renumbered_line n (keyword_start w ++ t)
line_renumbered n w t u h g =
    let k : length (keyword_start w) ≡ 6 = eqb-true (length (keyword_start w)) 6 h in
    rw (g, take_at (keyword_start w) t 6 k, drop_at (keyword_start w) t 6 k)

-- The rules of these keywords are those of these kinds.
abbrev RulesAre : Rules → List Entry → List Kind → Type 0
RulesAre R es ks = ◌≡◌ {A = List (Text → Bool)} (map (λ (e : Entry). meets R e.rule) es) (map (rule_by R) ks)

module _ (R : Rules) where
  first_renumbers : (k : Kind) (e : Entry) (n : ℕ) (t : Text) (cs : List Claim) → ◌≡◌ {A = Text → Bool} (meets R e.rule) (rule_by R k) → meets R e.rule t ≡ true
      → claimed (record { keyword = e.keyword; becomes = becomes_by k n } ∷ cs) e.keyword t ≡ renumbered n t
  unfolding claimed
  first_renumbers k e n t cs r m =
      rw (same_refl e.keyword) (becomes_renumbered R k n t (sym (ap (λ (f : Text → Bool). f t) r) ∙ m))

  lines_renumber : (ks : List Kind) (es : List Entry) (ns : List ℕ) (ws ts : List Text) → RulesAre R es ks → length es ≡ length ns → length ws ≡ length es → apart es ≡ true → every six ws ≡ true → argument_rules R es ts ≡ true
      → new_lines (claims_by ks es ns) es ws ts ≡ renumbered_lines ns (keyword_lines ws ts)
  unfolding every_entry every apart argument_rules keyword_lines written_arguments renumbered_lines claims_by
  lines_renumber ks [] [] [] ts k l m d h r = refl
  lines_renumber ks [] [] (w ∷ ws) ts k l m d h r = absurd (omega arith)
  lines_renumber ks [] (n ∷ ns) ws ts k l m d h r = absurd (omega arith)
  lines_renumber ks (e ∷ es) [] ws ts k l m d h r = absurd (omega arith)
  lines_renumber ks (e ∷ es) (n ∷ ns) [] ts k l m d h r = absurd (omega arith)
  lines_renumber [] (e ∷ es) (n ∷ ns) (w ∷ ws) ts k l m d h r = let z : ◌≡◌ {A = ℕ} 0 1 = cc in absurd (omega arith)
  lines_renumber (k ∷ ks) (e ∷ es) (n ∷ ns) (w ∷ ws) [] q l m d h r = never r
  lines_renumber (k ∷ ks) (e ∷ es) (n ∷ ns) (w ∷ ws) (t ∷ ts) q l m d h r =
      let a = meets R e.rule t in
      let b = argument_rules R es ts in
      let c : Claim = record { keyword = e.keyword; becomes = becomes_by k n } in
      let cs = claims_by ks es ns in
      let first = every_entry (apart_from e.keyword) es in
      let here = line_renumbered n w t (claimed (c ∷ cs) e.keyword t) (and_l (six w) (every six ws) h) (first_renumbers k e n t cs (head-eq_of_cons-eq q) (and_l a b r)) in
      let others = ap (keyword_lines ws) (arguments_skip c cs es ts (and_l first (apart es) d)) in
      let later = lines_renumber ks es ns ws ts (tail-eq_of_cons-eq q) (omega arith) (omega arith) (and_r first (apart es) d) (and_r (six w) (every six ws) h) (and_r a b r) in
      rw (here, others, later)

lines_keyworded : (ws ts : List Text) → every six ws ≡ true → every keyworded (keyword_lines ws ts) ≡ true
unfolding keyword_lines every
lines_keyworded [] ts h = refl
lines_keyworded (w ∷ ws) [] h = refl
lines_keyworded (w ∷ ws) (t ∷ ts) h =
    let k : length (keyword_start w) ≡ 6 = eqb-true (length (keyword_start w)) 6 (and_l (six w) (every six ws) h) in
    let long : 6 ≤ length (keyword_start w ++ t) = omega (arith, length-append (keyword_start w) t) in
    and_i (le-leb 6 (length (keyword_start w ++ t)) long) (lines_keyworded ws ts (and_r (six w) (every six ws) h))

-- # Two tables, one behind the other

no_lines_lem : (cs : List Claim) (es : List Entry) (ws : List Text) → new_lines cs es ws [] ≡ []
unfolding keyword_lines written_arguments
no_lines_lem cs [] [] = refl
no_lines_lem cs [] (w ∷ ws) = refl
no_lines_lem cs (e ∷ es) [] = refl
no_lines_lem cs (e ∷ es) (w ∷ ws) = refl

lines_append : (cs : List Claim) (es fs : List Entry) (ws ts : List Text) → new_lines cs (es ++ fs) ws ts ≡ new_lines cs es (take (length es) ws) (take (length es) ts) ++ new_lines cs fs (drop (length es) ws) (drop (length es) ts)
unfolding keyword_lines written_arguments
lines_append cs [] fs ws ts = refl
lines_append cs (e ∷ es) fs [] ts = refl
lines_append cs (e ∷ es) fs (w ∷ ws) [] = sym (no_lines_lem cs fs (drop (length es) ws))
lines_append cs (e ∷ es) fs (w ∷ ws) (t ∷ ts) =
    ap {B = List Text} (λ r. (keyword_start w ++ claimed cs e.keyword t) ∷ r) (lines_append cs es fs ws ts)

spellings_front : (es fs : List Entry) (ws : List Text) → keyword_rules (es ++ fs) ws ≡ true → keyword_rules es (take (length es) ws) ≡ true
unfolding keyword_rules
spellings_front [] fs ws r = refl
spellings_front (e ∷ es) fs [] r = r
spellings_front (e ∷ es) fs (w ∷ ws) r =
    let a = same_but_case e.keyword w in
    let b = keyword_rules (es ++ fs) ws in
    and_i (and_l a b r) (spellings_front es fs ws (and_r a b r))

spellings_back : (es fs : List Entry) (ws : List Text) → keyword_rules (es ++ fs) ws ≡ true → keyword_rules fs (drop (length es) ws) ≡ true
unfolding keyword_rules
spellings_back [] fs ws r = r
spellings_back (e ∷ es) fs [] r = never r
spellings_back (e ∷ es) fs (w ∷ ws) r = spellings_back es fs ws (and_r (same_but_case e.keyword w) (keyword_rules (es ++ fs) ws) r)

module _ (R : Rules) where
  rules_front : (es fs : List Entry) (ts : List Text) → argument_rules R (es ++ fs) ts ≡ true → argument_rules R es (take (length es) ts) ≡ true
  unfolding argument_rules
  rules_front [] fs ts r = refl
  rules_front (e ∷ es) fs [] r = r
  rules_front (e ∷ es) fs (t ∷ ts) r =
      let a = meets R e.rule t in
      let b = argument_rules R (es ++ fs) ts in
      and_i (and_l a b r) (rules_front es fs ts (and_r a b r))

  rules_back : (es fs : List Entry) (ts : List Text) → argument_rules R (es ++ fs) ts ≡ true → argument_rules R fs (drop (length es) ts) ≡ true
  unfolding argument_rules
  rules_back [] fs ts r = r
  rules_back (e ∷ es) fs [] r = never r
  rules_back (e ∷ es) fs (t ∷ ts) r = rules_back es fs ts (and_r (meets R e.rule t) (argument_rules R (es ++ fs) ts) r)

-- # The table, cut in three: the keywords in front of the claims, the nine of the claims, and CODXC

abbrev pub before : List Entry
before = take 26 entries

abbrev pub claiming : List Entry
claiming = take 9 (drop 26 entries)

abbrev pub behind : List Entry
behind = drop 9 (drop 26 entries)

-- In any spelling that is read each has six characters with its `=`.
spelt_six : (es : List Entry) (ws : List Text) → every_entry (λ e. six e.keyword) es ≡ true → keyword_rules es ws ≡ true → every six ws ≡ true
unfolding every_entry keyword_rules every
spelt_six [] [] h k = refl
spelt_six [] (w ∷ ws) h k = never k
spelt_six (e ∷ es) [] h k = never k
spelt_six (e ∷ es) (w ∷ ws) h k =
    let a = six e.keyword in
    let b = every_entry (λ e. six e.keyword) es in
    let c = same_but_case e.keyword w in
    let d = keyword_rules es ws in
    let long : length (keyword_start e.keyword) ≡ 6 = eqb-true (length (keyword_start e.keyword)) 6 (and_l a b h) in
    let same : length (keyword_start w) ≡ 6 = omega (arith, long, length_start e.keyword, length_start w, case_length e.keyword w (and_l c d k)) in
    and_i (eq-eqb (length (keyword_start w)) 6 same) (spelt_six es ws (and_r a b h) (and_r c d k))

claiming_six : every_entry (λ e. six e.keyword) claiming ≡ true
unfolding every_entry entries keyword_start
claiming_six = refl

claiming_apart : apart claiming ≡ true
unfolding apart every_entry entries same
claiming_apart = refl

-- What each claim is: a count with its multiplier, or with a bonus and a multiplier, or a whole number.
module _ (R : Rules) where
  abbrev counted : Kind
  counted = several (bonus R ∷ multiplier R ∷ [])

  abbrev summed : Kind
  summed = alone R.claimed_bonus_digits

  kinds : List Kind
  kinds =
      several (multiplier R ∷ [])
      ∷ alone R.claimed_points_digits
      ∷ counted
      ∷ summed
      ∷ counted
      ∷ summed
      ∷ counted
      ∷ summed
      ∷ alone R.claimed_total_digits
      ∷ []

  kinds_rule : RulesAre R claiming kinds
  unfolding kinds entries meets
  kinds_rule = refl

  claims_are : (t : Totals) → claims digits t ≡ claims_by kinds claiming (claim_numbers t)
  unfolding kinds entries claims claims_by claim_numbers
  claims_are t = refl

module _ (t : Totals) where
  before_unnamed : every_entry (unnamed (claims digits t)) before ≡ true
  unfolding every_entry named entries claims same
  before_unnamed = refl

  behind_unnamed : every_entry (unnamed (claims digits t)) behind ≡ true
  unfolding every_entry named entries claims same
  behind_unnamed = refl

  pub nine : length (claim_numbers t) ≡ 9
  unfolding claim_numbers
  nine = refl

-- The lines of each of the three, as they are and as they are written.
module _ (ws ts : List Text) where
  abbrev pub lines_before : List Text
  lines_before = keyword_lines (take 26 ws) (take 26 ts)

  abbrev pub lines_claiming : List Text
  lines_claiming = keyword_lines (take 9 (drop 26 ws)) (take 9 (drop 26 ts))

  abbrev pub lines_behind : List Text
  lines_behind = keyword_lines (drop 9 (drop 26 ws)) (drop 9 (drop 26 ts))

  table_lines : (cs : List Claim) → new_lines cs entries ws ts
      ≡ new_lines cs before (take 26 ws) (take 26 ts) ++ (new_lines cs claiming (take 9 (drop 26 ws)) (take 9 (drop 26 ts)) ++ new_lines cs behind (drop 9 (drop 26 ws)) (drop 9 (drop 26 ts)))
  unfolding entries
  table_lines cs =
      lines_append cs before (claiming ++ behind) ws ts
      ∙ ap (λ (ls : List Text). new_lines cs before (take 26 ws) (take 26 ts) ++ ls) (lines_append cs claiming behind (drop 26 ws) (drop 26 ts))

  pub old_lines : keyword_lines ws ts ≡ lines_before ++ (lines_claiming ++ lines_behind)
  old_lines =
      sym (unclaimed_stay entries ws ts)
      ∙ table_lines []
      ∙ rw (
        unclaimed_stay before (take 26 ws) (take 26 ts),
        unclaimed_stay claiming (take 9 (drop 26 ws)) (take 9 (drop 26 ts)),
        unclaimed_stay behind (drop 9 (drop 26 ws)) (drop 9 (drop 26 ts)),
      )

  module _ (R : Rules) (k : keyword_rules entries ws ≡ true) (r : argument_rules R entries ts ≡ true) where
    before_spelt : keyword_rules before (take 26 ws) ≡ true
    unfolding entries
    before_spelt = spellings_front before (claiming ++ behind) ws k

    claiming_spelt : keyword_rules claiming (take 9 (drop 26 ws)) ≡ true
    unfolding entries
    claiming_spelt = spellings_front claiming behind (drop 26 ws) (spellings_back before (claiming ++ behind) ws k)

    before_ruled : argument_rules R before (take 26 ts) ≡ true
    unfolding entries
    before_ruled = rules_front R before (claiming ++ behind) ts r

    claiming_ruled : argument_rules R claiming (take 9 (drop 26 ts)) ≡ true
    unfolding entries
    claiming_ruled = rules_front R claiming behind (drop 26 ts) (rules_back R before (claiming ++ behind) ts r)

    claiming_words : every six (take 9 (drop 26 ws)) ≡ true
    claiming_words = spelt_six claiming (take 9 (drop 26 ws)) claiming_six claiming_spelt

    pub claiming_keyworded : every keyworded lines_claiming ≡ true
    claiming_keyworded = lines_keyworded (take 9 (drop 26 ws)) (take 9 (drop 26 ts)) claiming_words

    nine_words : length (take 9 (drop 26 ws)) ≡ length claiming
    nine_words = spelling_count claiming (take 9 (drop 26 ws)) claiming_spelt

    pub before_count : length lines_before ≡ 26
    unfolding entries
    before_count =
        let many = spelling_count before (take 26 ws) before_spelt in
        keyword_count (take 26 ws) (take 26 ts) (many ∙ sym (argument_count R before (take 26 ts) before_ruled)) ∙ many

    pub claiming_count : length lines_claiming ≡ 9
    unfolding entries
    claiming_count =
        keyword_count (take 9 (drop 26 ws)) (take 9 (drop 26 ts)) (nine_words ∙ sym (argument_count R claiming (take 9 (drop 26 ts)) claiming_ruled)) ∙ nine_words

    claims_renumber : (t : Totals) → new_lines (claims digits t) claiming (take 9 (drop 26 ws)) (take 9 (drop 26 ts)) ≡ renumbered_lines (claim_numbers t) lines_claiming
    claims_renumber t =
        let nine_entries : length claiming ≡ 9 = unfold entries in refl in
        ap (λ (cs : List Claim). new_lines cs claiming (take 9 (drop 26 ws)) (take 9 (drop 26 ts))) (claims_are R t)
        ∙ lines_renumber R (kinds R) claiming (claim_numbers t) (take 9 (drop 26 ws)) (take 9 (drop 26 ts)) (kinds_rule R) (nine_entries ∙ sym (nine t)) nine_words claiming_apart claiming_words claiming_ruled

    pub new_lines_lem : (t : Totals) → keyword_lines ws (written_arguments (claims digits t) entries ts)
        ≡ lines_before ++ (renumbered_lines (claim_numbers t) lines_claiming ++ lines_behind)
    new_lines_lem t =
        table_lines (claims digits t)
        ∙ rw (
          lines_stay (claims digits t) before (take 26 ws) (take 26 ts) (before_unnamed t),
          claims_renumber t,
          lines_stay (claims digits t) behind (drop 9 (drop 26 ws)) (drop 9 (drop 26 ts)) (behind_unnamed t),
        )
