-- The log that is written back from a valid log is valid, if it is not too long and what it claims has room.
-- Assumes nothing.
use Prim.Native.Nat.{ℕ, suc, ◌^◌, ◌≤◌, ◌<◌}
use mathlib.Core.Path.{◌≡◌, refl, sym, ap, subst}
use mathlib.Core.Bool.{Bool, true, false, cond, not, ◌&&◌, ◌||◌}
use mathlib.Core.List.{List, [], ◌∷◌, ◌++◌, map}
use lib.Dec.{T}
use lib.ListN.{length, take, drop, length-append}
use native.Mathlib.Omega.{arith}
use borrow.Author.Tests.{le-leb}
use Rattle.rules.specs.declared.Class.TheVariants.{Credited, Duplicate}
use Rattle.rules.specs.declared.Verdict.{Verdict}
use Rattle.rules.specs.declared.Totals.{Totals}
use Rattle.rules.specs.Text.{Text, bytes, all, allowed, same, empty, number_of, number_from, digits, parts}
use Rattle.rules.specs.Rules.{base}
use Rattle.rules.specs.Fields.{Qso, new_mark, duplicate_mark, is_error, empty_or, field_rules, points_rule}
use Rattle.rules.specs.Arguments.{Rule, claimed_points, claimed_bonus, claimed_total, count_and_multiplier, count_bonus_multiplier, Entry, entries, meets, each, every, among, count, bonus, multiplier}
use Rattle.rules.specs.Log.{Log, identifier, remarks_line, count_line, keyword_start, keyword_lines, keywords_of, record_line, render, line_rule, argument_rules, conjunction, record_rules, valid}
use Rattle.rules.specs.Judging.{is, verdicts_of_log, totals_of_log}
use Rattle.rules.specs.Writing.{recounted, Claim, claims, claimed, written_arguments, written_record, written_records, written_back}
use Rattle.rules.specs.Demands.{spelt}
use Rattle.rules.proofs.Tests.{◌beside◌, never, so, holds, and_l, and_r, and_i, or_r}
use Rattle.rules.proofs.TextLaws.{all_append, same_refl, joined_parts}
use Rattle.rules.proofs.NumberLaws.{digits_all, digits_length, digits_from_lem, digits_of, number_from_lem, number_length, number_digits}
use Rattle.rules.proofs.FieldLaws.{Plain, Fits, digits_fit, digits_plain, AllFit, room, joined_short, joined_allowed, record_line_rule}
use Rattle.rules.proofs.LogLaws.{every_append, every_front, every_back, every_more, every_first, every_others, digits_allowed, front, lines_split}
use Rattle.rules.proofs.Format.{Rightly, valid_of, of_valid}
use Rattle.rules.proofs.SpellingLaws.{listed_spelling}
use Rattle.rules.proofs.Respelt.{spelt_rightly, spelt_totals, spelt_written}
use Rattle.rules.proofs.WritingLaws.{parts_recounted, unclaimed_stays}

-- What has room in the places of the claims.
pub record HaveRoom (t : Totals) : Type 0 where
  pub credited : t.credited ≤ base.most_count
  pub points : t.points < 10 ^ base.claimed_points_digits
  pub squares : t.squares ≤ base.most_count
  pub squarebonus : t.squarebonus < 10 ^ base.claimed_bonus_digits
  pub exchanges : t.exchanges ≤ base.most_count
  pub exchangebonus : t.exchangebonus < 10 ^ base.claimed_bonus_digits
  pub countries : t.countries ≤ base.most_count
  pub countrybonus : t.countrybonus < 10 ^ base.claimed_bonus_digits
  pub total : t.total < 10 ^ base.claimed_total_digits

-- A keyword line: its argument keeps its rule, and it keeps the rule of lines.
record Good (e : Entry) (t : Text) : Type 0 where
  rule : meets base e.rule t ≡ true
  line : line_rule base (keyword_start e.keyword ++ t) ≡ true

-- A keyword and an argument that is not too long are a line.
line_of : (k t : Text) → all allowed k ≡ true → length k ≤ 6 → all allowed t ≡ true → length t ≤ 69 → line_rule base (k ++ t) ≡ true
unfolding line_rule base
line_of k t a h b g =
    and_i (le-leb (length (k ++ t)) base.longest_line (simp length-append (omega arith))) (all_append allowed k t a b)

-- Texts that keep rules have the room of the rules.
abbrev RulesFit : List ℕ → List (Text → Bool) → Type 0
RulesFit [] [] = Unit {0}
RulesFit [] (f ∷ fs) = ⊥
RulesFit (n ∷ ns) [] = ⊥
RulesFit (n ∷ ns) (f ∷ fs) = ((t : Text) → f t ≡ true → Fits n t) × RulesFit ns fs

each_fit : (ns : List ℕ) (fs : List (Text → Bool)) (ts : List Text) → RulesFit ns fs → each fs ts ≡ true → AllFit ns ts
unfolding each
each_fit [] [] [] r e = tt
each_fit [] [] (t ∷ ts) r e = never e
each_fit [] (f ∷ fs) ts r e = absurd r
each_fit (n ∷ ns) [] ts r e = absurd r
each_fit (n ∷ ns) (f ∷ fs) [] r e = never e
each_fit (n ∷ ns) (f ∷ fs) (t ∷ ts) r e = (r.0 t (and_l (f t) (each fs ts) e), each_fit ns fs ts r.1 (and_r (f t) (each fs ts) e))

-- The first of the texts may be another that keeps its rule.
each_first : (f : Text → Bool) (fs : List (Text → Bool)) (new : Text) (ts : List Text) → each (f ∷ fs) ts ≡ true → f new ≡ true → each (f ∷ fs) (new ∷ drop 1 ts) ≡ true
unfolding each
each_first f fs new [] e g = never e
each_first f fs new (t ∷ ts) e g = and_i g (and_r (f t) (each fs ts) e)

from_fits : (least most k : ℕ) → most < 10 ^ suc k → (t : Text) → number_from least most t ≡ true → Fits (suc k) t
from_fits least most k h t e =
    let n = number_from_lem least most t e in
    digits_fit (suc k) t (number_digits t n.is_number) (number_length k t n.is_number (omega (arith, n.high)))

count_fits : (t : Text) → count base t ≡ true → Fits 4 t
unfolding count base
count_fits t e = from_fits 0 base.most_count 3 (omega arith) t e

bonus_fits : (t : Text) → bonus base t ≡ true → Fits 4 t
unfolding bonus base
bonus_fits t e = from_fits 0 base.most_bonus 3 (omega arith) t e

multiplier_fits : (t : Text) → multiplier base t ≡ true → Fits 2 t
unfolding multiplier base
multiplier_fits t e = from_fits 1 base.most_multiplier 1 (omega arith) t e

digits_count : (n : ℕ) → n ≤ base.most_count → count base (digits n) ≡ true
unfolding count base
digits_count n h = digits_from_lem 0 base.most_count n (omega arith) h

-- An argument with another count keeps the rules of its parts, and is not too long.
record Recounted (fs : List (Text → Bool)) (most : ℕ) (t : Text) : Type 0 where
  rule : each fs (parts t) ≡ true
  characters : all allowed t ≡ true
  short : length t ≤ most

recounted_rightly : (f : Text → Bool) (fs : List (Text → Bool)) (ns : List ℕ) (new t : Text) → RulesFit ns (f ∷ fs) → Plain new → f new ≡ true → each (f ∷ fs) (parts t) ≡ true → Recounted (f ∷ fs) (room ns) (recounted new t)
recounted_rightly f fs ns new t r p g e =
    let u = recounted new t in
    let rule : each (f ∷ fs) (parts u) ≡ true = rw (parts_recounted new t p) (each_first f fs new (parts t) e g) in
    let k = each_fit ns (f ∷ fs) (parts u) r rule in
    record {
      rule = rule;
      characters = rw (joined_parts u) at (joined_allowed ns (parts u) k);
      short = rw (joined_parts u) at (joined_short ns (parts u) k);
    }

-- The claims, each at the keyword that it is for.
abbrev Keeps : List Claim → Entry → Type 0
Keeps cs e = (t : Text) → Good e t → Good e (claimed cs e.keyword t)

abbrev at : Text → Rule → Entry
at word rule = record { keyword = word; rule = rule }

module _ (word : Text) (characters : all allowed (word ++ bytes "=") ≡ true) (short : length (word ++ bytes "=") ≤ 6) (n : ℕ) where
  word_line : (t : Text) → all allowed t ≡ true → length t ≤ 69 → line_rule base (keyword_start word ++ t) ≡ true
  unfolding keyword_start
  word_line t a h = line_of (word ++ bytes "=") t characters short a h

  two_parts : n ≤ base.most_count → (t : Text) → Good (at word count_and_multiplier) t → Good (at word count_and_multiplier) (recounted (digits n) t)
  unfolding meets
  two_parts h t g =
      let k = recounted_rightly (count base) (multiplier base ∷ []) (4 ∷ 2 ∷ []) (digits n) t (count_fits, (multiplier_fits, tt)) (digits_plain (digits n) (digits_all n)) (digits_count n h) g.rule in
      record { rule = k.rule; line = word_line (recounted (digits n) t) k.characters (omega (arith, k.short)) }

  three_parts : n ≤ base.most_count → (t : Text) → Good (at word count_bonus_multiplier) t → Good (at word count_bonus_multiplier) (recounted (digits n) t)
  unfolding meets
  three_parts h t g =
      let k = recounted_rightly (count base) (bonus base ∷ multiplier base ∷ []) (4 ∷ 4 ∷ 2 ∷ []) (digits n) t (count_fits, (bonus_fits, (multiplier_fits, tt))) (digits_plain (digits n) (digits_all n)) (digits_count n h) g.rule in
      record { rule = k.rule; line = word_line (recounted (digits n) t) k.characters (omega (arith, k.short)) }

  whole_number : (rule : Rule) (k : ℕ) → suc k ≤ 69 → n < 10 ^ suc k → meets base rule (digits n) ≡ true → Good (at word rule) (digits n)
  whole_number rule k h g e =
      record { rule = e; line = word_line (digits n) (digits_allowed (digits n) (digits_all n)) (omega (arith, digits_length k n g)) }

  points_claim : n < 10 ^ base.claimed_points_digits → Good (at word claimed_points) (digits n)
  unfolding meets base
  points_claim h = whole_number claimed_points 8 (omega arith) (omega arith) (digits_of 8 n (omega arith))

  bonus_claim : n < 10 ^ base.claimed_bonus_digits → Good (at word claimed_bonus) (digits n)
  unfolding meets base
  bonus_claim h = whole_number claimed_bonus 6 (omega arith) (omega arith) (digits_of 6 n (omega arith))

  total_claim : n < 10 ^ base.claimed_total_digits → Good (at word claimed_total) (digits n)
  unfolding meets base
  total_claim h = whole_number claimed_total 14 (omega arith) (omega arith) (digits_of 14 n (omega arith))

abbrev AllKeep : List Claim → List Entry → Type 0
AllKeep cs [] = Unit {0}
AllKeep cs (e ∷ es) = Keeps cs e × AllKeep cs es

-- No claim names the keyword of any of these entries: so their arguments stay.
abbrev unnamed : List Claim → List Entry → Bool
unnamed cs [] = true
unnamed cs (e ∷ es) = not (among (map (λ (c : Claim). c.keyword) cs) e.keyword) && unnamed cs es

unnamed_keep : (cs : List Claim) (es others : List Entry) → unnamed cs es ≡ true → AllKeep cs others → AllKeep cs (es ++ others)
unnamed_keep cs [] others h k = k
unnamed_keep cs (e ∷ es) others h k =
    let none = not (among (map (λ (c : Claim). c.keyword) cs) e.keyword) in
    (λ s g. subst (Good e) (sym (unclaimed_stays cs e.keyword s (holds (and_l none (unnamed cs es) h)))) g)
    beside unnamed_keep cs es others (and_r none (unnamed cs es) h) k

-- The claims stand last but for one keyword, CODXC.
entries_keep : (t : Totals) → HaveRoom t → AllKeep (claims digits t) entries
unfolding entries claims claimed same all among
entries_keep t h =
    unnamed_keep (claims digits t) (take 26 entries) (drop 26 entries) refl
    (two_parts (bytes "CQSOs") refl (omega arith) t.credited h.credited
    beside (λ s g. points_claim (bytes "CQSOP") refl (omega arith) t.points h.points)
    beside three_parts (bytes "CWWLs") refl (omega arith) t.squares h.squares
    beside (λ s g. bonus_claim (bytes "CWWLB") refl (omega arith) t.squarebonus h.squarebonus)
    beside three_parts (bytes "CExcs") refl (omega arith) t.exchanges h.exchanges
    beside (λ s g. bonus_claim (bytes "CExcB") refl (omega arith) t.exchangebonus h.exchangebonus)
    beside three_parts (bytes "CDXCs") refl (omega arith) t.countries h.countries
    beside (λ s g. bonus_claim (bytes "CDXCB") refl (omega arith) t.countrybonus h.countrybonus)
    beside (λ s g. total_claim (bytes "CToSc") refl (omega arith) t.total h.total)
    beside (λ s g. g)
    beside tt)

record ArgumentsKept (es : List Entry) (ts : List Text) : Type 0 where
  rules : argument_rules base es ts ≡ true
  lines : every (line_rule base) (keyword_lines (keywords_of es) ts) ≡ true

arguments_keep : (cs : List Claim) (es : List Entry) (ts : List Text) → AllKeep cs es → ArgumentsKept es ts → ArgumentsKept es (written_arguments cs es ts)
unfolding written_arguments argument_rules keywords_of keyword_lines every
arguments_keep cs [] ts k g = g
arguments_keep cs (e ∷ es) [] k g = g
arguments_keep cs (e ∷ es) (t ∷ ts) k g =
    let a = meets base e.rule t in
    let b = argument_rules base es ts in
    let c = line_rule base (keyword_start e.keyword ++ t) in
    let d = every (line_rule base) (keyword_lines (keywords_of es) ts) in
    let here = k.0 t (record { rule = and_l a b g.rules; line = and_l c d g.lines }) in
    let later = arguments_keep cs es ts k.1 (record { rules = and_r a b g.rules; lines = and_r c d g.lines }) in
    record { rules = and_i here.rule later.rules; lines = and_i here.line later.lines }

-- Records: each rule that holds of a field still holds of what is written there.
abbrev Stronger : List Bool → List Bool → Type 0
Stronger [] [] = Unit {0}
Stronger [] (c ∷ cs) = ⊥
Stronger (b ∷ bs) [] = ⊥
Stronger (b ∷ bs) (c ∷ cs) = (b ≡ true → c ≡ true) × Stronger bs cs

still : (bs cs : List Bool) → Stronger bs cs → conjunction bs ≡ true → conjunction cs ≡ true
unfolding conjunction
still [] [] k e = refl
still [] (c ∷ cs) k e = absurd k
still (b ∷ bs) [] k e = absurd k
still (b ∷ bs) (c ∷ cs) k e = and_i (k.0 (and_l b (conjunction bs) e)) (still bs cs k.1 (and_r b (conjunction bs) e))

-- A mark that is set or not.
mark_rule : (mark : Text) (b : Bool) → empty_or (same mark) (cond b mark []) ≡ true
unfolding empty_or
mark_rule mark true = or_r (empty mark) (same_refl mark)
mark_rule mark false = refl

kept_mark : (mark t : Text) (b : Bool) → empty_or (same mark) t ≡ true → empty_or (same mark) (cond b t []) ≡ true
unfolding empty_or
kept_mark mark t true e = e
kept_mark mark t false e = refl

written_points : (v : Verdict) (q : Qso) → points_rule base q ≡ true → points_rule base (written_record v q) ≡ true
unfolding written_record points_rule is_error base
written_points v q = by (is Duplicate v.class)
  where
    by : (b : Bool) → points_rule base q ≡ true → (number_of base.points_digits (cond b (bytes "0") q.points) && (not (is_error q) || same (cond b (bytes "0") q.points) (bytes "0"))) ≡ true
    by true e = or_r (not (is_error q)) refl
    by false e = e

written_rules : (v : Verdict) (q : Qso) → Stronger (field_rules base q) (field_rules base (written_record v q))
unfolding field_rules written_record
written_rules v q = (
  λ e. e,
  (
    λ e. e,
    (
      λ e. e,
      (
        λ e. e,
        (
          λ e. e,
          (
            λ e. e,
            (
              λ e. e,
              (
                λ e. e,
                (
                  λ e. e,
                  (
                    λ e. e,
                    (
                      written_points v q,
                      (
                        λ e. mark_rule new_mark v.exchange,
                        (
                          λ e. mark_rule new_mark v.square,
                          (
                            kept_mark new_mark q.new_country (is Credited v.class),
                            (λ e. mark_rule duplicate_mark (is Duplicate v.class), tt),
                          ),
                        ),
                      ),
                    ),
                  ),
                ),
              ),
            ),
          ),
        ),
      ),
    ),
  ),
)

records_still : (vs : List Verdict) (qs : List Qso) → record_rules base qs ≡ true → record_rules base (written_records vs qs) ≡ true
unfolding written_records record_rules
records_still [] qs e = e
records_still (v ∷ vs) [] e = e
records_still (v ∷ vs) (q ∷ qs) e =
    let a = conjunction (field_rules base q) in
    and_i (still (field_rules base q) (field_rules base (written_record v q)) (written_rules v q) (and_l a (record_rules base qs) e)) (records_still vs qs (and_r a (record_rules base qs) e))

pub written_length : (vs : List Verdict) (qs : List Qso) → length (written_records vs qs) ≡ length qs
unfolding written_records
written_length [] qs = refl
written_length (v ∷ vs) [] = refl
written_length (v ∷ vs) (q ∷ qs) = ap suc (written_length vs qs)

-- Records that keep their rules are lines.
records_lines : (qs : List Qso) → record_rules base qs ≡ true → every (line_rule base) (map record_line qs) ≡ true
unfolding record_rules every
records_lines [] e = refl
records_lines (q ∷ qs) e =
    let a = conjunction (field_rules base q) in
    and_i (record_line_rule base q (unfold base in omega arith) (and_l a (record_rules base qs) e)) (records_lines qs (and_r a (record_rules base qs) e))

-- What is written back, part by part.
written_keywords : (log : Log) → (written_back base log).keywords ≡ keywords_of entries
unfolding written_back
written_keywords log = refl

written_arguments_lem : (log : Log) → (written_back base log).arguments ≡ written_arguments (claims digits (totals_of_log base log)) entries log.arguments
unfolding written_back
written_arguments_lem log = refl

written_remarks : (log : Log) → (written_back base log).remarks ≡ log.remarks
unfolding written_back
written_remarks log = refl

written_records_lem : (log : Log) → (written_back base log).records ≡ written_records (verdicts_of_log base log) log.records
unfolding written_back
written_records_lem log = refl

-- The lines in front of the count line.
record FrontKept (log : Log) : Type 0 where
  first : line_rule base identifier ≡ true
  arguments : ArgumentsKept entries log.arguments
  behind : every (line_rule base) (remarks_line ∷ log.remarks) ≡ true

-- The lines in front of the count line, of a log in the listed spelling.
front_listed : (log : Log) → log.keywords ≡ keywords_of entries → front log ≡ identifier ∷ keyword_lines (keywords_of entries) log.arguments ++ remarks_line ∷ log.remarks
unfolding front
front_listed log w = rw w

front_kept : (log : Log) → log.keywords ≡ keywords_of entries → every (line_rule base) (front log) ≡ true → argument_rules base entries log.arguments ≡ true → FrontKept log
front_kept log w r a =
    let k = keyword_lines (keywords_of entries) log.arguments in
    let e : every (line_rule base) (identifier ∷ k ++ remarks_line ∷ log.remarks) ≡ true = rw (front_listed log w) at r in
    let before : every (line_rule base) (identifier ∷ k) ≡ true = every_front (line_rule base) (identifier ∷ k) (remarks_line ∷ log.remarks) e in
    record {
      first = every_first (line_rule base) identifier k before;
      arguments = record { rules = a; lines = every_others (line_rule base) identifier k before };
      behind = every_back (line_rule base) (identifier ∷ k) (remarks_line ∷ log.remarks) e;
    }

kept_front : (log : Log) → log.keywords ≡ keywords_of entries → FrontKept log → every (line_rule base) (front log) ≡ true
kept_front log w f =
    let k = keyword_lines (keywords_of entries) log.arguments in
    rw (front_listed log w) (every_append (line_rule base) (identifier ∷ k) (remarks_line ∷ log.remarks) (every_more (line_rule base) identifier k f.first f.arguments.lines) f.behind)

-- Of a log in the listed spelling.
module _ (log : Log) (w : log.keywords ≡ keywords_of entries) (h : HaveRoom (totals_of_log base log)) where
  front_still : every (line_rule base) (front log) ≡ true → argument_rules base entries log.arguments ≡ true → (every (line_rule base) (front (written_back base log)) ≡ true) × (argument_rules base entries (written_back base log).arguments ≡ true)
  front_still e a =
      let f = front_kept log w e a in
      let k : ArgumentsKept entries (written_back base log).arguments = rw (written_arguments_lem log) (arguments_keep (claims digits (totals_of_log base log)) entries log.arguments (entries_keep (totals_of_log base log) h) f.arguments) in
      (kept_front (written_back base log) (written_keywords log) (record { first = f.first; arguments = k; behind = rw (written_remarks log) f.behind }), k.rules)

  written_rightly : Rightly base log → length (render (written_back base log)) ≤ base.longest_log → Rightly base (written_back base log)
  written_rightly r s =
      let new = written_back base log in
      let qs = log.records in
      let before : every (line_rule base) (front log) ≡ true = every_front (line_rule base) (front log) (count_line (length qs) ∷ map record_line qs) (rw (lines_split log) at r.line_rules) in
      let behind : every (line_rule base) (count_line (length qs) ∷ map record_line qs) ≡ true = every_back (line_rule base) (front log) (count_line (length qs) ∷ map record_line qs) (rw (lines_split log) at r.line_rules) in
      let number : length new.records ≡ length qs = rw (written_records_lem log) (written_length (verdicts_of_log base log) qs) in
      let rules : record_rules base new.records ≡ true = rw (written_records_lem log) (records_still (verdicts_of_log base log) qs r.rules) in
      let f = front_still before r.rules_of_arguments in
      let line : line_rule base (count_line (length new.records)) ≡ true = rw number (every_first (line_rule base) (count_line (length qs)) (map record_line qs) behind) in
      record {
        short = s;
        line_rules = rw (lines_split new) (every_append (line_rule base) (front new) (count_line (length new.records) ∷ map record_line new.records) f.0 (every_more (line_rule base) (count_line (length new.records)) (map record_line new.records) line (records_lines new.records rules)));
        spellings = rw (written_keywords log) (listed_spelling entries);
        rules_of_arguments = f.1;
        remark_rules = rw (written_remarks log) r.remark_rules;
        fits = rw number r.fits;
        rules = rules;
      }

-- The log that is written back from a valid log is valid, if it is not too long: it is the one that is written from the log in the listed
-- spelling.
pub written_valid : (log : Log) → HaveRoom (totals_of_log base log) → T (valid base log) → length (render (written_back base log)) ≤ base.longest_log → T (valid base (written_back base log))
written_valid log h v s =
    let listed = spelt (keywords_of entries) log in
    let same : written_back base listed ≡ written_back base log = spelt_written base log (keywords_of entries) in
    let rightly = spelt_rightly base log (keywords_of entries) (of_valid base log (so (valid base log) v)) (listed_spelling entries) in
    holds (valid_of base (written_back base log) (rw same at (written_rightly listed refl (rw (spelt_totals base log (keywords_of entries)) h) rightly (rw same s))))
