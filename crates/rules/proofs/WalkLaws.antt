-- Laws of the walk from line to line: the lines of a valid log lead to its end, and lines that lead to the end are those of the log that they
-- are read as.
-- Assumes nothing.
use Prim.Native.Nat.{ℕ, zero, suc, ◌+◌, ◌-◌}
use mathlib.Core.Path.{◌≡◌, refl, sym, ap, subst, ◌∙◌}
use mathlib.Core.Bool.{Bool, true, false, cond, ◌&&◌}
use mathlib.Core.List.{List, [], ◌∷◌, ◌++◌, map, append_assoc}
use lib.Dec.{leb}
use lib.ListN.{length, take, drop, take-append-drop}
use lib.Seq.{drop-drop, take-append_seam, drop-append_seam}
use native.Mathlib.Omega.{arith}
use borrow.Author.Tests.{not-true, leb-true, le-leb}
use Rattle.std.specs.Prelude.{Result, Ok, Err}
use Rattle.rules.specs.declared.Fault.{Fault}
use Rattle.rules.specs.declared.Refusal.{Refusal}
use Rattle.rules.specs.declared.Due.{Due}
use Rattle.rules.specs.declared.Due.TheVariants.{Identifier, Keyword, Remarks, Remark, Record, End}
use Rattle.rules.specs.Text.{Text, bytes, digit, span, same, same_but_case, begins, value, number, number_from, digits}
use Rattle.rules.specs.Rules.{Rules}
use Rattle.rules.specs.Fields.{Qso, qso_of, field_rules}
use Rattle.rules.specs.Arguments.{Entry, entries, meets, every}
use Rattle.rules.specs.Log.{Log, identifier, remarks_line, count_start, count_line, keyword_start, keyword_lines, record_line, lines_of, keyword_rules, argument_rules, remark_rule, conjunction, record_rules}
use Rattle.rules.specs.Reading.{RecordRule, keeps, breaks, record_rule, records_due, whole, spelling_on, argument_on, has_keyword, keyword_line, keyword_due, count_rule, after_record, step, Reading, accepted, refused, at_rest, spelling_due, argument_due, with_line, put, on_next, walk, fault}
use Rattle.rules.proofs.Tests.{never, and_l, and_r, and_i, not_false}
use Rattle.rules.proofs.TextLaws.{span_run, same_eq, same_refl, begins_split}
use Rattle.rules.proofs.LogLaws.{lines_opened}
use Rattle.rules.proofs.SpellingLaws.{HasKeyword, spelling_on_lem, argument_on_lem, keyword_had, keyword_has}
use Rattle.rules.proofs.NumberLaws.{value_digits, digits_all, digits_value, digits_from_lem, number_from_lem}
use Rattle.rules.proofs.FieldLaws.{parts_of_record, record_kept, record_is, record_of_fields}

-- A refusal is no log.
pub no_log_lem : {A : Type 0} {r : Refusal} {log : Log} → refused r ≡ accepted log → A
no_log_lem e = let z : ◌≡◌ {A = ℕ} 0 1 = cc in absurd (omega arith)

-- What a test, or two tests, let go on.
pub one_test : (b : Bool) (on next : Due) (number field : ℕ) → cond b (Ok on) (Err (fault number field)) ≡ Ok next → (b ≡ true) × (on ≡ next)
one_test true on next number field e = (refl, cc)
one_test false on next number field e = let z : ◌≡◌ {A = ℕ} 0 1 = cc in absurd (omega arith)

-- The first of the lines is taken, and the others lead to the end.
module _ (R : Rules) where
  pub record Taken (due : Due) (n : ℕ) (l : Text) (ls : List Text) (rest : Text) (log : Log) : Type 0 where
    pub next : Due
    pub after : Log
    pub leads : step R due l ≡ Ok next
    pub reads : walk R next (n + 1) ls rest ≡ accepted after
    pub makes : with_line due l after ≡ log

  pub walk_goes : (due next : Due) (n : ℕ) (l : Text) (ls : List Text) (rest : Text) (after : Log) → step R due l ≡ Ok next → walk R next (n + 1) ls rest ≡ accepted after → walk R due n (l ∷ ls) rest ≡ accepted (with_line due l after)
  unfolding walk on_next put
  walk_goes due next n l ls rest after e g =
      ap (λ (m : Result Due Fault). on_next (λ next. walk R next (n + 1) ls rest) n due l m) e ∙ ap (λ (r : Reading). put due l r) g

  pub walk_took : (due : Due) (n : ℕ) (l : Text) (ls : List Text) (rest : Text) (log : Log) → walk R due n (l ∷ ls) rest ≡ accepted log → Taken due n l ls rest log
  unfolding walk on_next put
  walk_took due n l ls rest log e = on (step R due l) refl e
    where
      accept : (next : Due) → step R due l ≡ Ok next → (r : Reading) → walk R next (n + 1) ls rest ≡ r → put due l r ≡ accepted log → Taken due n l ls rest log
      accept next s (accepted after) g h = record { next = next; after = after; leads = s; reads = g; makes = cc }
      accept next s (refused r) g h = no_log_lem h

      on : (m : Result Due Fault) → step R due l ≡ m → on_next (λ next. walk R next (n + 1) ls rest) n due l m ≡ accepted log → Taken due n l ls rest log
      on (Ok next) s h = accept next s (walk R next (n + 1) ls rest) refl h
      on (Err e) s h = no_log_lem h

-- # Records

abbrev record_lines : List Qso → List Text
record_lines qs = map record_line qs

-- A log of records alone.
abbrev records_alone : List Qso → Log
records_alone qs = record { keywords = []; arguments = []; remarks = []; records = qs }

keeps_goes : (m : ℕ) (r : RecordRule) (next : Due) → after_record (suc m) r ≡ Ok next → (r ≡ keeps) × (records_due m ≡ next)
unfolding after_record
keeps_goes m keeps next e = let n : suc m - 1 ≡ m = omega arith in (refl, cc)
keeps_goes m (breaks field) next e = let z : ◌≡◌ {A = ℕ} 0 1 = cc in absurd (omega arith)

module _ (R : Rules) where
  pub step_record : (m : ℕ) (l : Text) → record_rule R l ≡ keeps → step R (Record (suc m)) l ≡ Ok (records_due m)
  unfolding step after_record
  step_record m l e = let n : suc m - 1 ≡ m = omega arith in ap (after_record (suc m)) e ∙ rw n

  pub step_record_goes : (m : ℕ) (l : Text) (next : Due) → step R (Record (suc m)) l ≡ Ok next → (record_rule R l ≡ keeps) × (records_due m ≡ next)
  unfolding step
  step_record_goes m l next e = keeps_goes m (record_rule R l) next e

  with_record_lem : (m : ℕ) (q : Qso) (qs : List Qso) → conjunction (field_rules R q) ≡ true → with_line (Record m) (record_line q) (records_alone qs) ≡ records_alone (q ∷ qs)
  unfolding with_line
  with_record_lem m q qs k = ap (λ (r : Qso). records_alone (r ∷ qs)) (ap qso_of (parts_of_record R q k) ∙ record_of_fields q)

  pub records_lead : (n : ℕ) (qs : List Qso) → record_rules R qs ≡ true → walk R (records_due (length qs)) n (record_lines qs) [] ≡ accepted (records_alone qs)
  unfolding records_due record_rules
  records_lead n [] e = unfold walk at_rest in refl
  records_lead n (q ∷ qs) e =
      let k : conjunction (field_rules R q) ≡ true = and_l (conjunction (field_rules R q)) (record_rules R qs) e in
      walk_goes R (Record (suc (length qs))) (records_due (length qs)) n (record_line q) (record_lines qs) [] (records_alone qs)
      (step_record (length qs) (record_line q) (record_kept R q k))
      (records_lead (n + 1) qs (and_r (conjunction (field_rules R q)) (record_rules R qs) e))
      ∙ ap accepted (with_record_lem (suc (length qs)) q qs k)

  pub record RecordsAre (m : ℕ) (ls : List Text) (rest : Text) (log : Log) : Type 0 where
    pub no_more : rest ≡ []
    pub the_lines : ls ≡ record_lines log.records
    pub count : length log.records ≡ m
    pub rules : record_rules R log.records ≡ true
    pub no_keywords : log.keywords ≡ []
    pub no_arguments : log.arguments ≡ []
    pub no_remarks : log.remarks ≡ []

  -- Behind the last record nothing is left.
  end_are : (n : ℕ) (ls : List Text) (rest : Text) (log : Log) → walk R End n ls rest ≡ accepted log → RecordsAre 0 ls rest log
  unfolding walk record_rules
  end_are n [] [] log e =
      let is : records_alone [] ≡ log = cc in
      subst (λ (g : Log). RecordsAre 0 [] [] g) is (record { no_more = refl; the_lines = refl; count = refl; rules = refl; no_keywords = refl; no_arguments = refl; no_remarks = refl })
  end_are n [] (c ∷ rest) log e = no_log_lem e
  end_are n (l ∷ ls) rest log e = no_log_lem e

  none_are : (m n : ℕ) (rest : Text) (log : Log) {A : Type 0} → walk R (Record m) n [] rest ≡ accepted log → A
  unfolding walk
  none_are m n [] log e = no_log_lem e
  none_are m n (c ∷ rest) log e = no_log_lem e

  more_are : (m : ℕ) (l : Text) (ls : List Text) (rest : Text) (after : Log) → record_rule R l ≡ keeps → RecordsAre m ls rest after → RecordsAre (suc m) (l ∷ ls) rest (with_line (Record (suc m)) l after)
  unfolding with_line record_rules
  more_are m l ls rest after e k =
      let i = record_is R l e in
      record {
        no_more = k.no_more;
        the_lines = rw (i.line, k.the_lines);
        count = ap suc k.count;
        rules = and_i i.rules k.rules;
        no_keywords = k.no_keywords;
        no_arguments = k.no_arguments;
        no_remarks = k.no_remarks;
      }

  pub records_are : (m n : ℕ) (ls : List Text) (rest : Text) (log : Log) → walk R (records_due m) n ls rest ≡ accepted log → RecordsAre m ls rest log
  unfolding records_due
  records_are zero n ls rest log e = end_are n ls rest log e
  records_are (suc m) n [] rest log e = none_are (suc m) n rest log e
  records_are (suc m) n (l ∷ ls) rest log e =
      let t = walk_took R (Record (suc m)) n l ls rest log e in
      let g = step_record_goes m l t.next t.leads in
      let reads : walk R (records_due m) (n + 1) ls rest ≡ accepted t.after = rw g.1 t.reads in
      subst (λ (x : Log). RecordsAre (suc m) (l ∷ ls) rest x) t.makes
      (more_are m l ls rest t.after g.0 (records_are m (n + 1) ls rest t.after reads))

-- # Remarks and the count line

module _ (R : Rules) where
  count_at_lem : (t : Text) (n : ℕ) → span digit t ≡ n → count_rule R t ≡ cond (number_from 0 R.most_records (take n t) && same (drop n t) (bytes "]")) (Ok (records_due (value (take n t)))) (Err (fault 4 0))
  unfolding count_rule
  count_at_lem t n e = ap (λ (k : ℕ). cond (number_from 0 R.most_records (take k t) && same (drop k t) (bytes "]")) (Ok (records_due (value (take k t)))) (Err (fault 4 0))) e

  pub count_goes : (m : ℕ) → leb m R.most_records ≡ true → count_rule R (digits m ++ bytes "]") ≡ Ok (records_due m)
  count_goes m e =
      let t = digits m ++ bytes "]" in
      let n : span digit t ≡ length (digits m) = span_run digit (digits m) 93 [] (digits_all m) refl in
      let first : take (length (digits m)) t ≡ digits m = take-append_seam (digits m) (bytes "]") in
      let last : drop (length (digits m)) t ≡ bytes "]" = drop-append_seam (digits m) (bytes "]") in
      count_at_lem t (length (digits m)) n ∙ rw (first, last, digits_from_lem 0 R.most_records m (omega arith) (leb-true m R.most_records e), same_refl (bytes "]"), value_digits m)

  pub step_count : (m : ℕ) → leb m R.most_records ≡ true → step R Remark (count_line m) ≡ Ok (records_due m)
  unfolding step count_line count_start begins
  step_count m e = count_goes m e

  pub step_remark : (l : Text) → remark_rule l ≡ true → step R Remark l ≡ Ok Remark
  unfolding step remark_rule
  step_remark l e = ap (λ (b : Bool). cond b (count_rule R (drop (length count_start) l)) (Ok Remark)) (not-true (begins count_start l) e)

  -- A line that is taken where a remark or the count line is due is the one or the other.
  pub record IsCount (l : Text) (next : Due) : Type 0 where
    pub count : ℕ
    pub line : l ≡ count_line count
    pub fits : leb count R.most_records ≡ true
    pub due : records_due count ≡ next

  pub is_count : (l : Text) (next : Due) → begins count_start l ≡ true → count_rule R (drop (length count_start) l) ≡ Ok next → IsCount l next
  unfolding count_rule count_line
  is_count l next b e =
      let t = drop (length count_start) l in
      let n = span digit t in
      let s = take n t in
      let p = one_test (number_from 0 R.most_records s && same (drop n t) (bytes "]")) (records_due (value s)) next 4 0 e in
      let f : number_from 0 R.most_records s ≡ true = and_l (number_from 0 R.most_records s) (same (drop n t) (bytes "]")) p.0 in
      let g : same (drop n t) (bytes "]") ≡ true = and_r (number_from 0 R.most_records s) (same (drop n t) (bytes "]")) p.0 in
      let k = number_from_lem 0 R.most_records s f in
      let wrote : digits (value s) ≡ s = digits_value s k.is_number in
      record {
        count = value s;
        line = begins_split count_start l b
            ∙ ap (λ (r : Text). count_start ++ r) (sym (take-append-drop n t) ∙ cc (wrote, same_eq (drop n t) (bytes "]") g))
            ∙ sym (append_assoc count_start (digits (value s)) (bytes "]"));
        fits = le-leb (value s) R.most_records k.high;
        due = p.1;
      }

  abbrev remark_lines : List Text → List Qso → List Text
  remark_lines ms qs = ms ++ count_line (length qs) ∷ record_lines qs

  abbrev no_arguments : List Text → List Qso → Log
  no_arguments ms qs = record { keywords = []; arguments = []; remarks = ms; records = qs }

  with_count : (m : ℕ) (log : Log) → with_line Remark (count_line m) log ≡ log
  unfolding with_line count_line count_start begins
  with_count m log = refl

  with_remark : (l : Text) (log : Log) → begins count_start l ≡ false → with_line Remark l log ≡ record { keywords = log.keywords; arguments = log.arguments; remarks = l ∷ log.remarks; records = log.records }
  unfolding with_line
  with_remark l log e = ap (λ (b : Bool). record { keywords = log.keywords; arguments = log.arguments; remarks = cond b log.remarks (l ∷ log.remarks); records = log.records }) e

  pub remarks_lead : (n : ℕ) (ms : List Text) (qs : List Qso) → every remark_rule ms ≡ true → leb (length qs) R.most_records ≡ true → record_rules R qs ≡ true → walk R Remark n (remark_lines ms qs) [] ≡ accepted (no_arguments ms qs)
  unfolding every remark_rule
  remarks_lead n [] qs e f k =
      walk_goes R Remark (records_due (length qs)) n (count_line (length qs)) (record_lines qs) [] (records_alone qs)
      (step_count (length qs) f)
      (records_lead R (n + 1) qs k)
      ∙ ap accepted (with_count (length qs) (records_alone qs))
  remarks_lead n (l ∷ ms) qs e f k =
      let r : remark_rule l ≡ true = and_l (remark_rule l) (every remark_rule ms) e in
      walk_goes R Remark Remark n l (remark_lines ms qs) [] (no_arguments ms qs)
      (step_remark l r)
      (remarks_lead (n + 1) ms qs (and_r (remark_rule l) (every remark_rule ms) e) f k)
      ∙ ap accepted (with_remark l (no_arguments ms qs) (not-true (begins count_start l) r))

  pub record RemarksAre (ls : List Text) (rest : Text) (log : Log) : Type 0 where
    pub no_more : rest ≡ []
    pub the_lines : ls ≡ remark_lines log.remarks log.records
    pub remark_rules : every remark_rule log.remarks ≡ true
    pub fits : leb (length log.records) R.most_records ≡ true
    pub rules : record_rules R log.records ≡ true
    pub no_spellings : log.keywords ≡ []
    pub none : log.arguments ≡ []

  -- The count line, with the records behind it, and a remark, with the lines behind it.
  counted_are : (l : Text) (ls : List Text) (rest : Text) (next : Due) (after : Log) (c : IsCount l next) → RecordsAre R c.count ls rest after → RemarksAre (l ∷ ls) rest (with_line Remark l after)
  unfolding every
  counted_are l ls rest next after c k =
      let is : with_line Remark l after ≡ after = rw c.line (with_count c.count after) in
      let few : after.remarks ≡ [] = k.no_remarks in
      let many : length after.records ≡ c.count = k.count in
      rw is
      (record {
        no_more = k.no_more;
        the_lines = rw (few, many, c.line, k.the_lines);
        remark_rules = rw few;
        fits = rw many c.fits;
        rules = k.rules;
        no_spellings = k.no_keywords;
        none = k.no_arguments;
      })

  remarked_are : (l : Text) (ls : List Text) (rest : Text) (after : Log) → begins count_start l ≡ false → RemarksAre ls rest after → RemarksAre (l ∷ ls) rest (with_line Remark l after)
  unfolding every remark_rule
  remarked_are l ls rest after b k =
      rw (with_remark l after b)
      (record {
        no_more = k.no_more;
        the_lines = ap {B = List Text} (λ r. l ∷ r) k.the_lines;
        remark_rules = and_i (not_false b) k.remark_rules;
        fits = k.fits;
        rules = k.rules;
        no_spellings = k.no_spellings;
        none = k.none;
      })

  pub step_begun : (l : Text) (b : Bool) → begins count_start l ≡ b → step R Remark l ≡ cond b (count_rule R (drop (length count_start) l)) (Ok Remark)
  unfolding step
  step_begun l b e = ap (λ (c : Bool). cond c (count_rule R (drop (length count_start) l)) (Ok Remark)) e

  no_remarks_lem : (n : ℕ) (rest : Text) (log : Log) {A : Type 0} → walk R Remark n [] rest ≡ accepted log → A
  unfolding walk
  no_remarks_lem n rest log e = no_log_lem e

  pub remarks_are : (n : ℕ) (ls : List Text) (rest : Text) (log : Log) → walk R Remark n ls rest ≡ accepted log → RemarksAre ls rest log
  remarks_are n [] rest log e = no_remarks_lem n rest log e
  remarks_are n (l ∷ ls) rest log e =
      let t = walk_took R Remark n l ls rest log e in
      subst (λ (x : Log). RemarksAre (l ∷ ls) rest x) t.makes
      (by t.next t.after t.leads t.reads (λ g. remarks_are (n + 1) ls rest t.after g) (begins count_start l) refl)
    where
      by : (next : Due) (after : Log) → step R Remark l ≡ Ok next → walk R next (n + 1) ls rest ≡ accepted after → (walk R Remark (n + 1) ls rest ≡ accepted after → RemarksAre ls rest after) → (b : Bool) → begins count_start l ≡ b → RemarksAre (l ∷ ls) rest (with_line Remark l after)
      by next after s g more true b =
          let c = is_count l next b (sym (step_begun l true b) ∙ s) in
          counted_are l ls rest next after c (records_are R c.count (n + 1) ls rest after (rw c.due g))
      by next after s g more false b =
          let same : Remark ≡ next = cc (step_begun l false b) in
          remarked_are l ls rest after b (more (rw same g))

-- # Keywords

-- What is due where these keywords are left, after so many.
abbrev pub due_of : List Entry → ℕ → Due
due_of [] k = Remarks
due_of (e ∷ es) k = Keyword k

pub drop_next : {A : Type 0} {a : A} {l : List A} (k : ℕ) (all : List A) → drop k all ≡ a ∷ l → drop (k + 1) all ≡ l
drop_next k all e = sym (drop-drop 1 k all) ∙ ap (drop 1) e

module _ (R : Rules) where
  pub whole_goes : (due : Text) (next : Due) → whole due due next ≡ Ok next
  unfolding whole
  whole_goes due next = rw (same_refl due)

  whole_went : (due l : Text) (on next : Due) → whole due l on ≡ Ok next → (l ≡ due) × (on ≡ next)
  unfolding whole
  whole_went due l on next e = let p = one_test (same l due) on next 3 0 e in (same_eq l due p.0, p.1)

  pub keyword_goes : (e : Entry) (w t : Text) (next : Due) → same_but_case e.keyword w ≡ true → meets R e.rule t ≡ true → keyword_line R e (keyword_start w ++ t) next ≡ Ok next
  unfolding keyword_line
  keyword_goes e w t next c m = rw (keyword_had e w t c, argument_on_lem e w t c, m)

  pub record IsKeyword (e : Entry) (l : Text) (on next : Due) : Type 0 where
    pub has : HasKeyword e l
    pub rule : meets R e.rule (argument_on e l) ≡ true
    pub due : on ≡ next

  two_tests : (b m : Bool) (on next : Due) → cond b (cond m (Ok on) (Err (fault 4 0))) (Err (fault 3 0)) ≡ Ok next → (b ≡ true) × (m ≡ true) × (on ≡ next)
  two_tests true m on next e = let p = one_test m on next 4 0 e in (refl, p.0, p.1)
  two_tests false m on next e = let z : ◌≡◌ {A = ℕ} 0 1 = cc in absurd (omega arith)

  pub keyword_went : (e : Entry) (l : Text) (on next : Due) → keyword_line R e l on ≡ Ok next → IsKeyword e l on next
  unfolding keyword_line
  keyword_went e l on next g =
      let p = two_tests (has_keyword e l) (meets R e.rule (argument_on e l)) on next g in
      record { has = keyword_has e l p.0; rule = p.1; due = p.2 }

  due_keyword : (e : Entry) (es : List Entry) (k : ℕ) (l : Text) → keyword_due R (e ∷ es) k l ≡ keyword_line R e l (due_of es (k + 1))
  unfolding keyword_due
  due_keyword e [] k l = refl
  due_keyword e (f ∷ es) k l = refl

  pub step_keyword : (e : Entry) (es : List Entry) (k : ℕ) (l : Text) → drop k entries ≡ e ∷ es → step R (Keyword k) l ≡ keyword_line R e l (due_of es (k + 1))
  unfolding step
  step_keyword e es k l h = ap (λ (x : List Entry). keyword_due R x k l) h ∙ due_keyword e es k l

  abbrev log_of : List Text → List Text → List Text → List Qso → Log
  log_of ws ts ms qs = record { keywords = ws; arguments = ts; remarks = ms; records = qs }

  with_keyword : (e : Entry) (es : List Entry) (k : ℕ) (l : Text) (log : Log) → drop k entries ≡ e ∷ es → with_line (Keyword k) l log ≡ log_of (spelling_on e l ∷ log.keywords) (argument_on e l ∷ log.arguments) log.remarks log.records
  unfolding with_line spelling_due argument_due
  with_keyword e es k l log h = ap (λ (x : List Entry). log_of (spelling_due x l ∷ log.keywords) (argument_due x l ∷ log.arguments) log.remarks log.records) h

  abbrev behind : List Text → List Qso → List Text
  behind ms qs = remarks_line ∷ remark_lines R ms qs

  module _ (ms : List Text) (qs : List Qso) (remarks : every remark_rule ms ≡ true) (fits : leb (length qs) R.most_records ≡ true) (records : record_rules R qs ≡ true) where
    pub keywords_lead : (es : List Entry) (k n : ℕ) (ws ts : List Text) → drop k entries ≡ es → keyword_rules es ws ≡ true → argument_rules R es ts ≡ true → walk R (due_of es k) n (keyword_lines ws ts ++ behind ms qs) [] ≡ accepted (log_of ws ts ms qs)
    unfolding keyword_lines keyword_rules argument_rules
    keywords_lead [] k n [] [] h c e =
        walk_goes R Remarks Remark n remarks_line (remark_lines R ms qs) [] (no_arguments R ms qs)
        (unfold step in whole_goes remarks_line Remark)
        (remarks_lead R (n + 1) ms qs remarks fits records)
        ∙ unfold with_line in refl
    keywords_lead [] k n (w ∷ ws) ts h c e = never c
    keywords_lead [] k n [] (t ∷ ts) h c e = never e
    keywords_lead (x ∷ es) k n [] ts h c e = never c
    keywords_lead (x ∷ es) k n (w ∷ ws) [] h c e = never e
    keywords_lead (x ∷ es) k n (w ∷ ws) (t ∷ ts) h c e =
        let l = keyword_start w ++ t in
        let s : same_but_case x.keyword w ≡ true = and_l (same_but_case x.keyword w) (keyword_rules es ws) c in
        let m : meets R x.rule t ≡ true = and_l (meets R x.rule t) (argument_rules R es ts) e in
        walk_goes R (Keyword k) (due_of es (k + 1)) n l (keyword_lines ws ts ++ behind ms qs) [] (log_of ws ts ms qs)
        (step_keyword x es k l h ∙ keyword_goes x w t (due_of es (k + 1)) s m)
        (keywords_lead es (k + 1) (n + 1) ws ts (drop_next k entries h) (and_r (same_but_case x.keyword w) (keyword_rules es ws) c) (and_r (meets R x.rule t) (argument_rules R es ts) e))
        ∙ ap accepted (with_keyword x es k l (log_of ws ts ms qs) h ∙ rw (spelling_on_lem x w t s, argument_on_lem x w t s))

  pub record KeywordsAre (es : List Entry) (ls : List Text) (rest : Text) (log : Log) : Type 0 where
    pub no_more : rest ≡ []
    pub the_lines : ls ≡ keyword_lines log.keywords log.arguments ++ behind log.remarks log.records
    pub spellings : keyword_rules es log.keywords ≡ true
    pub rules_of_arguments : argument_rules R es log.arguments ≡ true
    pub remark_rules : every remark_rule log.remarks ≡ true
    pub fits : leb (length log.records) R.most_records ≡ true
    pub rules : record_rules R log.records ≡ true

  -- The line in front of the remarks, and a keyword, each with the lines behind it.
  headed_are : (ls : List Text) (rest : Text) (log : Log) → RemarksAre R ls rest log → KeywordsAre [] (remarks_line ∷ ls) rest log
  unfolding keyword_lines keyword_rules argument_rules
  headed_are ls rest log k =
      let few : log.arguments ≡ [] = k.none in
      let unspelt : log.keywords ≡ [] = k.no_spellings in
      record {
        no_more = k.no_more;
        the_lines = rw unspelt (ap {B = List Text} (λ r. remarks_line ∷ r) k.the_lines);
        spellings = rw unspelt;
        rules_of_arguments = rw few;
        remark_rules = k.remark_rules;
        fits = k.fits;
        rules = k.rules;
      }

  worded_are : (e : Entry) (es : List Entry) (k : ℕ) (l : Text) (ls : List Text) (rest : Text) (on next : Due) (after : Log) → drop k entries ≡ e ∷ es → IsKeyword e l on next → KeywordsAre es ls rest after → KeywordsAre (e ∷ es) (l ∷ ls) rest (with_line (Keyword k) l after)
  unfolding keyword_lines keyword_rules argument_rules
  worded_are e es k l ls rest on next after h i r =
      rw (with_keyword e es k l after h)
      (record {
        no_more = r.no_more;
        the_lines = ap {B = List Text} (λ x. x ∷ ls) i.has.line ∙ ap {B = List Text} (λ x. (keyword_start (spelling_on e l) ++ argument_on e l) ∷ x) r.the_lines;
        spellings = and_i i.has.spelt r.spellings;
        rules_of_arguments = and_i i.rule r.rules_of_arguments;
        remark_rules = r.remark_rules;
        fits = r.fits;
        rules = r.rules;
      })

  pub step_remarks_went : (l : Text) (next : Due) → step R Remarks l ≡ Ok next → (l ≡ remarks_line) × (Remark ≡ next)
  unfolding step
  step_remarks_went l next e = whole_went remarks_line l Remark next e

  with_remarks_lem : (l : Text) (log : Log) → with_line Remarks l log ≡ log
  unfolding with_line
  with_remarks_lem l log = refl

  no_keywords_lem : (es : List Entry) (k n : ℕ) (rest : Text) (log : Log) {A : Type 0} → walk R (due_of es k) n [] rest ≡ accepted log → A
  unfolding walk
  no_keywords_lem [] k n rest log e = no_log_lem e
  no_keywords_lem (w ∷ es) k n rest log e = no_log_lem e

  pub keywords_are : (es : List Entry) (k n : ℕ) (ls : List Text) (rest : Text) (log : Log) → drop k entries ≡ es → walk R (due_of es k) n ls rest ≡ accepted log → KeywordsAre es ls rest log
  keywords_are [] k n [] rest log h e = no_keywords_lem [] k n rest log e
  keywords_are [] k n (l ∷ ls) rest log h e =
      let t = walk_took R Remarks n l ls rest log e in
      let g = step_remarks_went l t.next t.leads in
      let reads : walk R Remark (n + 1) ls rest ≡ accepted t.after = rw g.1 t.reads in
      let same : t.after ≡ log = sym (with_remarks_lem l t.after) ∙ t.makes in
      rw g.0 (subst (λ (x : Log). KeywordsAre [] (remarks_line ∷ ls) rest x) same (headed_are ls rest t.after (remarks_are R (n + 1) ls rest t.after reads)))
  keywords_are (w ∷ es) k n [] rest log h e = no_keywords_lem (w ∷ es) k n rest log e
  keywords_are (w ∷ es) k n (l ∷ ls) rest log h e =
      let t = walk_took R (Keyword k) n l ls rest log e in
      let i = keyword_went w l (due_of es (k + 1)) t.next (sym (step_keyword w es k l h) ∙ t.leads) in
      let reads : walk R (due_of es (k + 1)) (n + 1) ls rest ≡ accepted t.after = rw i.due t.reads in
      subst (λ (x : Log). KeywordsAre (w ∷ es) (l ∷ ls) rest x) t.makes
      (worded_are w es k l ls rest (due_of es (k + 1)) t.next t.after h i (keywords_are es (k + 1) (n + 1) ls rest t.after (drop_next k entries h) reads))

  -- # The whole log

  pub record LogIs (ls : List Text) (rest : Text) (log : Log) : Type 0 where
    pub no_more : rest ≡ []
    pub the_lines : ls ≡ lines_of log
    pub spellings : keyword_rules entries log.keywords ≡ true
    pub rules_of_arguments : argument_rules R entries log.arguments ≡ true
    pub remark_rules : every remark_rule log.remarks ≡ true
    pub fits : leb (length log.records) R.most_records ≡ true
    pub rules : record_rules R log.records ≡ true

  pub step_identifier_went : (l : Text) (next : Due) → step R Identifier l ≡ Ok next → (l ≡ identifier) × (Keyword 0 ≡ next)
  unfolding step
  step_identifier_went l next e = whole_went identifier l (Keyword 0) next e

  with_identifier : (l : Text) (log : Log) → with_line Identifier l log ≡ log
  unfolding with_line
  with_identifier l log = refl

  pub first_keyword_lem : due_of entries 0 ≡ Keyword 0
  unfolding entries
  first_keyword_lem = refl

  no_lines_lem : (n : ℕ) (rest : Text) (log : Log) {A : Type 0} → walk R Identifier n [] rest ≡ accepted log → A
  unfolding walk
  no_lines_lem n rest log e = no_log_lem e

  -- Lines that lead to the end are those of the log that they are read as.
  pub log_is : (n : ℕ) (ls : List Text) (rest : Text) (log : Log) → walk R Identifier n ls rest ≡ accepted log → LogIs ls rest log
  log_is n [] rest log e = no_lines_lem n rest log e
  log_is n (l ∷ ls) rest log e =
      let t = walk_took R Identifier n l ls rest log e in
      let g = step_identifier_went l t.next t.leads in
      let same : t.after ≡ log = sym (with_identifier l t.after) ∙ t.makes in
      let reads : walk R (due_of entries 0) (n + 1) ls rest ≡ accepted log = rw (first_keyword_lem, g.1) (t.reads ∙ ap accepted same) in
      let k = keywords_are entries 0 (n + 1) ls rest log refl reads in
      record {
        no_more = k.no_more;
        the_lines = ap {B = List Text} (λ x. x ∷ ls) g.0 ∙ ap {B = List Text} (λ x. identifier ∷ x) k.the_lines ∙ sym (lines_opened log);
        spellings = k.spellings;
        rules_of_arguments = k.rules_of_arguments;
        remark_rules = k.remark_rules;
        fits = k.fits;
        rules = k.rules;
      }

  -- The lines of a log that keeps the rules lead to its end.
  pub log_leads : (n : ℕ) (log : Log) → keyword_rules entries log.keywords ≡ true → argument_rules R entries log.arguments ≡ true → every remark_rule log.remarks ≡ true → leb (length log.records) R.most_records ≡ true → record_rules R log.records ≡ true → walk R Identifier n (lines_of log) [] ≡ accepted log
  log_leads n log c a m f r =
      let keywords = keyword_lines log.keywords log.arguments ++ behind log.remarks log.records in
      let more : walk R (Keyword 0) (n + 1) keywords [] ≡ accepted log = rw first_keyword_lem at (keywords_lead log.remarks log.records m f r entries 0 (n + 1) log.keywords log.arguments refl c a) in
      rw (lines_opened log)
      (walk_goes R Identifier (Keyword 0) n identifier keywords [] log
      (unfold step in whole_goes identifier (Keyword 0))
      more
      ∙ ap accepted (with_identifier identifier log))
