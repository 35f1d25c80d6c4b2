-- The lines that are right as they are due are those that the walk takes: a front of a log, by its shape, and a run of steps from the
-- identifier on are one thing.
-- Assumes nothing.
use Prim.Native.Nat.{ℕ, zero, suc, ◌+◌, ◌-◌, ◌≤◌, ◌<◌}
use mathlib.Core.Path.{◌≡◌, refl, sym, ap, ap₂, subst, subst₂, ◌∙◌}
use mathlib.Core.Bool.{Bool, true, false}
use mathlib.Core.List.{List, [], ◌∷◌, ◌++◌, map, append_assoc, append-nil}
use lib.ListN.{length, take, drop, get_or, length-append, length-drop, take-append-drop}
use lib.Seq.{drop-cons, length-take-le, take-add}
use native.Mathlib.Omega.{arith}
use borrow.Author.Tests.{leb-true, le-leb}
use Rattle.std.specs.Prelude.{Ok}
use Rattle.rules.specs.declared.Due.{Due}
use Rattle.rules.specs.declared.Due.TheVariants.{Identifier, Keyword, Remarks, Remark, Record, End}
use Rattle.rules.specs.Text.{Text, same_but_case, begins, parts}
use Rattle.rules.specs.Rules.{Rules}
use Rattle.rules.specs.Fields.{Qso, qso_of, field_rules}
use Rattle.rules.specs.Arguments.{anything, Entry, entries, meets, every}
use Rattle.rules.specs.Log.{identifier, remarks_line, count_start, count_line, keyword_start, keyword_lines, record_line, keyword_rules, argument_rules, remark_rule, conjunction, record_rules}
use Rattle.rules.specs.Reading.{records_due, spelling_on, argument_on, step}
use Rattle.rules.specs.Given.{head_lines, Front, no_lines, keywords_so_far, all_keywords, remarks_so_far, records_so_far, IsKeywordAfter}
use Rattle.rules.proofs.Tests.{so, holds, never, and_l, and_r, and_i, not_false}
use Rattle.rules.proofs.FieldLaws.{record_kept, record_is}
use Rattle.rules.proofs.SpellingLaws.{spelling_count}
use Rattle.rules.proofs.LogLaws.{every_append, argument_count}
use Rattle.rules.proofs.WalkLaws.{step_record, step_record_goes, step_count, step_remark, is_count, step_begun, due_of, drop_next, whole_goes, keyword_goes, keyword_went, step_keyword, step_remarks_went, step_identifier_went, first_keyword_lem}

-- Lines that are taken one by one, from what is due before the first to what is due behind the last.
pub data Steps (R : Rules) : Due → List Text → Due → Type 0 where
  none : {due : Due} → Steps R due [] due
  more : {due next last : Due} {l : Text} {ls : List Text} → step R due l ≡ Ok next → Steps R next ls last → Steps R due (l ∷ ls) last

steps_append : {R : Rules} {due mid last : Due} {ls ms : List Text} → Steps R due ls mid → Steps R mid ms last → Steps R due (ls ++ ms) last
steps_append none t = t
steps_append (more e s) t = more e (steps_append s t)

-- The keyword that comes after k others.
pub keyword_after : (k : ℕ) → k < length entries → (e : Entry) × IsKeywordAfter k e
keyword_after k h =
    let none : Entry = record { keyword = []; rule = anything } in
    (get_or entries k none, (drop (suc k) entries, drop-cons entries k none h))

-- A keyword is due only where one is left.
abbrev pub Left : Due → Type 0
Left Identifier = Unit {0}
Left (Keyword k) = k < length entries
Left Remarks = Unit {0}
Left Remark = Unit {0}
Left (Record left) = Unit {0}
Left End = Unit {0}

-- # A front is taken

module _ (R : Rules) where
  keywords_run : (es fs : List Entry) (j k : ℕ) (ws ts : List Text) → drop j entries ≡ es ++ fs → k ≡ j + length es → keyword_rules es ws ≡ true → argument_rules R es ts ≡ true → Steps R (due_of (es ++ fs) j) (keyword_lines ws ts) (due_of fs k)
  unfolding keyword_lines keyword_rules argument_rules
  keywords_run [] fs j k [] [] h n c a = let same : k ≡ j = omega arith in rw same none
  keywords_run [] fs j k (w ∷ ws) ts h n c a = never c
  keywords_run [] fs j k [] (t ∷ ts) h n c a = never a
  keywords_run (e ∷ es) fs j k [] ts h n c a = never c
  keywords_run (e ∷ es) fs j k (w ∷ ws) [] h n c a = never a
  keywords_run (e ∷ es) fs j k (w ∷ ws) (t ∷ ts) h n c a =
      let s : same_but_case e.keyword w ≡ true = and_l (same_but_case e.keyword w) (keyword_rules es ws) c in
      let m : meets R e.rule t ≡ true = and_l (meets R e.rule t) (argument_rules R es ts) a in
      more
      (step_keyword R e (es ++ fs) j (keyword_start w ++ t) h ∙ keyword_goes R e w t (due_of (es ++ fs) (j + 1)) s m)
      (keywords_run es fs (j + 1) k ws ts (drop_next j entries h) (omega arith) (and_r (same_but_case e.keyword w) (keyword_rules es ws) c) (and_r (meets R e.rule t) (argument_rules R es ts) a))

  identifier_step : step R Identifier identifier ≡ Ok (Keyword 0)
  unfolding step
  identifier_step = whole_goes R identifier (Keyword 0)

  -- Of the keywords as many as there are lines, from the first on.
  header_run : (es fs : List Entry) (ws ts : List Text) → entries ≡ es ++ fs → keyword_rules es ws ≡ true → argument_rules R es ts ≡ true → Steps R Identifier (identifier ∷ keyword_lines ws ts) (due_of fs (length es))
  header_run es fs ws ts h c a =
      let first : due_of (es ++ fs) 0 ≡ Keyword 0 = rw (← h) (first_keyword_lem R) in
      more identifier_step (subst (λ (d : Due). Steps R d (keyword_lines ws ts) (due_of fs (length es))) first (keywords_run es fs 0 (length es) ws ts h (omega arith) c a))

  keyword_left : (k : ℕ) → k < length entries → due_of (drop k entries) (length (take k entries)) ≡ Keyword k
  keyword_left k h =
      ap (λ (es : List Entry). due_of es (length (take k entries))) (keyword_after k h).1.1
      ∙ ap Keyword (length-take-le k entries (omega arith))

  all_run : (ws ts : List Text) → keyword_rules entries ws ≡ true → argument_rules R entries ts ≡ true → Steps R Identifier (identifier ∷ keyword_lines ws ts) Remarks
  all_run ws ts c a = header_run entries [] ws ts (sym (append-nil entries)) c a

  remarks_run : (ms : List Text) → every remark_rule ms ≡ true → Steps R Remark ms Remark
  unfolding every
  remarks_run [] e = none
  remarks_run (l ∷ ms) e = more (step_remark R l (and_l (remark_rule l) (every remark_rule ms) e)) (remarks_run ms (and_r (remark_rule l) (every remark_rule ms) e))

  remarks_step : step R Remarks remarks_line ≡ Ok Remark
  unfolding step
  remarks_step = whole_goes R remarks_line Remark

  head_run : (ws ts ms : List Text) → keyword_rules entries ws ≡ true → argument_rules R entries ts ≡ true → every remark_rule ms ≡ true → Steps R Identifier (head_lines ws ts ms) Remark
  head_run ws ts ms c a r = steps_append (all_run ws ts c a) (more remarks_step (remarks_run ms r))

  records_run : (qs : List Qso) (left n : ℕ) → n ≡ length qs + left → record_rules R qs ≡ true → Steps R (records_due n) (map record_line qs) (records_due left)
  unfolding records_due record_rules
  records_run [] left n h e = let same : n ≡ left = omega arith in rw same none
  records_run (q ∷ qs) left n h e =
      let m = length qs + left in
      let k : conjunction (field_rules R q) ≡ true = and_l (conjunction (field_rules R q)) (record_rules R qs) e in
      let many : n ≡ suc m = omega arith in
      rw many (more (step_record R m (record_line q) (record_kept R q k)) (records_run qs left m refl (and_r (conjunction (field_rules R q)) (record_rules R qs) e)))

  pub front_steps : {ls : List Text} {due : Due} → Front R ls due → Steps R Identifier ls due
  front_steps no_lines = none
  front_steps (keywords_so_far k ws ts h c a) =
      subst (λ (d : Due). Steps R Identifier (identifier ∷ keyword_lines ws ts) d) (keyword_left k h)
      (header_run (take k entries) (drop k entries) ws ts (sym (take-append-drop k entries)) (so (keyword_rules (take k entries) ws) c) (so (argument_rules R (take k entries) ts) a))
  front_steps (all_keywords ws ts c a) = all_run ws ts (so (keyword_rules entries ws) c) (so (argument_rules R entries ts) a)
  front_steps (remarks_so_far ws ts ms c a r) =
      head_run ws ts ms (so (keyword_rules entries ws) c) (so (argument_rules R entries ts) a) (so (every remark_rule ms) r)
  front_steps (records_so_far ws ts ms qs left c a r f k) =
      let n = length qs + left in
      steps_append (head_run ws ts ms (so (keyword_rules entries ws) c) (so (argument_rules R entries ts) a) (so (every remark_rule ms) r))
      (more (step_count R n (le-leb n R.most_records f)) (records_run qs left n refl (so (record_rules R qs) k)))

-- # What is taken is a front

-- One more at the end.
every_last : (f : Text → Bool) (ts : List Text) (t : Text) → every f ts ≡ true → f t ≡ true → every f (ts ++ t ∷ []) ≡ true
unfolding every
every_last f ts t e g = every_append f ts (t ∷ []) e (and_i g refl)

records_last : (R : Rules) (qs : List Qso) (q : Qso) → record_rules R qs ≡ true → conjunction (field_rules R q) ≡ true → record_rules R (qs ++ q ∷ []) ≡ true
unfolding record_rules
records_last R [] q e g = and_i g refl
records_last R (p ∷ qs) q e g =
    and_i (and_l (conjunction (field_rules R p)) (record_rules R qs) e) (records_last R qs q (and_r (conjunction (field_rules R p)) (record_rules R qs) e) g)

lines_last : (qs : List Qso) (q : Qso) → map record_line (qs ++ q ∷ []) ≡ map record_line qs ++ record_line q ∷ []
lines_last [] q = refl
lines_last (p ∷ qs) q = ap {B = List Text} (λ ls. record_line p ∷ ls) (lines_last qs q)

module _ (R : Rules) where
  arguments_last : (es : List Entry) (e : Entry) (ts : List Text) (t : Text) → argument_rules R es ts ≡ true → meets R e.rule t ≡ true → argument_rules R (es ++ e ∷ []) (ts ++ t ∷ []) ≡ true
  unfolding argument_rules
  arguments_last [] e [] t a m = and_i m refl
  arguments_last [] e (u ∷ ts) t a m = never a
  arguments_last (d ∷ es) e [] t a m = never a
  arguments_last (d ∷ es) e (u ∷ ts) t a m =
      and_i (and_l (meets R d.rule u) (argument_rules R es ts) a) (arguments_last es e ts t (and_r (meets R d.rule u) (argument_rules R es ts) a) m)

  spellings_last : (es : List Entry) (e : Entry) (ws : List Text) (w : Text) → keyword_rules es ws ≡ true → same_but_case e.keyword w ≡ true → keyword_rules (es ++ e ∷ []) (ws ++ w ∷ []) ≡ true
  unfolding keyword_rules
  spellings_last [] e [] w c s = and_i s refl
  spellings_last [] e (v ∷ ws) w c s = never c
  spellings_last (d ∷ es) e [] w c s = never c
  spellings_last (d ∷ es) e (v ∷ ws) w c s =
      and_i (and_l (same_but_case d.keyword v) (keyword_rules es ws) c) (spellings_last es e ws w (and_r (same_but_case d.keyword v) (keyword_rules es ws) c) s)

  keywords_last : (ws : List Text) (w : Text) (ts : List Text) (t : Text) → length ws ≡ length ts → keyword_lines (ws ++ w ∷ []) (ts ++ t ∷ []) ≡ keyword_lines ws ts ++ (keyword_start w ++ t) ∷ []
  unfolding keyword_lines
  keywords_last [] w [] t n = refl
  keywords_last [] w (u ∷ ts) t n = absurd (omega arith)
  keywords_last (v ∷ ws) w [] t n = absurd (omega arith)
  keywords_last (v ∷ ws) w (u ∷ ts) t n = ap {B = List Text} (λ ls. (keyword_start v ++ u) ∷ ls) (keywords_last ws w ts t (omega arith))

  first_taken : (l : Text) (next : Due) → step R Identifier l ≡ Ok next → Front R (l ∷ []) next
  unfolding keyword_rules argument_rules keyword_lines
  first_taken l next e =
      let g = step_identifier_went R l next e in
      rw (g.0, ← g.1) (keywords_so_far 0 [] [] (unfold entries in omega arith) tt tt)

  -- The keywords from the first on, as many as there are lines: the next of them is due, or `[Remarks]` behind the last.
  keywords_front : (k : ℕ) (es : List Entry) (ws ts : List Text) → drop k entries ≡ es → keyword_rules (take k entries) ws ≡ true → argument_rules R (take k entries) ts ≡ true → Front R (identifier ∷ keyword_lines ws ts) (due_of es k)
  keywords_front k [] ws ts h c a =
      let all : take k entries ≡ entries = sym (append-nil (take k entries)) ∙ ap (λ (r : List Entry). take k entries ++ r) (sym h) ∙ take-append-drop k entries in
      all_keywords ws ts (holds (rw all at c)) (holds (rw all at a))
  keywords_front k (f ∷ es) ws ts h c a =
      let left : length entries - k ≡ suc (length es) = sym (length-drop k entries) ∙ ap length h in
      keywords_so_far k ws ts (omega arith) (holds c) (holds a)

  -- A keyword line, behind k of them: one more of them, or all.
  keyword_taken : (k : ℕ) (ws ts : List Text) (l : Text) (next : Due) (e : Entry) (es : List Entry) → drop k entries ≡ e ∷ es → keyword_rules (take k entries) ws ≡ true → argument_rules R (take k entries) ts ≡ true → step R (Keyword k) l ≡ Ok next → Front R (identifier ∷ keyword_lines ws ts ++ l ∷ []) next
  keyword_taken k ws ts l next e es h c a g =
      let i = keyword_went R e l (due_of es (k + 1)) next (sym (step_keyword R e es k l h) ∙ g) in
      let w = spelling_on e l in
      let t = argument_on e l in
      let many : length ws ≡ length ts = spelling_count (take k entries) ws c ∙ sym (argument_count R (take k entries) ts a) in
      let lines : keyword_lines (ws ++ w ∷ []) (ts ++ t ∷ []) ≡ keyword_lines ws ts ++ l ∷ [] = keywords_last ws w ts t many ∙ ap (λ (x : Text). keyword_lines ws ts ++ x ∷ []) (sym i.has.line) in
      let one : take (k + 1) entries ≡ take k entries ++ e ∷ [] = take-add k 1 entries ∙ ap (λ (r : List Entry). take k entries ++ take 1 r) h in
      let front =
      keywords_front (k + 1) es (ws ++ w ∷ []) (ts ++ t ∷ []) (drop_next k entries h)
      (rw one (spellings_last (take k entries) e ws w c i.has.spelt))
      (rw one (arguments_last (take k entries) e ts t a i.rule)) in
      subst (λ (d : Due). Front R (identifier ∷ keyword_lines ws ts ++ l ∷ []) d) i.due
      (subst (λ (ls : List Text). Front R (identifier ∷ ls) (due_of es (k + 1))) lines front)

  remarks_taken : (ws ts : List Text) (l : Text) (next : Due) → keyword_rules entries ws ≡ true → argument_rules R entries ts ≡ true → step R Remarks l ≡ Ok next → Front R (identifier ∷ keyword_lines ws ts ++ l ∷ []) next
  unfolding every
  remarks_taken ws ts l next c a e =
      let g = step_remarks_went R l next e in
      rw (g.0, ← g.1) (remarks_so_far ws ts [] (holds c) (holds a) tt)

  -- A remark, or the count line.
  remark_taken : (ws ts ms : List Text) (l : Text) (next : Due) → keyword_rules entries ws ≡ true → argument_rules R entries ts ≡ true → every remark_rule ms ≡ true → step R Remark l ≡ Ok next → Front R (head_lines ws ts ms ++ l ∷ []) next
  unfolding remark_rule
  remark_taken ws ts ms l next k a r e = by (begins count_start l) refl
    where
      by : (b : Bool) → begins count_start l ≡ b → Front R (head_lines ws ts ms ++ l ∷ []) next
      by true b =
          let c = is_count R l next b (sym (step_begun R l true b) ∙ e) in
          let n : 0 + c.count ≡ c.count = omega arith in
          let front = records_so_far ws ts ms [] c.count (holds k) (holds a) (holds r) (omega (arith, leb-true c.count R.most_records c.fits)) (unfold record_rules in tt) in
          subst (λ (d : Due). Front R (head_lines ws ts ms ++ l ∷ []) d) c.due
          (subst (λ (x : Text). Front R (head_lines ws ts ms ++ x ∷ []) (records_due c.count)) (ap count_line n ∙ sym c.line) front)
      by false b =
          let same : Remark ≡ next = cc (step_begun R l false b) in
          rw (← same, append_assoc (identifier ∷ keyword_lines ws ts) (remarks_line ∷ ms) (l ∷ [])) (remarks_so_far ws ts (ms ++ l ∷ []) (holds k) (holds a) (holds (every_last remark_rule ms l r (not_false b))))

  record_taken : (ws ts ms : List Text) (qs : List Qso) (left : ℕ) (l : Text) (next : Due) → keyword_rules entries ws ≡ true → argument_rules R entries ts ≡ true → every remark_rule ms ≡ true → length qs + left ≤ R.most_records → record_rules R qs ≡ true → step R (records_due left) l ≡ Ok next → Front R ((head_lines ws ts ms ++ count_line (length qs + left) ∷ map record_line qs) ++ l ∷ []) next
  unfolding records_due
  record_taken ws ts ms qs zero l next c a r f k e = let z : ◌≡◌ {A = ℕ} 0 1 = unfold step in cc in absurd (omega arith)
  record_taken ws ts ms qs (suc left) l next c a r f k e =
      let g = step_record_goes R left l next e in
      let q = qso_of (parts l) in
      let i = record_is R l g.0 in
      let many : length (qs ++ q ∷ []) + left ≡ length qs + suc left = simp length-append (omega arith) in
      let lines : head_lines ws ts ms ++ count_line (length (qs ++ q ∷ []) + left) ∷ map record_line (qs ++ q ∷ []) ≡ (head_lines ws ts ms ++ count_line (length qs + suc left) ∷ map record_line qs) ++ l ∷ [] =
      ap₂ (λ (n : ℕ) (ls : List Text). head_lines ws ts ms ++ count_line n ∷ ls) many (lines_last qs q ∙ ap (λ (x : Text). map record_line qs ++ x ∷ []) i.line)
      ∙ sym (append_assoc (head_lines ws ts ms) (count_line (length qs + suc left) ∷ map record_line qs) (l ∷ [])) in
      let front = records_so_far ws ts ms (qs ++ q ∷ []) left (holds c) (holds a) (holds r) (omega arith) (holds (records_last R qs q k i.rules)) in
      subst₂ (λ (ls : List Text) (d : Due). Front R ls d) lines g.1 front

  front_taken : {ls : List Text} {due : Due} (l : Text) (next : Due) → Front R ls due → step R due l ≡ Ok next → Front R (ls ++ l ∷ []) next
  front_taken l next no_lines e = first_taken l next e
  front_taken l next (keywords_so_far k ws ts h c a) e =
      let (w, (es, left)) = keyword_after k h in
      keyword_taken k ws ts l next w es left (so (keyword_rules (take k entries) ws) c) (so (argument_rules R (take k entries) ts) a) e
  front_taken l next (all_keywords ws ts c a) e =
      remarks_taken ws ts l next (so (keyword_rules entries ws) c) (so (argument_rules R entries ts) a) e
  front_taken l next (remarks_so_far ws ts ms c a r) e =
      remark_taken ws ts ms l next (so (keyword_rules entries ws) c) (so (argument_rules R entries ts) a) (so (every remark_rule ms) r) e
  front_taken l next (records_so_far ws ts ms qs left c a r f k) e =
      record_taken ws ts ms qs left l next (so (keyword_rules entries ws) c) (so (argument_rules R entries ts) a) (so (every remark_rule ms) r) f (so (record_rules R qs) k) e

  fronts_taken : {before ls : List Text} {due last : Due} → Front R before due → Steps R due ls last → Front R (before ++ ls) last
  fronts_taken {before} f none = rw (append-nil before) f
  fronts_taken {before} f (more {next = next} {l = l} {ls = ls} e s) = rw append_assoc at (fronts_taken (front_taken l next f e) s)

  pub steps_front : {ls : List Text} {due : Due} → Steps R Identifier ls due → Front R ls due
  steps_front s = fronts_taken no_lines s

  pub front_left : {ls : List Text} {due : Due} → Front R ls due → Left due
  front_left no_lines = tt
  front_left (keywords_so_far k ws ts h c a) = h
  front_left (all_keywords ws ts c a) = tt
  front_left (remarks_so_far ws ts ms c a r) = tt
  front_left (records_so_far ws ts ms qs left c a r f k) = by left
    where
      by : (n : ℕ) → Left (records_due n)
      by zero = unfold records_due in tt
      by (suc n) = unfold records_due in tt
