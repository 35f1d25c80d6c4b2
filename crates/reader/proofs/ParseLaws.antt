-- The fields where they lie and the line that they stand on say the same: of a line by itself, and of a line in a log.
-- Assumes nothing.
use Prim.Native.Nat.{ℕ, suc, ◌+◌, ◌-◌, ◌≤◌, ◌<◌}
use native.Mathlib.Omega.{arith}
use mathlib.Core.Path.{◌≡◌, refl, sym, ap, ap₂, ◌∙◌}
use mathlib.Core.Bool.{Bool, true, false, cond, ◌&&◌, true≢false}
use mathlib.Core.List.{List, [], ◌∷◌, ◌++◌, append_assoc, append-nil}
use lib.Dec.{eqb}
use lib.ListN.{length, take, drop, drop_of_length-le}
use lib.Seq.{drop-append_seam, drop-drop}
use borrow.Author.Tests.{eq-eqb, eqb-true, le-ltb, lt-ltb, ne_eqb}
use Rattle.rules.specs.declared.Fault.{Fault}
use Rattle.rules.specs.Text.{Text, all, begins, joined, parts, same}
use Rattle.rules.specs.Rules.{Rules, base}
use Rattle.rules.specs.Fields.{Qso, duplicate_mark, empty_or, field_rules, fields_of, qso_of}
use Rattle.rules.specs.Arguments.{every}
use Rattle.rules.specs.Log.{conjunction, crlf, record_line}
use Rattle.rules.specs.Reading.{FirstLine, RecordRule, a_line, breaks, first_broken, first_line, keeps, no_line, record_rule, fault}
use Rattle.rules.proofs.Tests.{and_i, and_l, and_r, holds, picked, so}
use Rattle.rules.proofs.TextLaws.{begins_front, begins_split, joined_parts, parts_plain, plain}
use Rattle.rules.proofs.FieldLaws.{all_hold, fields_of_texts, record_is, record_kept, record_line_rule, room, rooms}
use Rattle.rules.proofs.LineLaws.{first_front, first_is}
use Rattle.rules.proofs.ValidLogs.{rule_at}
use Rattle.reader.specs.declared.Contact.{Contact}
use Rattle.std.specs.Prelude.{Some, None, Ok, Err, Result}
use Rattle.reader.specs.Line.{line_at}
use Rattle.reader.specs.Contact.{contact_at, field_start, last_end}
use Rattle.reader.specs.Record.{broken_at, broken_from, due_at, fields_from, lineless, parsed_at, parsed_by, qso_at, record_at, record_on, rules_at, told_by}
use Rattle.reader.proofs.DueLaws.{kept_told}
use Rattle.reader.proofs.LineLaws.{ends_within, missed, stood}
use Rattle.reader.proofs.PlaceLaws.{last_behind, no_letter}
use Rattle.reader.proofs.FieldsHeld.{fields_held, fields_joined, starts_held, starts_measured}

-- # What is told of the fields

bad_parsed : (c : Contact) (r : RecordRule) {f : ℕ} → parsed_by c r ≡ Err f → r ≡ breaks f
unfolding parsed_by
bad_parsed c keeps e = let z : ◌≡◌ {A = ℕ} 0 1 = cc in absurd (omega arith)
bad_parsed c (breaks g) {f} e = let h : g ≡ f = cc in ap breaks h

fields_parsed : (c : Contact) (r : RecordRule) {d : Contact} → parsed_by c r ≡ Ok d → (r ≡ keeps) × (c ≡ d)
unfolding parsed_by
fields_parsed c keeps e = (refl, cc)
fields_parsed c (breaks g) e = let z : ◌≡◌ {A = ℕ} 0 1 = cc in absurd (omega arith)

module _ (R : Rules) (s : Text) (at : ℕ) where
  parsed_law : parsed_at R s at ≡ parsed_by (contact_at R s at) (first_broken 1 (rules_at R s at))
  unfolding parsed_at
  parsed_law = refl

  pub first_bad : {f : ℕ} → parsed_at R s at ≡ Err f → first_broken 1 (rules_at R s at) ≡ breaks f
  first_bad e = bad_parsed (contact_at R s at) (first_broken 1 (rules_at R s at)) (sym parsed_law ∙ e)

  pub none_bad : {c : Contact} → parsed_at R s at ≡ Ok c → first_broken 1 (rules_at R s at) ≡ keeps
  none_bad e = (fields_parsed (contact_at R s at) (first_broken 1 (rules_at R s at)) (sym parsed_law ∙ e)).0

  pub contact_told : {c : Contact} → parsed_at R s at ≡ Ok c → contact_at R s at ≡ c
  contact_told e = (fields_parsed (contact_at R s at) (first_broken 1 (rules_at R s at)) (sym parsed_law ∙ e)).1

-- One test more, behind the others.
no_break : {A : Type 0} {n : ℕ} → breaks n ≡ keeps → A
no_break e = let z : ◌≡◌ {A = ℕ} 0 1 = cc in absurd (omega arith)

broken_before : (n : ℕ) (bs : List Bool) (b : Bool) {f : ℕ} → first_broken n bs ≡ breaks f → first_broken n (bs ++ (b ∷ [])) ≡ breaks f
unfolding first_broken
broken_before n [] b e = no_break (sym e)
broken_before n (true ∷ bs) b e = broken_before (suc n) bs b e
broken_before n (false ∷ bs) b e = e

broken_last : (n : ℕ) (bs : List Bool) → first_broken n bs ≡ keeps → first_broken n (bs ++ (false ∷ [])) ≡ breaks (n + length bs)
unfolding first_broken
broken_last n [] e = ap breaks (omega arith)
broken_last n (true ∷ bs) e = let k : suc n + length bs ≡ n + length (true ∷ bs) = omega arith in broken_last (suc n) bs e ∙ ap breaks k
broken_last n (false ∷ bs) e = no_break e

one_more : (bs : List Bool) (b : Bool) → conjunction bs ≡ true → b ≡ true → conjunction (bs ++ (b ∷ [])) ≡ true
unfolding conjunction
one_more [] b e h = and_i h refl
one_more (a ∷ bs) b e h = and_i (and_l a (conjunction bs) e) (one_more bs b (and_r a (conjunction bs) e) h)

-- The rules of a record are those of its first fourteen fields, and that of the last.
abbrev last_rule : Text → Bool
last_rule t = empty_or (same duplicate_mark) t

rules_split : (R : Rules) (q : Qso) → field_rules R q ≡ take 14 (field_rules R q) ++ (last_rule q.duplicate ∷ [])
unfolding field_rules
rules_split R q = refl

-- The first fourteen look at no more than the first fourteen fields.
rules_of_first : (R : Rules) (q : Qso) → take 14 (field_rules R (qso_of (take 14 (fields_of q)))) ≡ take 14 (field_rules R q)
unfolding field_rules qso_of fields_of
rules_of_first R q = refl

-- The last field is right exactly where it ends behind the letter that it begins with, or at once.
marked : Text → ℕ
marked t = cond (begins duplicate_mark t) 1 0

last_by_end : (t : Text) → last_rule t ≡ eqb (length t) (marked t)
unfolding empty_or duplicate_mark same begins marked
last_by_end [] = refl
last_by_end (c ∷ []) = by (eqb 68 c)
  where
    by : (b : Bool) → (b && true) ≡ eqb 1 (cond (b && true) 1 0)
    by true = refl
    by false = refl
last_by_end (c ∷ d ∷ t) = by (eqb 68 c)
  where
    by : (b : Bool) → (b && false) ≡ eqb (suc (suc (length t))) (cond (b && true) 1 0)
    by true = sym (ne_eqb (suc (suc (length t))) 1 (λ k. omega arith))
    by false = sym (ne_eqb (suc (suc (length t))) 0 (λ k. omega arith))

marked_front : (t rest : Text) → begins duplicate_mark rest ≡ false → cond (begins duplicate_mark (t ++ rest)) 1 0 ≡ marked t
unfolding duplicate_mark begins marked
marked_front [] rest h = rw h
marked_front (c ∷ t) rest h = refl

-- # From a line of fifteen parts to its fields

-- A text in which a line stands at a place, with no letter of a duplicate behind it.
module _ (R : Rules) (s : Text) (at : ℕ) (l rest : Text) (e : drop at s ≡ l ++ rest) (n : length (parts l) ≡ 15) where
  abbrev q : Qso
  q = qso_of (parts l)

  their_fields : fields_of q ≡ parts l
  their_fields = fields_of_texts (parts l) n

  stands : drop at s ≡ joined (fields_of q) ++ rest
  stands = e ∙ ap (λ (t : Text). t ++ rest) (sym (ap joined their_fields ∙ joined_parts l))

  plainly : every (all plain) (fields_of q) ≡ true
  plainly = ap (every (all plain)) their_fields ∙ parts_plain l

  same_rules : rules_at R s at ≡ take 14 (field_rules R q)
  unfolding rules_at qso_at fields_of
  same_rules =
      ap (λ (ts : List Text). take 14 (field_rules R (qso_of ts))) (fields_held s 14 at (fields_of q) rest plainly stands (omega arith))
      ∙ rules_of_first R q

  by_rules : record_rule R l ≡ first_broken 1 (take 14 (field_rules R q) ++ (last_rule q.duplicate ∷ []))
  unfolding record_rule
  by_rules = rw (eq-eqb (length (parts l)) 15 n) (ap (first_broken 1) (rules_split R q))

  -- The first bad field of the fourteen is that of the line.
  pub line_bad : {f : ℕ} → parsed_at R s at ≡ Err f → record_rule R l ≡ breaks f
  line_bad h =
      by_rules
      ∙ broken_before 1 (take 14 (field_rules R q)) (last_rule q.duplicate) (ap (first_broken 1) (sym same_rules) ∙ first_bad R s at h)

  last_stands : drop (field_start s at 14) s ≡ q.duplicate ++ rest
  unfolding fields_of joined
  last_stands = starts_held s at (fields_of q) rest plainly stands 14 (omega arith)

  last_measured : field_start s at 14 + length q.duplicate ≡ at + length l
  unfolding fields_of joined
  last_measured =
      starts_measured s at (fields_of q) rest plainly stands 14 (omega arith)
      ∙ ap (λ (t : Text). at + length t) (ap joined their_fields ∙ joined_parts l)

  module _ (h : begins duplicate_mark rest ≡ false) where
    end_is : (contact_at R s at).end ≡ field_start s at 14 + marked q.duplicate
    unfolding contact_at last_end
    end_is =
        ap (λ (t : Text). field_start s at 14 + cond (begins duplicate_mark t) 1 0) last_stands
        ∙ ap (λ (k : ℕ). field_start s at 14 + k) (marked_front q.duplicate rest h)

    -- Where the fields do not end with the line, the last is bad.
    pub line_late : {c : Contact} → parsed_at R s at ≡ Ok c → (c.end ≡ at + length l → ⊥) → record_rule R l ≡ breaks 15
    unfolding field_rules
    line_late {c} p k =
        let bad : last_rule q.duplicate ≡ false =
        last_by_end q.duplicate
        ∙ ne_eqb (length q.duplicate) (marked q.duplicate) (λ z. k (omega (arith, end_is, last_measured, ap (λ (d : Contact). d.end) (contact_told R s at p)))) in
        by_rules
        ∙ ap (λ (b : Bool). first_broken 1 (take 14 (field_rules R q) ++ (b ∷ []))) bad
        ∙ broken_last 1 (take 14 (field_rules R q)) (ap (first_broken 1) (sym same_rules) ∙ none_bad R s at p)

    -- Where the line keeps its rules, the fields end with it.
    pub kept_end : record_rule R l ≡ keeps → (contact_at R s at).end ≡ at + length l
    unfolding field_rules
    kept_end k =
        let good : last_rule q.duplicate ≡ true = so (last_rule q.duplicate) (rule_at (field_rules R q) 14 (holds (record_is R l k).rules)) in
        let size : length q.duplicate ≡ marked q.duplicate = eqb-true (length q.duplicate) (marked q.duplicate) (sym (last_by_end q.duplicate) ∙ good) in
        omega (arith, end_is, last_measured)

-- # From the fields to the line that they make

module _ (R : Rules) (s : Text) (at : ℕ) where
  abbrev last_text : Text
  last_text = cond (begins duplicate_mark (drop (field_start s at 14) s)) duplicate_mark []

  abbrev pub made : Qso
  made = qso_of (fields_from s at 14 ++ (last_text ∷ []))

  made_fields : fields_of made ≡ fields_from s at 14 ++ (last_text ∷ [])
  unfolding fields_of qso_of fields_from
  made_fields = refl

  made_first : take 14 (field_rules R made) ≡ rules_at R s at
  unfolding field_rules qso_of fields_from rules_at qso_at
  made_first = refl

  made_last : made.duplicate ≡ last_text
  unfolding qso_of fields_from
  made_last = refl

  last_right : last_rule last_text ≡ true
  unfolding empty_or duplicate_mark same
  last_right = by (begins duplicate_mark (drop (field_start s at 14) s))
    where
      by : (b : Bool) → last_rule (cond b duplicate_mark []) ≡ true
      by true = refl
      by false = refl

  last_split : drop (field_start s at 14) s ≡ last_text ++ drop (last_end s (field_start s at 14)) s
  unfolding last_end duplicate_mark
  last_split = by (begins duplicate_mark (drop (field_start s at 14) s)) refl
    where
      by : (b : Bool) → begins duplicate_mark (drop (field_start s at 14) s) ≡ b → drop (field_start s at 14) s ≡ cond b duplicate_mark [] ++ drop (field_start s at 14 + cond b 1 0) s
      by true h =
          begins_split duplicate_mark (drop (field_start s at 14) s) h
          ∙ ap (λ (t : Text). duplicate_mark ++ t) (drop-drop 1 (field_start s at 14) s)
      by false h = let k : field_start s at 14 ≡ field_start s at 14 + 0 = omega arith in ap (λ (i : ℕ). drop i s) k

  module _ {c : Contact} (p : parsed_at R s at ≡ Ok c) where
    pub made_rules : conjunction (field_rules R made) ≡ true
    made_rules =
        ap conjunction (rules_split R made)
        ∙ one_more (take 14 (field_rules R made)) (last_rule made.duplicate)
        (ap conjunction made_first ∙ all_hold 1 (rules_at R s at) (none_bad R s at p))
        (ap last_rule made_last ∙ last_right)

    end_told : c.end ≡ last_end s (field_start s at 14)
    unfolding contact_at
    end_told = ap (λ (d : Contact). d.end) (sym (contact_told R s at p))

    pub made_line : c.end ≤ length s → drop at s ≡ record_line made ++ drop c.end s
    unfolding record_line
    made_line h =
        fields_joined s 14 at last_text (drop (last_end s (field_start s at 14)) s) (omega (arith, end_told, last_behind s (field_start s at 14))) last_split
        ∙ ap₂ (λ (ts : List Text) (i : ℕ). joined ts ++ drop i s) (sym made_fields) (sym end_told)

    -- A line by itself that ends with its fields keeps the rules.
    pub alone_kept : at ≡ 0 → c.end ≡ length s → record_rule R s ≡ keeps
    alone_kept z h =
        let whole : s ≡ record_line made =
        ap (λ (i : ℕ). drop i s) (sym z)
        ∙ made_line (omega arith)
        ∙ ap (λ (t : Text). record_line made ++ t) (drop_of_length-le s {i = c.end} (omega arith))
        ∙ append-nil (record_line made) in
        ap (record_rule R) whole ∙ record_kept R made made_rules

    -- With CR LF behind them the fields are the line that stands there, if the rules leave it room, and it keeps its rules.
    module _ (fits : room (rooms R) ≤ R.longest_line) (ends : begins crlf (drop c.end s) ≡ true) where
      abbrev rest : Text
      rest = drop 2 (drop c.end s)

      ended_line_lem : drop at s ≡ record_line made ++ crlf ++ rest
      unfolding crlf
      ended_line_lem =
          made_line (omega (arith, ends_within s c.end ends))
          ∙ ap (λ (t : Text). record_line made ++ t) (begins_split crlf (drop c.end s) ends)
          ∙ sym (append_assoc (record_line made) crlf rest)

      pub line_made : first_line R (drop at s) ≡ a_line (record_line made) rest
      line_made =
          ap (first_line R) ended_line_lem ∙ first_front R (record_line made) rest (record_line_rule R made fits made_rules)

      pub line_kept_lem : record_rule R (record_line made) ≡ keeps
      line_kept_lem = record_kept R made made_rules

-- # What is told of a record

-- Of a line by itself.
module _ (R : Rules) (l : Text) where
  pub told_alone : {r : RecordRule} → record_rule R l ≡ r → told_by (contact_at R l 0) r ≡ record_on R l
  unfolding record_on
  told_alone e = ap (told_by (contact_at R l 0)) (sym e)

  pub kept_alone : {c : Contact} → parsed_at R l 0 ≡ Ok c → c.end ≡ length l → Ok c ≡ record_on R l
  unfolding told_by
  kept_alone p h = ap Ok (sym (contact_told R l 0 p)) ∙ told_alone (alone_kept R l 0 p refl h)

  broken_alone : (field : ℕ) → (length (parts l) ≡ 15 → record_rule R l ≡ breaks field) → Err (broken_at l field) ≡ record_on R l
  unfolding broken_at told_by record_rule
  broken_alone field h = by (eqb (length (parts l)) 15) refl
    where
      by : (b : Bool) → eqb (length (parts l)) 15 ≡ b → Err (cond b (fault 5 field) (fault 5 0)) ≡ record_on R l
      by true e = told_alone (h (eqb-true (length (parts l)) 15 e))
      by false e = told_alone (ap (λ (b : Bool). cond b (first_broken 1 (field_rules R (qso_of (parts l)))) (breaks 0)) e)

  pub bad_alone : {field : ℕ} → parsed_at R l 0 ≡ Err field → Err (broken_at l field) ≡ record_on R l
  bad_alone {field} p = broken_alone field (λ n. line_bad R l 0 l [] (sym (append-nil l)) n p)

  pub late_alone : {c : Contact} → parsed_at R l 0 ≡ Ok c → (c.end ≡ length l → ⊥) → Err (broken_at l 15) ≡ record_on R l
  unfolding begins duplicate_mark
  late_alone p h = broken_alone 15 (λ n. line_late R l 0 l [] (sym (append-nil l)) n refl p (λ k. h (omega arith)))

-- A line that keeps the rules of a record has fifteen parts.
fifteen : (R : Rules) (l : Text) → record_rule R l ≡ keeps → length (parts l) ≡ 15
unfolding record_rule
fifteen R l k = eqb-true (length (parts l)) 15 (picked (eqb (length (parts l)) 15) k no_break).0

pub kept_is : (c : Contact) {d : Contact} → told_by c keeps ≡ Ok d → c ≡ d
unfolding told_by
kept_is c e = cc

-- Of the place of a log where a record is due.
module _ (R : Rules) (s : Text) (at : ℕ) where
  abbrev of_line : Text → Result Contact Fault
  of_line l = told_by (contact_at R s at) (record_rule R l)

  pub due_by : {f : FirstLine} → first_line R (drop at s) ≡ f → due_at of_line (Err (lineless s at)) f ≡ record_at R s at
  unfolding record_at
  due_by e = ap (due_at of_line (Err (lineless s at))) (sym e)

  broken_by : {f : FirstLine} (field : ℕ) → first_line R (drop at s) ≡ f → broken_from R s at field ≡ due_at (λ l. broken_at l field) (lineless s at) f
  unfolding broken_from
  broken_by field e = ap (due_at (λ l. broken_at l field) (lineless s at)) e

  -- The text from a place on is the line that stands there, its end, and the rest.
  pub line_there : (l rest : Text) → first_line R (drop at s) ≡ a_line l rest → drop at s ≡ l ++ (crlf ++ rest)
  line_there l rest e = (first_is R (drop at s) l rest e).text ∙ append_assoc l crlf rest

  pub kept_due : {c : Contact} → room (rooms R) ≤ R.longest_line → parsed_at R s at ≡ Ok c → begins crlf (drop c.end s) ≡ true → Ok c ≡ record_at R s at
  unfolding due_at told_by
  kept_due fits p h =
      ap Ok (sym (contact_told R s at p))
      ∙ ap (told_by (contact_at R s at)) (sym (line_kept_lem R s at p fits h))
      ∙ due_by (line_made R s at p fits h)

  broken_due : (field : ℕ) → ((l rest : Text) → first_line R (drop at s) ≡ a_line l rest → length (parts l) ≡ 15 → record_rule R l ≡ breaks field) → Err (broken_from R s at field) ≡ record_at R s at
  unfolding due_at broken_at told_by record_rule
  broken_due field h = by (first_line R (drop at s)) refl
    where
      counted : (l : Text) (b : Bool) → eqb (length (parts l)) 15 ≡ b → (length (parts l) ≡ 15 → record_rule R l ≡ breaks field) → Err (cond b (fault 5 field) (fault 5 0)) ≡ of_line l
      counted l true e g = ap (told_by (contact_at R s at)) (sym (g (eqb-true (length (parts l)) 15 e)))
      counted l false e g = ap (λ (b : Bool). told_by (contact_at R s at) (cond b (first_broken 1 (field_rules R (qso_of (parts l)))) (breaks 0))) (sym e)

      by : (f : FirstLine) → first_line R (drop at s) ≡ f → Err (broken_from R s at field) ≡ record_at R s at
      by (a_line l rest) e = ap Err (broken_by field e) ∙ counted l (eqb (length (parts l)) 15) refl (h l rest e) ∙ due_by e
      by no_line e = ap Err (broken_by field e) ∙ due_by e

  pub bad_due : {field : ℕ} → parsed_at R s at ≡ Err field → Err (broken_from R s at field) ≡ record_at R s at
  bad_due {field} p = broken_due field (λ l rest e n. line_bad R s at l (crlf ++ rest) (line_there l rest e) n p)

  pub late_due : {c : Contact} → parsed_at R s at ≡ Ok c → begins crlf (drop c.end s) ≡ false → Err (broken_from R s at 15) ≡ record_at R s at
  late_due {c} p h = broken_due 15 (λ l rest e n. line_late R s at l (crlf ++ rest) (line_there l rest e) n (no_letter rest) p (λ k. apart l rest e k))
    where
      apart : (l rest : Text) → first_line R (drop at s) ≡ a_line l rest → c.end ≡ at + length l → ⊥
      apart l rest e k =
          let there : drop c.end s ≡ crlf ++ rest =
          ap (λ (i : ℕ). drop i s) k
          ∙ sym (drop-drop (length l) at s)
          ∙ ap (drop (length l)) (line_there l rest e)
          ∙ drop-append_seam l (crlf ++ rest) in
          true≢false (sym (begins_front crlf rest) ∙ ap (begins crlf) (sym there) ∙ h)

  -- A line that keeps the rules ends where its fields do.
  pub taken_end : (l rest : Text) → first_line R (drop at s) ≡ a_line l rest → record_rule R l ≡ keeps → (contact_at R s at).end ≡ at + length l
  taken_end l rest e k = kept_end R s at l (crlf ++ rest) (line_there l rest e) (fifteen R l k) (no_letter rest) k

  -- A record that is taken.
  pub record Took (c : Contact) : Type 0 where
    pub line : Text
    pub rest : Text
    pub first : first_line R (drop at s) ≡ a_line line rest
    pub kept : record_rule R line ≡ keeps
    pub told : c ≡ contact_at R s at
    pub end : c.end ≡ at + length line

  no_record : {A : Type 0} {f : Fault} {c : Contact} → Err f ≡ Ok c → A
  no_record e = let z : ◌≡◌ {A = ℕ} 0 1 = cc in absurd (omega arith)

  pub took : {c : Contact} → record_at R s at ≡ Ok c → Took c
  unfolding due_at lineless
  took {c} h = by (first_line R (drop at s)) refl
    where
      by : (f : FirstLine) → first_line R (drop at s) ≡ f → Took c
      by (a_line l rest) e =
          let k : record_rule R l ≡ keeps = kept_told (contact_at R s at) (record_rule R l) (due_by e ∙ h) in
          let is : contact_at R s at ≡ c = kept_is (contact_at R s at) (ap (told_by (contact_at R s at)) (sym k) ∙ due_by e ∙ h) in
          record {
            line = l;
            rest = rest;
            first = e;
            kept = k;
            told = sym is;
            end = ap (λ (d : Contact). d.end) (sym is) ∙ taken_end l rest e k;
          }
      by no_line e = no_record (due_by e ∙ h)

  -- A bad field where no line stands, and where one does.
  pub broken_missing : (field : ℕ) {r : Fault} → line_at R s at ≡ None → r ≡ lineless s at → r ≡ broken_from R s at field
  unfolding due_at
  broken_missing field h e = e ∙ sym (broken_by field (missed R s at h))

  pub broken_line : (field : ℕ) {end : ℕ} → line_at R s at ≡ Some end → broken_at (take (end - at) (drop at s)) field ≡ broken_from R s at field
  unfolding due_at
  broken_line field h = sym (broken_by field (stood R s at h).line)

-- Where the log goes on, and where it is at its end.
pub goes_on_there : (s : Text) (at : ℕ) → at < length s → fault 2 0 ≡ lineless s at
unfolding lineless
goes_on_there s at h = rw (lt-ltb at (length s) h)

pub ends_there : (s : Text) (at : ℕ) → length s ≤ at → fault 6 0 ≡ lineless s at
unfolding lineless
ends_there s at h = rw (le-ltb at (length s) h)

-- In the base rules the fifteen fields and their semicolons are no longer than a line may be.
pub base_fits : room (rooms base) ≤ base.longest_line
unfolding base
base_fits = omega arith
