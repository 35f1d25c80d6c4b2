-- The rows 2 to 6 of the table: what stops reading, a line or what is left where there is none, is what the row of its number says.
-- Assumes nothing.
use Prim.Native.Nat.{ℕ, zero, suc, ◌+◌, ◌-◌, ◌≤◌, ◌<◌}
use mathlib.Core.Path.{◌≡◌, refl, sym, ap, ap₂, ◌∙◌}
use mathlib.Core.Logic.{◌⊎◌, inl, inr}
use mathlib.Core.Bool.{Bool, true, false, cond, ◌&&◌}
use mathlib.Core.List.{List, [], ◌∷◌, ◌++◌, append_assoc}
use lib.Dec.{T, eqb}
use lib.ListN.{length, take, drop, get_or, length-append}
use lib.Seq.{drop-append_seam}
use native.Mathlib.Omega.{arith}
use borrow.Author.Tests.{leb-true, le-leb, eqb-true, eqb-false, eq-eqb, ne_eqb}
use Rattle.std.specs.Prelude.{Result, Ok, Err}
use Rattle.rules.specs.declared.Fault.{Fault}
use Rattle.rules.specs.declared.Refusal.{Refusal}
use Rattle.rules.specs.declared.Due.{Due}
use Rattle.rules.specs.declared.Due.TheVariants.{Identifier, Keyword, Remarks, Remark, Record, End}
use Rattle.rules.specs.Text.{Text, bytes, digit, span, same, same_but_case, begins, parts, value, number_from, digits}
use Rattle.rules.specs.Rules.{Rules}
use Rattle.rules.specs.Fields.{qso_of, field_rules}
use Rattle.rules.specs.Arguments.{Entry, entries, meets}
use Rattle.rules.specs.Log.{identifier, remarks_line, count_start, count_line, crlf, line_rule}
use Rattle.rules.specs.Reading.{FirstLine, a_line, no_line, first_line, RecordRule, keeps, breaks, first_broken, record_rule, records_due, whole, spelling_on, argument_on, has_keyword, keyword_line, count_rule, after_record, step, refused, refusal, at_rest, fault}
use Rattle.rules.specs.Given.{OfTheLine, NoLine, EndsOrGoesOn, HasNoEnd, IsKeywordLine, IsNotTheLineDue, BreaksItsRule, FirstBadField, BreaksField}
use Rattle.rules.proofs.Tests.{so, holds, fails, clash}
use Rattle.rules.proofs.TextLaws.{same_eq, same_of_eq, begins_front, begins_split}
use Rattle.rules.proofs.SpellingLaws.{argument_on_lem, keyword_had, keyword_has}
use Rattle.rules.proofs.LineLaws.{first_of_none, first_is}
use Rattle.rules.proofs.WalkLaws.{count_goes, is_count, step_begun, due_of, step_keyword}
use Rattle.rules.proofs.GivenLines.{keyword_after, Left}
use Rattle.rules.proofs.GivenStops.{first_none, no_refusal_lem, same_refusal, Stopped, by_aLine, by_the_rest}

-- # A record

-- The first test of a list that fails.
record Broken (n : ℕ) (bs : List Bool) (f : ℕ) : Type 0 where
  place : ℕ
  number : f ≡ n + place
  within : place < length bs
  fails : get_or bs place false ≡ false
  earlier : (j : ℕ) → j < place → get_or bs j false ≡ true

kept_is_unbroken : {A : Type 0} {f : ℕ} → keeps ≡ breaks f → A
kept_is_unbroken e = let z : ◌≡◌ {A = ℕ} 0 1 = cc in absurd (omega arith)

broken_at_lem : (n : ℕ) (bs : List Bool) (f : ℕ) → first_broken n bs ≡ breaks f → Broken n bs f
unfolding first_broken
broken_at_lem n [] f e = kept_is_unbroken e
broken_at_lem n (true ∷ bs) f e =
    let b = broken_at_lem (suc n) bs f e in
    record {
      place = suc b.place;
      number = omega (arith, b.number);
      within = omega (arith, b.within);
      fails = b.fails;
      earlier = λ j h. before b.place b.earlier j h;
    }
  where
    before : (place : ℕ) → ((j : ℕ) → j < place → get_or bs j false ≡ true) → (j : ℕ) → j < suc place → get_or (true ∷ bs) j false ≡ true
    before place h zero k = refl
    before place h (suc j) k = h j (omega arith)
broken_at_lem n (false ∷ bs) f e =
    let same : f ≡ n = cc in
    record {
      place = 0;
      number = omega arith;
      within = omega arith;
      fails = refl;
      earlier = λ j h. absurd (omega arith);
    }

at_broken : (n : ℕ) (bs : List Bool) (i : ℕ) → i < length bs → get_or bs i false ≡ false → ((j : ℕ) → j < i → get_or bs j false ≡ true) → first_broken n bs ≡ breaks (n + i)
unfolding first_broken
at_broken n [] i h e k = absurd (omega arith)
at_broken n (b ∷ bs) zero h e k = let z : n + 0 ≡ n = omega arith in rw (e, z)
at_broken n (b ∷ bs) (suc i) h e k =
    let first : b ≡ true = k 0 (omega arith) in
    let later : suc n + i ≡ n + suc i = omega arith in
    rw (first, ← later) (at_broken (suc n) bs i (omega arith) e (λ j m. k (suc j) (omega arith)))

module _ (R : Rules) (l : Text) where
  abbrev rules : List Bool
  rules = field_rules R (qso_of (parts l))

  fifteen_rules : length rules ≡ 15
  unfolding field_rules
  fifteen_rules = refl

  rule_at : (b : Bool) → eqb (length (parts l)) 15 ≡ b → record_rule R l ≡ cond b (first_broken 1 rules) (breaks 0)
  unfolding record_rule
  rule_at b e = ap (λ (c : Bool). cond c (first_broken 1 rules) (breaks 0)) e

  bad_field_lem : (f : ℕ) → record_rule R l ≡ breaks f → FirstBadField R l f
  bad_field_lem f e = by (eqb (length (parts l)) 15) refl
    where
      first : length (parts l) ≡ 15 → Broken 1 rules f → FirstBadField R l f
      first h b =
          let i = b.place in
          let at : f - 1 ≡ i = omega (arith, b.number) in
          inr (
            h,
            omega (arith, b.number),
            omega (arith, b.number, b.within, fifteen_rules),
            λ t. clash (so (get_or rules (f - 1) false) t) (rw at b.fails),
            λ j low high. holds (b.earlier (j - 1) (omega (arith, b.number))),
          )

      by : (b : Bool) → eqb (length (parts l)) 15 ≡ b → FirstBadField R l f
      by true b = first (eqb-true (length (parts l)) 15 b) (broken_at_lem 1 rules f (sym (rule_at true b) ∙ e))
      by false b =
          let none : breaks 0 ≡ breaks f = sym (rule_at false b) ∙ e in
          inl (cc, eqb-false (length (parts l)) 15 b)

  field_bad : (f : ℕ) → FirstBadField R l f → record_rule R l ≡ breaks f
  field_bad f (inl (z, h)) = rule_at false (ne_eqb (length (parts l)) 15 h) ∙ ap breaks (sym z)
  field_bad f (inr (h, low, high, bad, earlier)) =
      let number : 1 + (f - 1) ≡ f = omega arith in
      rule_at true (eq-eqb (length (parts l)) 15 h)
      ∙ at_broken 1 rules (f - 1) (omega (arith, fifteen_rules)) (fails (get_or rules (f - 1) false) (λ e. bad (holds e))) kept
      ∙ ap breaks number
    where
      kept : (j : ℕ) → j < f - 1 → get_or rules j false ≡ true
      kept j k = let at : j + 1 - 1 ≡ j = omega arith in rw at at (so (get_or rules (j + 1 - 1) false) (earlier (j + 1) (omega arith) (omega arith)))

-- # A line

-- What a line that is there stops reading with.
data LineRow (R : Rules) (due : Due) (l : Text) (number field : ℕ) : Type 0 where
  another : number ≡ 3 → field ≡ 0 → IsNotTheLineDue due l → LineRow R due l number field
  unruled : number ≡ 4 → field ≡ 0 → BreaksItsRule R due l → LineRow R due l number field
  bad_field : number ≡ 5 → BreaksField R field due l → LineRow R due l number field
  too_much : number ≡ 6 → field ≡ 0 → due ≡ End → LineRow R due l number field

going_stops : {A : Type 0} {due : Due} {number field : ℕ} → Ok due ≡ Err (fault number field) → A
going_stops e = let z : ◌≡◌ {A = ℕ} 0 1 = cc in absurd (omega arith)

fault_is : {number field n f : ℕ} → ◌≡◌ {A = Result Due Fault} (Err (fault n f)) (Err (fault number field)) → (number ≡ n) × (field ≡ f)
fault_is {number} {field} {n} {f} e =
    let h : fault n f ≡ fault number field = cc in
    (ap (λ (x : Fault). x.number) (sym h), ap (λ (x : Fault). x.field) (sym h))

-- What a test stops with.
stopped_by_lem : (b : Bool) (on : Due) (a number field : ℕ) → cond b (Ok on) (Err (fault a 0)) ≡ Err (fault number field) → (b ≡ false) × (number ≡ a) × (field ≡ 0)
stopped_by_lem true on a number field e = going_stops e
stopped_by_lem false on a number field e = let (n, f) = fault_is e in (refl, n, f)

-- A line does not begin with the keyword and its `=`, or does and has an argument that breaks its rule.
abbrev Unkeyed : Entry → Text → Type 0
Unkeyed e l = (argument : Text) → IsKeywordLine e l argument → ⊥

abbrev Unruled : Rules → Entry → Text → Type 0
Unruled R e l = (argument : Text) × IsKeywordLine e l argument × (T (meets R e.rule argument) → ⊥)

is_keyword_line : (e : Entry) (l : Text) → has_keyword e l ≡ true → IsKeywordLine e l (argument_on e l)
is_keyword_line e l b = let h = keyword_has e l b in (spelling_on e l, holds h.spelt, h.line)

keyword_line_has : (e : Entry) (l t : Text) → IsKeywordLine e l t → has_keyword e l ≡ true
keyword_line_has e l t i = let (w, s, q) = i in ap (has_keyword e) q ∙ keyword_had e w t (so (same_but_case e.keyword w) s)

module _ (R : Rules) where
  -- The identifier and `[Remarks]`, compared whole.
  whole_stopped : (due l : Text) (on : Due) (number field : ℕ) → whole due l on ≡ Err (fault number field) → (l ≡ due → ⊥) × (number ≡ 3) × (field ≡ 0)
  unfolding whole
  whole_stopped due l on number field e =
      let (b, k, z) = stopped_by_lem (same l due) on 3 number field e in
      (λ h. clash (same_of_eq l due h) b, k, z)

  whole_stops : (due l : Text) (on : Due) → (l ≡ due → ⊥) → whole due l on ≡ Err (fault 3 0)
  unfolding whole
  whole_stops due l on h = rw (fails (same l due) (λ e. h (same_eq l due e)))

  -- A keyword, its `=` and its argument.
  module _ (e : Entry) (l : Text) (on : Due) where
    keyword_stopped : (number field : ℕ) → keyword_line R e l on ≡ Err (fault number field) →
        (Unkeyed e l × (number ≡ 3) × (field ≡ 0)) ⊎ (Unruled R e l × (number ≡ 4) × (field ≡ 0))
    unfolding keyword_line
    keyword_stopped number field g = by (has_keyword e l) refl g
      where
        by : (b : Bool) → has_keyword e l ≡ b → cond b (cond (meets R e.rule (argument_on e l)) (Ok on) (Err (fault 4 0))) (Err (fault 3 0)) ≡ Err (fault number field) →
            (Unkeyed e l × (number ≡ 3) × (field ≡ 0)) ⊎ (Unruled R e l × (number ≡ 4) × (field ≡ 0))
        by true b h =
            let (m, k, z) = stopped_by_lem (meets R e.rule (argument_on e l)) on 4 number field h in
            inr ((argument_on e l, is_keyword_line e l b, λ t. clash (so (meets R e.rule (argument_on e l)) t) m), k, z)
        by false b h = let (n, f) = fault_is h in inl (λ t i. clash (keyword_line_has e l t i) b, n, f)

    unkeyed_stops : Unkeyed e l → keyword_line R e l on ≡ Err (fault 3 0)
    unfolding keyword_line
    unkeyed_stops h = rw (fails (has_keyword e l) (λ b. h (argument_on e l) (is_keyword_line e l b)))

    unruled_stops : Unruled R e l → keyword_line R e l on ≡ Err (fault 4 0)
    unfolding keyword_line
    unruled_stops p =
        let (t, (w, s, q), h) = p in
        let m : meets R e.rule t ≡ false = fails (meets R e.rule t) (λ b. h (holds b)) in
        let c = so (same_but_case e.keyword w) s in
        rw (q, keyword_had e w t c, argument_on_lem e w t c, m)

  -- The count line.
  count_stopped : (t : Text) (number field : ℕ) → count_rule R t ≡ Err (fault number field) → (number ≡ 4) × (field ≡ 0)
  unfolding count_rule
  count_stopped t number field e =
      let n = span digit t in
      let p = stopped_by_lem (number_from 0 R.most_records (take n t) && same (drop n t) (bytes "]")) (records_due (value (take n t))) 4 number field e in
      (p.1, p.2)

  uncounted : (t : Text) (number field : ℕ) → count_rule R t ≡ Err (fault number field) → (n : ℕ) → n ≤ R.most_records → t ≡ digits n ++ bytes "]" → ⊥
  uncounted t number field e n h q = going_stops (sym (count_goes R n (le-leb n R.most_records h)) ∙ ap (count_rule R) (sym q) ∙ e)

  count_cut : (t : Text) (n : ℕ) → count_start ++ t ≡ count_line n → t ≡ digits n ++ bytes "]"
  unfolding count_line
  count_cut t n e =
      sym (drop-append_seam count_start t)
      ∙ ap (drop (length count_start)) (e ∙ append_assoc count_start (digits n) (bytes "]"))
      ∙ drop-append_seam count_start (digits n ++ bytes "]")

  count_stops : (t : Text) → ((n : ℕ) → n ≤ R.most_records → t ≡ digits n ++ bytes "]" → ⊥) → count_rule R t ≡ Err (fault 4 0)
  count_stops t h = by (count_rule R t) refl
    where
      by : (m : Result Due Fault) → count_rule R t ≡ m → m ≡ Err (fault 4 0)
      by (Ok next) e =
          let c = is_count R (count_start ++ t) next (begins_front count_start t) (ap (count_rule R) (drop-append_seam count_start t) ∙ e) in
          absurd (h c.count (leb-true c.count R.most_records c.fits) (count_cut t c.count c.line))
      by (Err f) e = let (k, z) = count_stopped t f.number f.field e in ap₂ (λ (n i : ℕ). Err (fault n i)) k z

  -- What is due, and a line that stops.
  record_stopped : (left : ℕ) (l : Text) (number field : ℕ) (r : RecordRule) → record_rule R l ≡ r → after_record left r ≡ Err (fault number field) → LineRow R (Record left) l number field
  unfolding after_record
  record_stopped left l number field keeps g e = going_stops e
  record_stopped left l number field (breaks f) g e =
      let (five, at) = fault_is e in
      let bad : record_rule R l ≡ breaks field = g ∙ ap breaks (sym at) in
      bad_field five (left, refl, bad_field_lem R l field bad)

  remark_stopped : (l : Text) (number field : ℕ) → step R Remark l ≡ Err (fault number field) → LineRow R Remark l number field
  remark_stopped l number field e = by (begins count_start l) refl
    where
      by : (b : Bool) → begins count_start l ≡ b → LineRow R Remark l number field
      by true b =
          let t = drop (length count_start) l in
          let stops : count_rule R t ≡ Err (fault number field) = sym (step_begun R l true b) ∙ e in
          let (k, z) = count_stopped t number field stops in
          unruled k z (t, begins_split count_start l b, uncounted t number field stops)
      by false b = going_stops (sym (step_begun R l false b) ∙ e)

  keyword_row : (k : ℕ) (l : Text) (number field : ℕ) → k < length entries → step R (Keyword k) l ≡ Err (fault number field) → LineRow R (Keyword k) l number field
  keyword_row k l number field h e =
      let (w, (ws, left)) = keyword_after k h in
      by w ws left (keyword_stopped w l (due_of ws (k + 1)) number field (sym (step_keyword R w ws k l left) ∙ e))
    where
      by : (w : Entry) (ws : List Entry) → drop k entries ≡ w ∷ ws →
          (Unkeyed w l × (number ≡ 3) × (field ≡ 0)) ⊎ (Unruled R w l × (number ≡ 4) × (field ≡ 0)) → LineRow R (Keyword k) l number field
      by w ws left (inl (f, n, z)) = another n z (w, (ws, left), f)
      by w ws left (inr ((t, q, f), n, z)) = unruled n z (w, (ws, left), t, q, f)

  line_row : (due : Due) (l : Text) (number field : ℕ) → Left due → step R due l ≡ Err (fault number field) → LineRow R due l number field
  unfolding step
  line_row Identifier l number field h e = let (f, k, z) = whole_stopped identifier l (Keyword 0) number field e in another k z f
  line_row (Keyword k) l number field h e = keyword_row k l number field h e
  line_row Remarks l number field h e = let (f, k, z) = whole_stopped remarks_line l Remark number field e in another k z f
  line_row Remark l number field h e = remark_stopped l number field e
  line_row (Record left) l number field h e = record_stopped left l number field (record_rule R l) refl e
  line_row End l number field h e = let (six, none) = fault_is e in too_much six none refl

  not_due_stops : (due : Due) (l : Text) → IsNotTheLineDue due l → step R due l ≡ Err (fault 3 0)
  unfolding step
  not_due_stops Identifier l h = whole_stops identifier l (Keyword 0) h
  not_due_stops (Keyword k) l h =
      let (w, (ws, left), f) = h in
      step_keyword R w ws k l left ∙ unkeyed_stops w l (due_of ws (k + 1)) f
  not_due_stops Remarks l h = whole_stops remarks_line l Remark h
  not_due_stops Remark l h = absurd h
  not_due_stops (Record left) l h = absurd h
  not_due_stops End l h = absurd h

  breaks_stops : (due : Due) (l : Text) → BreaksItsRule R due l → step R due l ≡ Err (fault 4 0)
  breaks_stops Identifier l h = absurd h
  breaks_stops (Keyword k) l h =
      let (w, (ws, left), t, q, f) = h in
      step_keyword R w ws k l left ∙ unruled_stops w l (due_of ws (k + 1)) (t, q, f)
  breaks_stops Remarks l h = absurd h
  breaks_stops Remark l h =
      let (t, q, f) = h in
      step_begun R l true (ap (begins count_start) q ∙ begins_front count_start t)
      ∙ ap (λ (x : Text). count_rule R (drop (length count_start) x)) q
      ∙ ap (count_rule R) (drop-append_seam count_start t)
      ∙ count_stops t f
  breaks_stops (Record left) l h = absurd h
  breaks_stops End l h = absurd h

  field_stops : (due : Due) (l : Text) (field : ℕ) → BreaksField R field due l → step R due l ≡ Err (fault 5 field)
  unfolding step after_record
  field_stops due l field h =
      let (left, d, bad) = h in
      rw d (ap (after_record left) (field_bad R l field bad))

-- # What is left

-- A record is due, nothing is, or any other line.
abbrev kind : Due → ℕ
kind Identifier = 0
kind (Keyword k) = 0
kind Remarks = 0
kind Remark = 0
kind (Record left) = 1
kind End = 2

goes_on_lem : (due : Due) (rest : Text) → kind due ≡ 0 → EndsOrGoesOn due rest → ⊥
goes_on_lem due rest k (inl (left, e, z)) = omega (arith, ap kind e)
goes_on_lem due rest k (inr (e, f)) = omega (arith, ap kind e)

more_left : (c : ℕ) (rest : Text) → (c ∷ rest) ≡ [] → ⊥
more_left c rest e = omega (arith, ap length e)

-- What is left, where no line is, stops reading with 6 or with 2.
RestRow : Due → Text → ℕ → ℕ → Type 0
RestRow due rest number field =
    ((number ≡ 2) × (field ≡ 0) × (due ≡ End → ⊥) × (EndsOrGoesOn due rest → ⊥))
    ⊎ ((number ≡ 6) × (field ≡ 0) × EndsOrGoesOn due rest)

module _ (n number field : ℕ) where
  row_two : (due : Due) (rest : Text) → (due ≡ End → ⊥) → (EndsOrGoesOn due rest → ⊥) → refused (refusal 2 n 0) ≡ refused (refusal number n field) → RestRow due rest number field
  unfolding RestRow
  row_two due rest f g e = let q = same_refusal e in inl (sym (ap (λ (r : Refusal). r.number) q), sym (ap (λ (r : Refusal). r.field) q), f, g)

  row_six : (due : Due) (rest : Text) → EndsOrGoesOn due rest → refused (refusal 6 n 0) ≡ refused (refusal number n field) → RestRow due rest number field
  unfolding RestRow
  row_six due rest h e = let q = same_refusal e in inr (sym (ap (λ (r : Refusal). r.number) q), sym (ap (λ (r : Refusal). r.field) q), h)

  another_row : (due : Due) (rest : Text) → kind due ≡ 0 → refused (refusal 2 n 0) ≡ refused (refusal number n field) → RestRow due rest number field
  another_row due rest k e = row_two due rest (λ d. omega (arith, ap kind d)) (goes_on_lem due rest k) e

  rest_row : (due : Due) (rest : Text) → at_rest due n rest ≡ refused (refusal number n field) → RestRow due rest number field
  unfolding at_rest
  rest_row Identifier rest e = another_row Identifier rest refl e
  rest_row (Keyword k) rest e = another_row (Keyword k) rest refl e
  rest_row Remarks rest e = another_row Remarks rest refl e
  rest_row Remark rest e = another_row Remark rest refl e
  rest_row (Record left) [] e = row_six (Record left) [] (inl (left, refl, refl)) e
  rest_row (Record left) (c ∷ rest) e = row_two (Record left) (c ∷ rest) (λ d. omega (arith, ap kind d)) line e
    where
      line : EndsOrGoesOn (Record left) (c ∷ rest) → ⊥
      line (inl (m, d, z)) = more_left c rest z
      line (inr (d, z)) = omega (arith, ap kind d)
  rest_row End [] e = no_refusal_lem e
  rest_row End (c ∷ rest) e = row_six End (c ∷ rest) (inr (refl, more_left c rest)) e

rest_two : (due : Due) (n : ℕ) (rest : Text) → (due ≡ End → ⊥) → (EndsOrGoesOn due rest → ⊥) → at_rest due n rest ≡ refused (refusal 2 n 0)
unfolding at_rest
rest_two Identifier n rest f h = refl
rest_two (Keyword k) n rest f h = refl
rest_two Remarks n rest f h = refl
rest_two Remark n rest f h = refl
rest_two (Record left) n [] f h = absurd (h (inl (left, refl, refl)))
rest_two (Record left) n (c ∷ rest) f h = refl
rest_two End n rest f h = absurd (f refl)

end_six : (n : ℕ) (rest : Text) → (rest ≡ [] → ⊥) → at_rest End n rest ≡ refused (refusal 6 n 0)
unfolding at_rest
end_six n [] f = absurd (f refl)
end_six n (c ∷ rest) f = refl

-- # The rows

-- What stops reading at a line, by the table.
pub data Row (R : Rules) (field : ℕ) (due : Due) (rest : Text) : ℕ → Type 0 where
  two : field ≡ 0 → HasNoEnd R due rest → Row R field due rest 2
  three : field ≡ 0 → OfTheLine R IsNotTheLineDue due rest → Row R field due rest 3
  four : field ≡ 0 → OfTheLine R (BreaksItsRule R) due rest → Row R field due rest 4
  five : OfTheLine R (BreaksField R field) due rest → Row R field due rest 5
  six : field ≡ 0 → EndsOrGoesOn due rest → Row R field due rest 6

module _ (R : Rules) (n field : ℕ) (due : Due) (rest : Text) where
  line_told : (number : ℕ) (l after : Text) → rest ≡ l ++ crlf ++ after → T (line_rule R l) → LineRow R due l number field → Row R field due rest number
  unfolding crlf
  line_told number l after t rule (another k z h) = rw k (three z (l, after, t, rule, h))
  line_told number l after t rule (unruled k z h) = rw k (four z (l, after, t, rule, h))
  line_told number l after t rule (bad_field k h) = rw k (five (l, after, t, rule, h))
  line_told number l after t rule (too_much k z h) = rw k (six z (inr (h, λ e. omega (arith, simp length-append at (ap length (sym t ∙ e))))))

  rest_told_lem : (number : ℕ) → NoLine R rest → RestRow due rest number field → Row R field due rest number
  unfolding RestRow
  rest_told_lem number none (inl (k, z, f, h)) = rw k (two z (f, none, h))
  rest_told_lem number none (inr (k, z, h)) = rw k (six z h)

  pub stopped_row : (number : ℕ) → Left due → Stopped R n number field due rest → Row R field due rest number
  stopped_row number left (by_aLine l after t rule e) = line_told number l after t rule (line_row R due l number field left e)
  stopped_row number left (by_the_rest none e) = rest_told_lem number none (rest_row n number field due rest e)

  -- Where no field is told, it is 0.
  no_field_stops : (number : ℕ) → field ≡ 0 → ◌≡◌ {A = Result Due Fault} (Err (fault number 0)) (Err (fault number field))
  no_field_stops number z = ap (λ (f : ℕ). Err (fault number f)) (sym z)

  no_field_refused : (number : ℕ) → field ≡ 0 → refused (refusal number n 0) ≡ refused (refusal number n field)
  no_field_refused number z = cc

  six_stopped : EndsOrGoesOn due rest → field ≡ 0 → Stopped R n 6 field due rest
  unfolding at_rest step
  six_stopped (inl (left, d, e)) z = by_the_rest (first_none R rest (rw e (first_of_none R))) (rw (d, e) (no_field_refused 6 z))
  six_stopped (inr (d, f)) z = by (first_line R rest) refl
    where
      by : (x : FirstLine) → first_line R rest ≡ x → Stopped R n 6 field due rest
      by no_line e = by_the_rest (first_none R rest e) (rw d (end_six n rest f ∙ no_field_refused 6 z))
      by (a_line l after) e = let i = first_is R rest l after e in by_aLine l after i.text (holds i.rule) (rw d (no_field_stops 6 z))

  pub row_stopped : {number : ℕ} → Row R field due rest number → Stopped R n number field due rest
  row_stopped (two z (f, none, h)) = by_the_rest none (rest_two due n rest f h ∙ no_field_refused 2 z)
  row_stopped (three z (l, after, t, rule, h)) = by_aLine l after t rule (not_due_stops R due l h ∙ no_field_stops 3 z)
  row_stopped (four z (l, after, t, rule, h)) = by_aLine l after t rule (breaks_stops R due l h ∙ no_field_stops 4 z)
  row_stopped (five (l, after, t, rule, h)) = by_aLine l after t rule (field_stops R due l field h)
  row_stopped (six z h) = six_stopped h z
