-- What stands in front of the records and then the records, told one after the other, are what reading says of the log as a whole, with where
-- its records and its claims begin.
-- Assumes nothing.
use Prim.Native.Nat.{ℕ, zero, suc, ◌+◌, ◌-◌, ◌≤◌}
use native.Mathlib.Omega.{arith}
use mathlib.Core.Path.{◌≡◌, refl, sym, ap, ap₂, ◌∙◌}
use mathlib.Core.Logic.{◌⊎◌, inl, inr}
use mathlib.Core.Bool.{Bool, true, false, cond, true≢false}
use mathlib.Core.List.{List, [], ◌∷◌, ◌++◌, map}
use lib.Dec.{ltb}
use lib.ListN.{length, length-append, length-drop, take, drop}
use borrow.Author.Tests.{eq-eqb, ne_eqb}
use Rattle.std.specs.Prelude.{Result, Ok, Err}
use Rattle.rules.specs.declared.Fault.{Fault}
use Rattle.rules.specs.declared.Due.{Due}
use Rattle.std.specs.Prelude.{Result, Ok, Err}
use Rattle.rules.specs.declared.Refusal.{Refusal}
use Rattle.rules.specs.Text.{Text, begins, same}
use Rattle.rules.specs.Rules.{Rules}
use Rattle.rules.specs.Arguments.{Entry, entries, meets}
use Rattle.rules.specs.Log.{Log, count_start, ended, identifier, lines_of, record_line, remarks_line, respelt}
use Rattle.rules.specs.Reading.{Reading, accepted, argument_on, at_rest, count_rule, has_keyword, keyword_due, keyword_line, lines, put, read, records_due, refusal, refused, spelling_due, spelling_on, step, walk, whole, with_line, fault}
use Rattle.rules.proofs.LineLaws.{lines_are_lem}
use Rattle.rules.proofs.LogLaws.{length_ended_more}
use Rattle.rules.proofs.WalkLaws.{drop_next, log_is, records_are}
use Rattle.header.specs.Header.{keyword_at}
use Rattle.reader.specs.declared.Contact.{Contact}
use Rattle.reader.specs.declared.Heading.{Heading}
use Rattle.std.specs.Prelude.{None, Some}
use Rattle.reader.specs.declared.Head.{Head}
use Rattle.reader.specs.declared.Accepted.{Accepted}
use Rattle.reader.specs.Contact.{behind, contact_at, contacts_at}
use Rattle.reader.specs.Record.{record_at}
use Rattle.reader.specs.Read.{claims_by, claims_start, heading_by, heading_of, says_respelt, no_heading, respelt_by, counted_by, early, head_count, head_from, head_next, head_of, read_of, read_told, records_told}
use Rattle.reader.specs.Noted.{contacts_from, contacts_read, noted_from, noted_line}
use Rattle.reader.proofs.DueLaws.{Stands, entries_length, entry_due, entry_at, keyword_stands, respelt_told}
use Rattle.reader.proofs.StepLaws.{counted_due, goes_to}
use Rattle.reader.proofs.ParseLaws.{took}
use Rattle.reader.proofs.ReadLaws.{Lie, accepting, first_lies, late, late_told, next_kept, next_stops, noted_goes, noted_kept, noted_stops, walk_goes, walk_stops}
use Rattle.reader.proofs.RecordsHeld.{records_start}

-- The head that leads to so many records.
abbrev pub leading : ℕ → ℕ → Heading → ℕ → Result Head Refusal
leading records first heading line = Ok (record { records = records; first = first; heading = heading; line = line })

-- What the head leads to: the answer, and the records that are noted.
abbrev pub on_head : Rules → Text → Result Head Refusal → Result Accepted Refusal
on_head R s (Ok h) = records_told R s h.records h.first h.heading h.records h.line h.first
on_head R s (Err r) = Err r

abbrev pub head_contacts : Rules → Text → Result Head Refusal → List Contact
head_contacts R s (Ok h) = contacts_from R s h.records h.first
head_contacts R s (Err r) = []

-- # Before the records

-- What is told of a log whose claims begin at a place, with so many keywords respelt before those of these entries.
abbrev heading_with : List Entry → ℕ → ℕ → List Text → Heading
heading_with es claims before ws = record { claims = claims; respelt = before + respelt es ws }

abbrev told_with : List Entry → ℕ → ℕ → ℕ → Reading → Result Accepted Refusal
told_with es claims before end (accepted log) =
    accepting (length log.records) (end - length (ended (map record_line log.records))) (heading_with es claims before log.keywords)
told_with es claims before end (refused r) = Err r

-- The entries whose keywords stand from here on, and those behind the line that is due.
abbrev left : Due → List Entry
left Due.Identifier = entries
left (Due.Keyword k) = drop k entries
left Due.Remarks = []
left Due.Remark = []
left (Due.Record n) = []
left Due.End = []

abbrev left_behind : Due → List Entry
left_behind Due.Identifier = entries
left_behind (Due.Keyword k) = drop (k + 1) entries
left_behind Due.Remarks = []
left_behind Due.Remark = []
left_behind (Due.Record n) = []
left_behind Due.End = []

-- How many lines stand from here on in front of the claims.
abbrev ahead : Due → ℕ
ahead Due.Identifier = 27
ahead (Due.Keyword k) = 26 - k
ahead Due.Remarks = 0
ahead Due.Remark = 0
ahead (Due.Record n) = 0
ahead Due.End = 0

-- Where the claims begin: behind so many of the lines from here on, or, where there are none ahead, where they were found to begin.
abbrev claims_from : ℕ → ℕ → ℕ → List Text → ℕ
claims_from zero claims at ls = claims
claims_from (suc k) claims at ls = at + length (ended (take (suc k) ls))

goes_within : (b c : Bool) (d next : Due) (x y v w : ℕ) → cond b (cond c (Ok d) (Err (fault x y))) (Err (fault v w)) ≡ Ok next → d ≡ next
goes_within true c d next x y v w e = goes_to c d next x y e
goes_within false c d next x y v w e = let z : ◌≡◌ {A = ℕ} 0 1 = cc in absurd (omega arith)

-- What a line before the records leads to: again something before them, one line nearer to the claims, or, from the count line, so many records.
abbrev Leads : Due → Due → Type 0
Leads due next =
    ((early next ≡ true) × (ahead next ≡ ahead due - 1) × (left next ≡ left_behind due)) ⊎ ((due ≡ Due.Remark) × (j : ℕ) × (next ≡ records_due j))

still : {due next : Due} (d : Due) → early d ≡ true → ahead d ≡ ahead due - 1 → left d ≡ left_behind due → d ≡ next → Leads due next
still d h k w e = inl (ap early (sym e) ∙ h, ap ahead (sym e) ∙ k, ap left (sym e) ∙ w)

module _ (R : Rules) where
  keyword_leads : (es : List Entry) (k : ℕ) (l : Text) (next : Due) → drop k entries ≡ es → length es ≡ 36 - k → keyword_due R es k l ≡ Ok next → Leads (Due.Keyword k) next
  unfolding keyword_due keyword_line
  keyword_leads [] k l next h n e = let z : ◌≡◌ {A = ℕ} 0 1 = cc in absurd (omega arith)
  keyword_leads (e ∷ []) k l next h n q =
      still Due.Remarks refl (omega arith) (sym (drop_next k entries h)) (goes_within (has_keyword e l) (meets R e.rule (argument_on e l)) Due.Remarks next 4 0 3 0 q)
  keyword_leads (e ∷ f ∷ es) k l next h n q =
      still (Due.Keyword (k + 1)) refl (omega arith) refl (goes_within (has_keyword e l) (meets R e.rule (argument_on e l)) (Due.Keyword (k + 1)) next 4 0 3 0 q)

  remark_leads : (b : Bool) (t : Text) (next : Due) → cond b (count_rule R t) (Ok Due.Remark) ≡ Ok next → Leads Due.Remark next
  remark_leads true t next e = let q = counted_due R t next e in inr (refl, q.0, q.1)
  remark_leads false t next e = still Due.Remark refl refl refl cc

  leads : (due : Due) (l : Text) (next : Due) → early due ≡ true → step R due l ≡ Ok next → Leads due next
  unfolding step whole
  leads Due.Identifier l next h e = still (Due.Keyword 0) refl refl refl (goes_to (same l identifier) (Due.Keyword 0) next 3 0 e)
  leads (Due.Keyword k) l next h e = keyword_leads (drop k entries) k l next refl (length-drop k entries ∙ ap (λ (n : ℕ). n - k) entries_length) e
  leads Due.Remarks l next h e = still Due.Remark refl refl refl (goes_to (same l remarks_line) Due.Remark next 3 0 e)
  leads Due.Remark l next h e = remark_leads (begins count_start l) (drop (length count_start) l) next e
  leads (Due.Record n) l next h e = absurd (true≢false (sym h))
  leads Due.End l next h e = absurd (true≢false (sym h))

-- The claims are found to begin behind the last line in front of them, and stay so.
found_claims : (due : Due) (claims at : ℕ) → ahead due ≡ 1 → claims_by due claims at ≡ at
unfolding claims_by
found_claims Due.Identifier claims at e = absurd (omega arith)
found_claims (Due.Keyword k) claims at e = rw (eq-eqb k 25 (omega arith))
found_claims Due.Remarks claims at e = absurd (omega arith)
found_claims Due.Remark claims at e = absurd (omega arith)
found_claims (Due.Record n) claims at e = absurd (omega arith)
found_claims Due.End claims at e = absurd (omega arith)

kept_claims : (due : Due) (claims at : ℕ) → ahead due ≡ 0 → claims_by due claims at ≡ claims
unfolding claims_by
kept_claims Due.Identifier claims at e = absurd (omega arith)
kept_claims (Due.Keyword k) claims at e = rw (ne_eqb k 25 (λ q. omega arith))
kept_claims Due.Remarks claims at e = refl
kept_claims Due.Remark claims at e = refl
kept_claims (Due.Record n) claims at e = refl
kept_claims Due.End claims at e = refl

none_ended : length (ended []) ≡ 0
unfolding ended
none_ended = refl

-- So it is the same place by the lines from the next one on.
claims_nearer : (due next : Due) (claims at : ℕ) (l : Text) (ls : List Text) → ahead next ≡ ahead due - 1
    → claims_from (ahead next) (claims_by due claims (at + length l + 2)) (at + length l + 2) ls ≡ claims_from (ahead due) claims at (l ∷ ls)
claims_nearer due next claims at l ls e = by (ahead due) (ahead next) refl e
  where
    by : (a b : ℕ) → ahead due ≡ a → b ≡ a - 1 → claims_from b (claims_by due claims (at + length l + 2)) (at + length l + 2) ls ≡ claims_from a claims at (l ∷ ls)
    by zero zero p q = kept_claims due claims (at + length l + 2) p
    by zero (suc b) p q = absurd (omega arith)
    by (suc zero) zero p q = omega (arith, found_claims due claims (at + length l + 2) p, length_ended_more l [], none_ended)
    by (suc zero) (suc b) p q = absurd (omega arith)
    by (suc (suc a)) zero p q = absurd (omega arith)
    by (suc (suc a)) (suc b) p q =
        let n : b ≡ a = omega arith in
        rw n (omega (arith, length_ended_more l (take (suc a) ls)))

-- A line before the records brings no record, neither to the log nor to what is noted; a keyword's line brings its spelling.
module _ (R : Rules) (l : Text) (claims before end : ℕ) where
  abbrev counting : Due → ℕ
  counting due = before + cond (respelt_by due l) 1 0

  told_so : (n first : ℕ) {a b : ℕ} → a ≡ b → accepting n first (record { claims = claims; respelt = a }) ≡ accepting n first (record { claims = claims; respelt = b })
  told_so n first e = ap (λ (k : ℕ). accepting n first (record { claims = claims; respelt = k })) e

  spelling_brought : (k : ℕ) (ws : List Text) → Stands k l → before + respelt (drop k entries) (spelling_due (drop k entries) l ∷ ws) ≡ counting (Due.Keyword k) + respelt (drop (k + 1) entries) ws
  unfolding respelt spelling_due respelt_by
  spelling_brought k ws s =
      let next : suc k ≡ k + 1 = omega arith in
      let one : ◌≡◌ {A = ℕ} (cond (same (entry_at k).keyword (spelling_on (entry_at k) l)) 0 1) (cond (says_respelt (keyword_at k l)) 1 0) = sym (respelt_told k l s) in
      ap (λ (es : List Entry). before + respelt es (spelling_due es l ∷ ws)) (entry_due k s.within)
      ∙ ap (λ (x : ℕ). before + (x + respelt (drop (suc k) entries) ws)) one
      ∙ ap (λ (n : ℕ). before + (cond (says_respelt (keyword_at k l)) 1 0 + respelt (drop n entries) ws)) next
      ∙ omega arith

  put_early : (due next : Due) (r : Reading) → early due ≡ true → step R due l ≡ Ok next → told_with (left due) claims before end (put due l r) ≡ told_with (left_behind due) claims (counting due) end r
  unfolding put with_line respelt_by respelt
  put_early due next (refused r) h e = refl
  put_early Due.Identifier next (accepted log) h e = told_so (length log.records) (end - length (ended (map record_line log.records))) (omega arith)
  put_early (Due.Keyword k) next (accepted log) h e = told_so (length log.records) (end - length (ended (map record_line log.records))) (spelling_brought k log.keywords (keyword_stands R k l e))
  put_early Due.Remarks next (accepted log) h e = told_so (length log.records) (end - length (ended (map record_line log.records))) (omega arith)
  put_early Due.Remark next (accepted log) h e = told_so (length log.records) (end - length (ended (map record_line log.records))) (omega arith)
  put_early (Due.Record n) next (accepted log) h e = absurd (true≢false (sym h))
  put_early Due.End next (accepted log) h e = absurd (true≢false (sym h))

noted_early : (due : Due) (c : Contact) (cs : List Contact) → early due ≡ true → noted_line due c cs ≡ cs
unfolding noted_line
noted_early Due.Identifier c cs h = refl
noted_early (Due.Keyword k) c cs h = refl
noted_early Due.Remarks c cs h = refl
noted_early Due.Remark c cs h = refl
noted_early (Due.Record n) c cs h = absurd (true≢false (sym h))
noted_early Due.End c cs h = absurd (true≢false (sym h))

further_early : (next : Due) → early next ≡ true → counted_by next ≡ None
unfolding counted_by
further_early Due.Identifier h = refl
further_early (Due.Keyword k) h = refl
further_early Due.Remarks h = refl
further_early Due.Remark h = refl
further_early (Due.Record n) h = absurd (true≢false (sym h))
further_early Due.End h = absurd (true≢false (sym h))

counted_records : (j : ℕ) → counted_by (records_due j) ≡ Some j
unfolding counted_by records_due
counted_records zero = refl
counted_records (suc j) = refl

-- One line of the head.
module _ (R : Rules) (due : Due) (n at : ℕ) (heading : Heading) (l : Text) (ls : List Text) where
  abbrev next_place_lem : ℕ
  next_place_lem = at + length l + 2

  abbrev more : Due → Result Head Refusal
  more next = head_from R next (n + 1) next_place_lem (heading_by due l heading next_place_lem) ls

  head_law : head_from R due n at heading (l ∷ ls) ≡ head_next more n next_place_lem heading (step R due l)
  unfolding head_from
  head_law = refl

  pub head_stops : {f : Fault} → step R due l ≡ Err f → head_from R due n at heading (l ∷ ls) ≡ Err (refusal f.number n f.field)
  unfolding head_next
  head_stops e = head_law ∙ ap (head_next more n next_place_lem heading) e

  head_goes_lem : {next : Due} → step R due l ≡ Ok next → head_from R due n at heading (l ∷ ls) ≡ head_count (more next) n next_place_lem heading (counted_by next)
  unfolding head_next
  head_goes_lem e = head_law ∙ ap (head_next more n next_place_lem heading) e

  pub head_further : {next : Due} → step R due l ≡ Ok next → counted_by next ≡ None → head_from R due n at heading (l ∷ ls) ≡ more next
  unfolding head_count
  head_further {next} e c = head_goes_lem e ∙ ap (head_count (more next) n next_place_lem heading) c

  pub head_counts : {next : Due} {records : ℕ} → step R due l ≡ Ok next → counted_by next ≡ Some records → head_from R due n at heading (l ∷ ls) ≡ leading records next_place_lem heading (n + 1)
  unfolding head_count
  head_counts {next} e c = head_goes_lem e ∙ ap (head_count (more next) n next_place_lem heading) c

-- What a line makes of the heading.
module _ (due : Due) (l : Text) (heading : Heading) (at : ℕ) where
  heading_claims : (heading_by due l heading at).claims ≡ claims_by due heading.claims at
  unfolding heading_by
  heading_claims = refl

  heading_respelt : (heading_by due l heading at).respelt ≡ heading.respelt + cond (respelt_by due l) 1 0
  unfolding heading_by
  heading_respelt = refl

-- The two tellings agree, on the answer and on what is noted.
module _ (R : Rules) (s : Text) where
  record Early (due : Due) (n at : ℕ) (heading : Heading) (ls : List Text) (rest : Text) : Type 0 where
    pub answer : on_head R s (head_from R due n at heading ls) ≡ told_with (left due) (claims_from (ahead due) heading.claims at ls) heading.respelt (length s) (walk R due n ls rest)
    pub contacts : head_contacts R s (head_from R due n at heading ls) ≡ noted_from R s due at ls

  early_rest : (due : Due) (n at : ℕ) (heading : Heading) (rest : Text) → early due ≡ true → Early due n at heading [] rest
  unfolding head_from walk at_rest noted_from
  early_rest Due.Identifier n at heading rest h = record { answer = refl; contacts = refl }
  early_rest (Due.Keyword k) n at heading rest h = record { answer = refl; contacts = refl }
  early_rest Due.Remarks n at heading rest h = record { answer = refl; contacts = refl }
  early_rest Due.Remark n at heading rest h = record { answer = refl; contacts = refl }
  early_rest (Due.Record k) n at heading rest h = absurd (true≢false (sym h))
  early_rest Due.End n at heading rest h = absurd (true≢false (sym h))

  -- The records that a count line announces lie between the place behind it and the end.
  announced : (j n at : ℕ) (heading : Heading) (ls : List Text) (rest : Text) (r : Reading) → at ≤ length s → Lie R s at ls rest → walk R (records_due j) n ls rest ≡ r → late_told j at heading r ≡ told_with [] heading.claims heading.respelt (length s) r
  unfolding respelt
  announced j n at heading ls rest (refused r) h k e = refl
  announced j n at heading ls rest (accepted log) h k e =
      let q = records_are R j n ls rest log e in
      let text : drop at s ≡ ended ls ++ rest =
      (lines_are_lem R (drop at s)).text ∙ ap₂ (λ (x : List Text) (y : Text). ended x ++ y) k.whole k.left in
      let size : length s - length (ended (map record_line log.records)) ≡ at =
      omega (
        arith,
        length-drop at s,
        ap length text,
        length-append (ended ls) rest,
        ap (λ (t : Text). length t) q.no_more,
        ap (λ (ts : List Text). length (ended ts)) q.the_lines,
      ) in
      let none : heading.respelt ≡ heading.respelt + 0 = omega arith in
      ap₂ (λ (count first : ℕ). accepting count first heading) (sym q.count) (sym size)
      ∙ ap (λ (c : ℕ). accepting (length log.records) (length s - length (ended (map record_line log.records))) (record { claims = heading.claims; respelt = c })) none

  module _ (due : Due) (n at : ℕ) (heading : Heading) (l : Text) (ls : List Text) (rest : Text) (h : early due ≡ true) where
    -- The place behind the line, where the claims begin, and how many are respelt behind the line.
    abbrev there : ℕ
    there = at + length l + 2

    abbrev begin : ℕ
    begin = claims_from (ahead due) heading.claims at (l ∷ ls)

    abbrev count : Due → ℕ
    count d = heading.respelt + cond (respelt_by d l) 1 0

    stops_early : {f : Fault} → step R due l ≡ Err f → Early due n at heading (l ∷ ls) rest
    stops_early e =
        record {
          answer = ap (on_head R s) (head_stops R due n at heading l ls e) ∙ ap (told_with (left due) begin heading.respelt (length s)) (sym (walk_stops R due n l ls rest e));
          contacts = ap (head_contacts R s) (head_stops R due n at heading l ls e) ∙ sym (noted_stops R s due at l ls e);
        }

    -- What is told of the lines behind this one is told of it too.
    joins : {next : Due} → step R due l ≡ Ok next
        → on_head R s (head_from R due n at heading (l ∷ ls)) ≡ told_with (left_behind due) begin (count due) (length s) (walk R next (n + 1) ls rest)
        → head_contacts R s (head_from R due n at heading (l ∷ ls)) ≡ noted_from R s next there ls
        → Early due n at heading (l ∷ ls) rest
    joins {next} e a b =
        record {
          answer =
              a
              ∙ sym (put_early R l begin heading.respelt (length s) due next (walk R next (n + 1) ls rest) h e)
              ∙ ap (told_with (left due) begin heading.respelt (length s)) (sym (walk_goes R due n l ls rest e));
          contacts =
              b
              ∙ sym (noted_early due (contact_at R s at) (noted_from R s next there ls) h)
              ∙ sym (noted_goes R s due at l ls e);
        }

    goes_early : (next : Due) → step R due l ≡ Ok next → early next ≡ true → ahead next ≡ ahead due - 1 → left next ≡ left_behind due → Early next (n + 1) there (heading_by due l heading there) ls rest → Early due n at heading (l ∷ ls) rest
    goes_early next e g k w m =
        let after : Reading = walk R next (n + 1) ls rest in
        joins e
        (ap (on_head R s) (head_further R due n at heading l ls e (further_early next g))
        ∙ m.answer
        ∙ ap (λ (es : List Entry). told_with es (claims_from (ahead next) (heading_by due l heading there).claims there ls) (heading_by due l heading there).respelt (length s) after) w
        ∙ ap (λ (c : ℕ). told_with (left_behind due) (claims_from (ahead next) c there ls) (heading_by due l heading there).respelt (length s) after) (heading_claims due l heading there)
        ∙ ap (λ (c : ℕ). told_with (left_behind due) c (heading_by due l heading there).respelt (length s) after) (claims_nearer due next heading.claims at l ls k)
        ∙ ap (λ (c : ℕ). told_with (left_behind due) begin c (length s) after) (heading_respelt due l heading there))
        (ap (head_contacts R s) (head_further R due n at heading l ls e (further_early next g)) ∙ m.contacts)

    -- A count line changes nothing of the heading.
    remark_told : (r : Reading) → due ≡ Due.Remark → told_with [] heading.claims heading.respelt (length s) r ≡ told_with (left_behind due) begin (count due) (length s) r
    unfolding respelt_by
    remark_told r d =
        let none : heading.respelt ≡ heading.respelt + 0 = omega arith in
        ap (λ (c : ℕ). told_with [] heading.claims c (length s) r) none
        ∙ ap (λ (x : Due). told_with (left_behind x) (claims_from (ahead x) heading.claims at (l ∷ ls)) (count x) (length s) r) (sym d)

    counts_early : (j : ℕ) → due ≡ Due.Remark → step R due l ≡ Ok (records_due j) → there ≤ length s → Lie R s there ls rest → Early due n at heading (l ∷ ls) rest
    counts_early j d e w k =
        let m = late R s j there heading ls j (n + 1) there rest w k in
        joins e
        (ap (on_head R s) (head_counts R due n at heading l ls e (counted_records j))
        ∙ m.answer
        ∙ announced j (n + 1) there heading ls rest (walk R (records_due j) (n + 1) ls rest) w k refl
        ∙ remark_told (walk R (records_due j) (n + 1) ls rest) d)
        (ap (head_contacts R s) (head_counts R due n at heading l ls e (counted_records j)) ∙ m.contacts)

    early_more : (x : Result Due Fault) → step R due l ≡ x → there ≤ length s → Lie R s there ls rest → ((d : Due) (c : Heading) → early d ≡ true → Early d (n + 1) there c ls rest) → Early due n at heading (l ∷ ls) rest
    early_more (Err f) e w k m = stops_early e
    early_more (Ok next) e w k m = by (leads R due l next h e)
      where
        by : Leads due next → Early due n at heading (l ∷ ls) rest
        by (inl (g, q, b)) = goes_early next e g q b (m next (heading_by due l heading there) g)
        by (inr (d, j, q)) = counts_early j d (e ∙ ap Ok q) w k

  early_told : (ls : List Text) (due : Due) (n at : ℕ) (heading : Heading) (rest : Text) → early due ≡ true → at ≤ length s → Lie R s at ls rest → Early due n at heading ls rest
  early_told [] due n at heading rest h w k = early_rest due n at heading rest h
  early_told (l ∷ ls) due n at heading rest h w k =
      let q = first_lies R s at k in
      let next_lie : Lie R s (at + length l + 2) ls rest = record { whole = q.whole; left = q.left } in
      early_more due n at heading l ls rest h (step R due l) refl q.within next_lie
      (λ d c g. early_told ls d (n + 1) (at + length l + 2) c rest g q.within next_lie)

  -- # The log as a whole

  abbrev walked : Reading
  walked = walk R Due.Identifier 1 (lines R s).whole (lines R s).rest

  read_law : read_of R s ≡ read_told (length s) (cond (ltb R.longest_log (length s)) (refused (refusal 1 0 0)) walked)
  unfolding read_of read
  read_law = refl

  pub head_of_law : head_of R s ≡ cond (ltb R.longest_log (length s)) (Err (refusal 1 0 0)) (head_from R Due.Identifier 1 0 no_heading (lines R s).whole)
  unfolding head_of
  head_of_law = refl

  contacts_law : contacts_read R s ≡ cond (ltb R.longest_log (length s)) [] (noted_from R s Due.Identifier 0 (lines R s).whole)
  unfolding contacts_read
  contacts_law = refl

  -- The lines of an accepted log are those of the text, and so are the 27 in front of its claims.
  told_whole : (end n : ℕ) (ls : List Text) (rest : Text) (r : Reading) → walk R Due.Identifier n ls rest ≡ r → read_told end r ≡ told_with entries (0 + length (ended (take 27 ls))) 0 end r
  unfolding read_told heading_of claims_start
  told_whole end n ls rest (refused r) e = refl
  told_whole end n ls rest (accepted log) e =
      let start : length (ended (take 27 (lines_of log))) ≡ 0 + length (ended (take 27 ls)) =
      omega (arith, ap (λ (ts : List Text). length (ended (take 27 ts))) (log_is R n ls rest log e).the_lines) in
      let all : respelt entries log.keywords ≡ 0 + respelt entries log.keywords = omega arith in
      ap₂ (λ (c d : ℕ). accepting (length log.records) (end - length (ended (map record_line log.records))) (record { claims = c; respelt = d })) start all

  at_first : Early Due.Identifier 1 0 no_heading (lines R s).whole (lines R s).rest
  at_first = early_told (lines R s).whole Due.Identifier 1 0 no_heading (lines R s).rest refl (omega arith) (record { whole = refl; left = refl })

  pub read_by_head : read_of R s ≡ on_head R s (head_of R s)
  unfolding read_told no_heading
  read_by_head = read_law ∙ by (ltb R.longest_log (length s)) ∙ ap (on_head R s) (sym head_of_law)
    where
      by : (b : Bool) → read_told (length s) (cond b (refused (refusal 1 0 0)) walked) ≡ on_head R s (cond b (Err (refusal 1 0 0)) (head_from R Due.Identifier 1 0 no_heading (lines R s).whole))
      by true = refl
      by false = told_whole (length s) 1 (lines R s).whole (lines R s).rest walked refl ∙ sym at_first.answer

  pub contacts_by_head : contacts_read R s ≡ head_contacts R s (head_of R s)
  contacts_by_head = contacts_law ∙ by (ltb R.longest_log (length s)) ∙ ap (head_contacts R s) (sym head_of_law)
    where
      by : (b : Bool) → cond b [] (noted_from R s Due.Identifier 0 (lines R s).whole) ≡ head_contacts R s (cond b (Err (refusal 1 0 0)) (head_from R Due.Identifier 1 0 no_heading (lines R s).whole))
      by true = refl
      by false = sym at_first.contacts

  -- # What is noted of an accepted log

  no_answer : {A : Type 0} {r : Refusal} {k first : ℕ} {heading : Heading} → Err r ≡ accepting k first heading → A
  no_answer e = let z : ◌≡◌ {A = ℕ} 0 1 = cc in absurd (omega arith)

  -- Where so many records are accepted, those that are noted are those that lie there.
  module _ (records first : ℕ) (heading : Heading) {k f : ℕ} {c : Heading} where
    accepted_told : (j n at : ℕ) → records_told R s records first heading j n at ≡ accepting k f c → (records ≡ k) × (first ≡ f) × (contacts_from R s j at ≡ contacts_at R s at j)
    unfolding records_told contacts_from contacts_at
    accepted_told zero n at e = by (ltb at (length s)) e
      where
        by : (b : Bool) → cond b (Err (refusal 6 n 0)) (accepting records first heading) ≡ accepting k f c → (records ≡ k) × (first ≡ f) × (◌≡◌ {A = List Contact} [] [])
        by true g = no_answer g
        by false g =
            let same : ◌≡◌ {A = Accepted} (record { records = records; first = first; heading = heading }) (record { records = k; first = f; heading = c }) = cc in
            (ap (λ (a : Accepted). a.records) same, ap (λ (a : Accepted). a.first) same, refl)
    accepted_told (suc j) n at e = by (record_at R s at) refl (λ i g. accepted_told j (n + 1) i g)
      where
        by : (r : Result Contact Fault) → record_at R s at ≡ r → ((i : ℕ) → records_told R s records first heading j (n + 1) i ≡ accepting k f c → (records ≡ k) × (first ≡ f) × (contacts_from R s j i ≡ contacts_at R s i j)) → (records ≡ k) × (first ≡ f) × (contacts_from R s (suc j) at ≡ contacts_at R s at (suc j))
        by (Ok d) g more =
            let q = more (behind d) (sym (next_kept R s records first heading j n at g) ∙ e) in
            let is : d ≡ contact_at R s at = (took R s at g).told in
            (q.0, q.1, noted_kept R s records first heading j at g ∙ ap (λ (cs : List Contact). d ∷ cs) q.2 ∙ ap (λ (x : Contact). x ∷ contacts_at R s (behind x) j) is)
        by (Err f) g more = no_answer (sym (next_stops R s records first heading j n at g) ∙ e)

  pub contacts_accepted : (log : Log) → read R s ≡ accepted log → contacts_read R s ≡ contacts_at R s (records_start s log) (length log.records)
  unfolding read_of read_told
  contacts_accepted log w = by (head_of R s) refl
    where
      answer : on_head R s (head_of R s) ≡ accepting (length log.records) (records_start s log) (heading_of log)
      answer = sym read_by_head ∙ ap (read_told (length s)) w

      by : (h : Result Head Refusal) → head_of R s ≡ h → contacts_read R s ≡ contacts_at R s (records_start s log) (length log.records)
      by (Err r) e = no_answer (sym (ap (on_head R s) e) ∙ answer)
      by (Ok h) e =
          let q = accepted_told h.records h.first h.heading h.records h.line h.first (sym (ap (on_head R s) e) ∙ answer) in
          contacts_by_head ∙ ap (head_contacts R s) e ∙ q.2 ∙ ap₂ (λ (i j : ℕ). contacts_at R s i j) q.1 q.0
