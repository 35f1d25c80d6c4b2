-- Laws of the lent lists: one place more is stored, and in the end each list holds a place of every record.
-- Assumes nothing.
use Prim.Native.Nat.{ℕ, zero, suc, ◌+◌, ◌-◌, ◌≤◌, ◌<◌}
use native.Mathlib.Omega.{arith}
use native.Mathlib.Numerals.{add-one}
use mathlib.Core.Path.{◌≡◌, refl, sym, ap, ap₂, ◌∙◌}
use mathlib.Core.List.{List, [], ◌∷◌}
use lib.ListN.{length, length-set, set}
use borrow.Author.Tests.{le-ltb, lt-ltb}
use Rattle.std.specs.Prelude.{Ok, Err, Result}
use Rattle.rules.specs.declared.Fault.{Fault}
use Rattle.rules.specs.declared.Refusal.{Refusal}
use Rattle.rules.specs.Text.{Text}
use Rattle.rules.specs.Rules.{Rules}
use Rattle.rules.specs.Answers.{over}
use Rattle.rules.specs.Reading.{refusal}
use Rattle.reader.specs.declared.Contact.{Contact}
use Rattle.reader.specs.declared.Heading.{Heading}
use Rattle.reader.specs.declared.Head.{Head}
use Rattle.reader.specs.declared.Accepted.{Accepted}
use Rattle.reader.specs.Contact.{behind, contact_at, field_start, last_end}
use Rattle.reader.specs.Record.{record_at}
use Rattle.reader.specs.Read.{no_heading, head_of, read_of, records_told}
use Rattle.reader.specs.Noted.{contacts_from, contacts_read, listed}
use Rattle.reader.proofs.ParseLaws.{took}
use Rattle.reader.proofs.PlaceLaws.{last_behind, start_more, start_next, starts_rise}
use Rattle.reader.proofs.ReadLaws.{accepting, behind_line, end_told, next_kept, next_stops, noted_ends, noted_kept}
use Rattle.reader.proofs.WholeLaws.{contacts_by_head, head_contacts, on_head, read_by_head}

-- What a list holds once the places of these records are noted from a number on.
unfoldable pub listed_from : ℕ → (Contact → ℕ) → List Contact → List ℕ → List ℕ
listed_from zero place cs slice = listed place cs slice
listed_from (suc i) place cs [] = []
listed_from (suc i) place cs (x ∷ slice) = x ∷ listed_from i place cs slice

module _ (place : Contact → ℕ) where
  pub listed_first : (cs : List Contact) (slice : List ℕ) → listed place cs slice ≡ listed_from 0 place cs slice
  unfolding listed_from
  listed_first cs slice = refl

  pub listed_more : (i : ℕ) (c : Contact) (cs : List Contact) (slice : List ℕ) → listed_from i place (c ∷ cs) slice ≡ listed_from (suc i) place cs (set slice i (place c))
  unfolding listed_from over
  listed_more zero c cs [] = refl
  listed_more zero c cs (x ∷ slice) = refl
  listed_more (suc i) c cs [] = refl
  listed_more (suc i) c cs (x ∷ slice) = ap (λ (r : List ℕ). x ∷ r) (listed_more i c cs slice)

  pub listed_none : (i : ℕ) (slice : List ℕ) → listed_from i place [] slice ≡ slice
  unfolding listed_from over
  listed_none zero [] = refl
  listed_none zero (x ∷ slice) = refl
  listed_none (suc i) [] = refl
  listed_none (suc i) (x ∷ slice) = ap (λ (r : List ℕ). x ∷ r) (listed_none i slice)

-- # The places of a record that is taken

-- They lie within the log.
pub record Placed (s : Text) (at : ℕ) (c : Contact) : Type 0 where
  pub call : c.call ≤ c.end
  pub exchange : c.exchange ≤ c.end
  pub points : c.points ≤ c.end
  pub pointsend : c.pointsend ≤ c.end
  pub end : at ≤ c.end
  pub within : c.end + 2 ≤ length s

module _ (R : Rules) (s : Text) (at : ℕ) where
  starts_grow : (j k : ℕ) → field_start s at j ≤ field_start s at (j + k)
  starts_grow j k = omega (arith, starts_rise s (field_start s at j) k, start_more s at j k)

  pub placed : {c : Contact} → record_at R s at ≡ Ok c → Placed s at c
  unfolding contact_at
  placed {c} e =
      let t = took R s at e in
      let is : c ≡ contact_at R s at = t.told in
      let end_is : c.end ≡ last_end s (field_start s at 14) = ap (λ (d : Contact). d.end) is in
      let last : field_start s at 14 ≤ c.end = omega (arith, last_behind s (field_start s at 14)) in
      record {
        call = omega (arith, ap (λ (d : Contact). d.call) is, starts_grow 2 12);
        exchange = omega (arith, ap (λ (d : Contact). d.exchange) is, starts_grow 8 6);
        points = omega (arith, ap (λ (d : Contact). d.points) is, starts_grow 10 4);
        pointsend = omega (arith, ap (λ (d : Contact). d.pointsend) is, start_next s at 10, starts_grow 11 3);
        end = omega (arith, t.end);
        within = omega (arith, t.end, (behind_line R s at t.line t.rest t.first).1);
      }

-- # The loop over the records

module _ (R : Rules) (s : Text) (records first : ℕ) (heading : Heading) where
  -- What is told of all is told of those that are left.
  pub record Surveys (before at line i : ℕ) : Type 0 where
    pub short : length s ≤ R.longest_log
    pub within : at ≤ length s
    pub number : line ≤ at + 1
    pub few : i ≤ records
    pub slow : i ≤ at
    pub answer : records_told R s records first heading records before first ≡ records_told R s records first heading (records - i) line at

  pub surveys_first : {before : ℕ} → before ≤ first + 1 → first ≤ length s → length s ≤ R.longest_log → Surveys before first before 0
  surveys_first {before} h g k =
      let all_left : records ≡ records - 0 = omega arith in
      record {
        short = k;
        within = g;
        number = h;
        few = omega arith;
        slow = omega arith;
        answer = ap (λ (j : ℕ). records_told R s records first heading j before first) all_left;
      }

  module _ {before at line i : ℕ} (w : Surveys before at line i) where
    one_left : i < records → records - i ≡ suc (records - (i + 1))
    one_left h = omega arith

    module _ (h : i < records) where
      told_next : records_told R s records first heading records before first ≡ records_told R s records first heading (suc (records - (i + 1))) line at
      told_next = w.answer ∙ ap (λ (j : ℕ). records_told R s records first heading j line at) (one_left h)

      pub surveys_next : {c : Contact} → record_at R s at ≡ Ok c → Surveys before (behind c) (line + 1) (i + 1)
      surveys_next {c} e =
          let p = placed R s at e in
          record {
            short = w.short;
            within = p.within;
            number = omega (arith, w.number, p.end);
            few = omega arith;
            slow = omega (arith, w.slow, p.end);
            answer = told_next ∙ next_kept R s records first heading (records - (i + 1)) line at e;
          }

      pub surveys_stop : {f : Fault} → record_at R s at ≡ Err f → Err (refusal f.number line f.field) ≡ records_told R s records first heading records before first
      surveys_stop e = sym (told_next ∙ next_stops R s records first heading (records - (i + 1)) line at e)

    -- No record is left.
    module _ (h : records ≤ i) where
      told_last : records_told R s records first heading records before first ≡ records_told R s records first heading 0 line at
      told_last = let none : records - i ≡ 0 = omega arith in w.answer ∙ ap (λ (j : ℕ). records_told R s records first heading j line at) none

      pub surveys_more : at < length s → Err (refusal 6 line 0) ≡ records_told R s records first heading records before first
      surveys_more g = sym (told_last ∙ end_told R s records first heading line at (lt-ltb at (length s) g))

      pub surveys_end : length s ≤ at → accepting records first heading ≡ records_told R s records first heading records before first
      surveys_end g = sym (told_last ∙ end_told R s records first heading line at (le-ltb at (length s) g))

-- One of the lists: it is as long as it was, and once the records that are left are noted it holds what it shall.
module _ (R : Rules) (s : Text) (records first : ℕ) (place : Contact → ℕ) (slice : List ℕ) where
  pub record Fills (at i : ℕ) (now : List ℕ) : Type 0 where
    pub long : length now ≡ length slice
    pub list : listed place (contacts_from R s records first) slice ≡ listed_from i place (contacts_from R s (records - i) at) now

  pub fills_first : Fills first 0 slice
  fills_first =
      let all_left : records ≡ records - 0 = omega arith in
      record {
        long = refl;
        list =
            listed_first place (contacts_from R s records first) slice
            ∙ ap (λ (j : ℕ). listed_from 0 place (contacts_from R s j first) slice) all_left;
      }

  module _ {at i : ℕ} {now : List ℕ} (w : Fills at i now) where
    left_next : i < records → listed place (contacts_from R s records first) slice ≡ listed_from i place (contacts_from R s (suc (records - (i + 1))) at) now
    left_next h =
        let k : records - i ≡ suc (records - (i + 1)) = omega arith in
        w.list ∙ ap (λ (j : ℕ). listed_from i place (contacts_from R s j at) now) k

    pub fills_next : i < records → {c : Contact} {then : List ℕ} → record_at R s at ≡ Ok c → then ≡ set now i (place c) → Fills (behind c) (i + 1) then
    fills_next h {c} {then} e q =
        let rest : List Contact = contacts_from R s (records - (i + 1)) (behind c) in
        record {
          long = ap length q ∙ length-set now i (place c) ∙ w.long;
          list =
              left_next h
              ∙ ap (λ (cs : List Contact). listed_from i place cs now) (noted_kept R s records first no_heading (records - (i + 1)) at e)
              ∙ listed_more place i c rest now
              ∙ ap₂ (λ (j : ℕ) (t : List ℕ). listed_from j place rest t) (sym (add-one i)) (sym q);
        }

    pub fills_stop : i < records → {f : Fault} → record_at R s at ≡ Err f → now ≡ listed place (contacts_from R s records first) slice
    fills_stop h e =
        sym
        (left_next h
        ∙ ap (λ (cs : List Contact). listed_from i place cs now) (noted_ends R s records first no_heading (records - (i + 1)) at e)
        ∙ listed_none place i now)

    pub fills_end : records ≤ i → now ≡ listed place (contacts_from R s records first) slice
    unfolding contacts_from
    fills_end h =
        let none : records - i ≡ 0 = omega arith in
        sym
        (w.list
        ∙ ap (λ (j : ℕ). listed_from i place (contacts_from R s j at) now) none
        ∙ listed_none place i now)

-- # The log as a whole

module _ (R : Rules) (s : Text) where
  -- A head that is refused: nothing is noted.
  module _ {r : Refusal} (e : head_of R s ≡ Err r) where
    pub refused_read : Err r ≡ read_of R s
    refused_read = sym (read_by_head R s ∙ ap (on_head R s) e)

    pub refused_listed : (place : Contact → ℕ) (slice : List ℕ) → slice ≡ listed place (contacts_read R s) slice
    refused_listed place slice =
        sym (ap (λ (cs : List Contact). listed place cs slice) (contacts_by_head R s ∙ ap (head_contacts R s) e) ∙ listed_first place [] slice ∙ listed_none place 0 slice)

  -- A head that leads to the records: what is told and noted of them is told and noted of the log.
  module _ {h : Head} (e : head_of R s ≡ Ok h) where
    pub records_read : {a : Result Accepted Refusal} → a ≡ records_told R s h.records h.first h.heading h.records h.line h.first → a ≡ read_of R s
    records_read q = q ∙ sym (read_by_head R s ∙ ap (on_head R s) e)

    pub records_listed : (place : Contact → ℕ) (slice : List ℕ) {now : List ℕ} → now ≡ listed place (contacts_from R s h.records h.first) slice → now ≡ listed place (contacts_read R s) slice
    records_listed place slice q = q ∙ sym (ap (λ (cs : List Contact). listed place cs slice) (contacts_by_head R s ∙ ap (head_contacts R s) e))
