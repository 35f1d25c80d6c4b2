-- What the judge tells of an accepted log is what writing asks for, and where it refuses, the refusal is the reader's.
-- Assumes nothing.
use Prim.Native.Nat.{ℕ, ◌≤◌}
use native.Mathlib.Omega.{arith}
use mathlib.Core.List.{List, map}
use mathlib.Core.Path.{◌≡◌, refl, sym, ap, ◌∙◌}
use lib.ListN.{length, take, drop, length-take, length-map}
use lib.Seq.{take_at, take_all}
use borrow.Author.Tests.{leb-true, le-ltb}
use Rattle.judge.specs.Judge.{first_of, heading_in, weighed_by, weighed_of, verdicts_afterwards}
use Rattle.judge.specs.declared.Weighed.{Weighed}
use Rattle.judge.proofs.JudgeLaws.{not_weighed}
use Rattle.std.specs.Prelude.{Result, Ok, Err}
use Rattle.reader.proofs.RecordsHeld.{records_start}
use Rattle.reader.specs.Contact.{contacts_at}
use Rattle.reader.specs.Noted.{contacts_read, listed}
use Rattle.reader.specs.declared.Contact.{Contact}
use Rattle.rules.specs.Answers.{judged, judge, judge_reading, judge_log, numbers_of_judgement, records_of_reading, write, write_reading, bytes_of_writing, over}
use Rattle.rules.specs.Judging.{verdict_number, verdicts_of_log, totals_of_log}
use Rattle.rules.specs.Log.{Log}
use Rattle.rules.specs.Reading.{Reading, accepted, refused, read}
use Rattle.rules.specs.Rules.{Rules}
use Rattle.rules.specs.Text.{Text}
use Rattle.rules.specs.declared.Refusal.{Refusal}
use Rattle.writer.specs.Given.{Writable}
use Rattle.writer.specs.LogText.{wrote_by, wrote_of, written_afterwards}
use Rattle.writer.proofs.ClaimsWritten.{rightly}
use Rattle.writer.proofs.RecordsWritten.{length_contacts}
use Rattle.writer.proofs.WriteLaws.{as_many_lem}

-- What is laid over a list is its front.
front_over : (new slice : List ℕ) (n : ℕ) → n ≡ length new → take n (over new slice) ≡ new
unfolding over
front_over new slice n e = take_at new (drop (length new) slice) n (sym e)

-- So are the places that are noted in a list with room for all.
pub front_listed : (place : Contact → ℕ) (cs : List Contact) (slice : List ℕ) → length cs ≤ length slice → take (length cs) (listed place cs slice) ≡ map place cs
front_listed place cs slice h =
    let m : length (map place cs) ≡ length cs = length-map cs place in
    ap (λ (l : List ℕ). take (length cs) (over l slice)) (take_all (length slice) (map place cs) (omega arith))
    ∙ front_over (map place cs) slice (length cs) (sym m)

-- With room for the verdicts of as many records as a log may have, a log is refused by the judge only where it is refused by the reader.
module _ (R : Rules) (s : Text) where
  abbrev room : ℕ
  room = R.most_records

  few : (log : Log) → read R s ≡ accepted log → length log.records ≤ room
  few log e = leb-true (length log.records) room (rightly R s log e).fits

  judged_by_lem : (log : Log) → read R s ≡ accepted log → judge R room s ≡ judged (totals_of_log R log) (map verdict_number (verdicts_of_log R log))
  unfolding judge judge_reading judge_log
  judged_by_lem log e = rw (e, le-ltb room (length log.records) (few log e))

  -- What an accepted log is weighed to.
  abbrev weighed : Log → Weighed
  weighed log =
      record {
        totals = totals_of_log R log;
        records = length log.records;
        first = first_of s (accepted log);
        heading = heading_in (accepted log);
      }

  weighed_by_lem : (log : Log) → read R s ≡ accepted log → weighed_of R room s ≡ Ok (weighed log)
  unfolding weighed_of weighed_by records_of_reading
  weighed_by_lem log e = rw (judged_by_lem log e, e)

  refused_by_lem : (r : Refusal) → read R s ≡ refused r → weighed_of R room s ≡ Err r
  unfolding weighed_of weighed_by judge judge_reading
  refused_by_lem r e = rw e

  -- The records that were noted while the log was read are its records.
  abbrev pub Noted : Type 0
  Noted = (log : Log) → read R s ≡ accepted log → contacts_read R s ≡ contacts_at R s (records_start s log) (length log.records)

  -- What is told of a log.
  module _ {w : Weighed} (h : weighed_of R room s ≡ Ok w) where
    log_read : (log : Log) × (read R s ≡ accepted log)
    log_read = by (read R s) refl
      where
        by : (x : Reading) → read R s ≡ x → (log : Log) × (read R s ≡ accepted log)
        by (accepted log) e = (log, e)
        by (refused r) e = absurd (not_weighed {r = r} (sym (refused_by_lem r e) ∙ h))

    abbrev log : Log
    log = log_read.0

    abbrev known : ◌≡◌ {A = Result Weighed Refusal} (Ok w) (Ok (weighed log))
    known = sym h ∙ weighed_by_lem log log_read.1

    known_is : w ≡ weighed log
    known_is = let e = known in cc

    many : w.records ≡ length log.records
    many = ap (λ (w : Weighed). w.records) known_is

    first_is : w.first ≡ records_start s log
    unfolding first_of
    first_is = ap (λ (w : Weighed). w.first) known_is

    heading_is : w.heading ≡ heading_in (accepted log)
    heading_is = ap (λ (w : Weighed). w.heading) known_is

    totals_are_lem : w.totals ≡ totals_of_log R log
    totals_are_lem = ap (λ (w : Weighed). w.totals) known_is

    -- The verdicts stand in front of their list, and the places of the records in front of theirs.
    numbers_are : (slice : List ℕ) {numbers : List ℕ} → length slice ≡ room → numbers ≡ verdicts_afterwards R s slice → take w.records numbers ≡ map verdict_number (verdicts_of_log R log)
    unfolding numbers_of_judgement
    numbers_are slice l e =
        let new : List ℕ = map verdict_number (verdicts_of_log R log) in
        let told : numbers_of_judgement (judge R (length slice) s) ≡ new = ap (λ (m : ℕ). numbers_of_judgement (judge R m s)) l ∙ ap numbers_of_judgement (judged_by_lem log log_read.1) in
        ap (take w.records) (e ∙ ap (λ (x : List ℕ). over x slice) told)
        ∙ front_over new slice w.records (many ∙ sym (as_many_lem R log))

    pub many_numbers : (slice : List ℕ) {numbers : List ℕ} → length slice ≡ room → numbers ≡ verdicts_afterwards R s slice → w.records ≤ length numbers
    many_numbers slice {numbers} l e = omega (arith, ap length (numbers_are slice l e), length-take w.records numbers, many, as_many_lem R log)

    module _ (noted : Noted) where
      places_are : (place : Contact → ℕ) (slice : List ℕ) {list : List ℕ} → length slice ≡ room → list ≡ listed place (contacts_read R s) slice
          → take w.records list ≡ map place (contacts_at R s w.first (length log.records))
      places_are place slice l e =
          let cs = contacts_at R s (records_start s log) (length log.records) in
          let c : length cs ≡ length log.records = length_contacts R s (records_start s log) (length log.records) in
          ap (take w.records) (e ∙ ap (λ (x : List Contact). listed place x slice) (noted log log_read.1))
          ∙ ap (λ (k : ℕ). take k (listed place cs slice)) (many ∙ sym c)
          ∙ front_listed place cs slice (omega (arith, few log log_read.1))
          ∙ ap (λ (k : ℕ). map place (contacts_at R s k (length log.records))) (sym first_is)

      pub many_places_lem : (place : Contact → ℕ) (slice : List ℕ) {list : List ℕ} → length slice ≡ room → list ≡ listed place (contacts_read R s) slice → w.records ≤ length list
      many_places_lem place slice {list} l e =
          let cs = contacts_at R s w.first (length log.records) in
          omega (arith, ap length (places_are place slice l e), length-take w.records list, length-map cs place, length_contacts R s w.first (length log.records), many)

      pub writable : (slice slice₁ slice₂ slice₃ : List ℕ) {numbers points pointsends ends : List ℕ} →
          length slice ≡ room →
          length slice₁ ≡ room →
          length slice₂ ≡ room →
          length slice₃ ≡ room →
          numbers ≡ verdicts_afterwards R s slice →
          points ≡ listed (λ (c : Contact). c.points) (contacts_read R s) slice₁ →
          pointsends ≡ listed (λ (c : Contact). c.pointsend) (contacts_read R s) slice₂ →
          ends ≡ listed (λ (c : Contact). c.end) (contacts_read R s) slice₃ →
          Writable R s w.totals w.first w.heading (take w.records points) (take w.records pointsends) (take w.records ends) (take w.records numbers)
      unfolding heading_in
      writable slice slice₁ slice₂ slice₃ l l₁ l₂ l₃ v p q r =
          record {
            log = log;
            is_read = log_read.1;
            totals = totals_are_lem;
            place = first_is;
            headed = heading_is;
            points_begin = places_are (λ (c : Contact). c.points) slice₁ l₁ p;
            points_end = places_are (λ (c : Contact). c.pointsend) slice₂ l₂ q;
            records_end = places_are (λ (c : Contact). c.end) slice₃ l₃ r;
            verdicts = numbers_are slice l v;
          }

  -- The refusal is the reader's.
  module _ {r : Refusal} (h : weighed_of R room s ≡ Err r) where
    unread : read R s ≡ refused r
    unread = by (read R s) refl
      where
        by : (x : Reading) → read R s ≡ x → read R s ≡ refused r
        by (accepted log) e = absurd (not_weighed {r = r} (sym h ∙ weighed_by_lem log e))
        by (refused q) e = let k : ◌≡◌ {A = Result Weighed Refusal} (Err q) (Err r) = sym (refused_by_lem q e) ∙ h in let i : q ≡ r = cc in e ∙ ap refused i

    pub unread_answer : (slice : List ℕ) → Err r ≡ wrote_of R (length slice) s
    unfolding wrote_of wrote_by write write_reading
    unread_answer slice = rw unread

    pub unread_slice : (slice : List ℕ) → slice ≡ written_afterwards R s slice
    unfolding write write_reading bytes_of_writing over
    unread_slice slice = rw unread
