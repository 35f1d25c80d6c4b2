-- From what was read to what is answered: the text that is put together by places is what is left of the log, and where it does not fit nothing is
-- written.
-- Assumes nothing.
use Prim.Native.Nat.{ℕ, ◌+◌, ◌≤◌, ◌<◌}
use native.Mathlib.Omega.{arith}
use mathlib.Core.Bool.{false}
use mathlib.Core.List.{List, ◌++◌}
use mathlib.Core.Path.{◌≡◌, refl, sym, ap, subst, ◌∙◌}
use lib.Dec.{ltb}
use lib.ListN.{length, take, length-append, length-map, length-take}
use lib.Seq.{length-take-le}
use borrow.Author.Tests.{leb-true, le-leb, lt-leb, le-ltb, lt-ltb}
use Rattle.reader.proofs.RecordsHeld.{records_start}
use Rattle.reader.specs.Contact.{contacts_at}
use Rattle.reader.specs.Noted.{contacts_read, listed}
use Rattle.reader.specs.Read.{read_told, read_of}
use Rattle.reader.specs.declared.Contact.{Contact}
use Rattle.std.specs.Prelude.{Result, Ok, Err}
use Rattle.reader.specs.Read.{heading_of}
use Rattle.reader.specs.declared.Accepted.{Accepted}
use Rattle.rules.proofs.Format.{accepted_when_written}
use Rattle.rules.proofs.StrikingGiven.{strike_accepted, strike_refused}
use Rattle.rules.specs.Answers.{written, unwritten, bytes_of_writing, over}
use Rattle.rules.specs.Log.{Log, count_line, crlf, render}
use Rattle.rules.specs.Reading.{Reading, accepted, refused, refusal, read}
use Rattle.rules.specs.Rules.{Rules}
use Rattle.rules.specs.Striking.{strike, marked, place_after, strike_log, strike_out}
use Rattle.rules.specs.Text.{Text}
use Rattle.rules.specs.declared.Refusal.{Refusal}
use Rattle.writer.proofs.ClaimsWritten.{rightly}
use Rattle.writer.proofs.RecordsWritten.{ends_of, length_contacts}
use Rattle.writer.proofs.WeighedLaws.{front_listed}
use Rattle.writer.proofs.WrittenLaws.{front_end, front_laid}
use Rattle.writer.specs.LogText.{wrote_by}
use Rattle.writer.specs.Written.{Puts}
use Rattle.std.specs.Prelude.{Ok, Err}
use Rattle.striker.specs.Given.{LinesLie, Strikable}
use Rattle.striker.specs.KeptText.{kept_lines, head_text}
use Rattle.striker.proofs.KeptLaws as Kept

-- How long the text in front of the records is, with this line for its count line.
pub head_length : (s : Text) (front : ℕ) (line : Text) → front ≤ length s → length (head_text s front line) ≡ front + (length line + 2)
unfolding head_text crlf
head_length s front line h =
    omega (arith, length-append (take front s ++ line) crlf, length-append (take front s) line, length-take-le front s h)

-- # A log that was read

module _ {R : Rules} {s : Text} {first : ℕ} {ends : List ℕ} (w : Strikable R s first ends) where
  abbrev pub log : Log
  log = w.log

  ends_are : ends ≡ Kept.ends R s log w.is_read
  ends_are = w.records_end ∙ ap (λ (n : ℕ). ends_of (contacts_at R s n (length log.records))) w.place

  pub many : length ends ≡ length log.records
  many = ap length ends_are ∙ Kept.ends_many R s log w.is_read

  pub in_order : LinesLie s first ends
  in_order =
      subst (λ (n : ℕ). LinesLie s n ends) (sym w.place)
      (subst (λ (l : List ℕ). LinesLie s (records_start s log) l) (sym ends_are) (Kept.lines_lie R s log w.is_read))

  pub short : length s ≤ R.longest_log
  short = omega (arith, (rightly R s log w.is_read).short, ap length ((accepted_when_written R s log).0 w.is_read).1)

  pub few : length ends ≤ R.most_records
  few = omega (arith, many, leb-true (length log.records) R.most_records (rightly R s log w.is_read).fits)

  -- The count line of the log stands in front of the first record.
  pub count_fits : length (count_line (length ends)) + 2 ≤ first
  count_fits =
      omega (arith, ap (λ (n : ℕ). length (count_line n)) many, w.place, Kept.count_fits R s log w.is_read)

  -- # The result

  module _ (marks : List ℕ) where
    abbrev pub result : Text
    result = render (strike (marked marks) log)

    -- The text that is put together, with a place in front of the count line that was found.
    abbrev pub head_of : ℕ → Text
    head_of front = head_text s front (count_line (place_after (marked marks) (length ends)))

    abbrev pub body_of : Text
    body_of = kept_lines s first ends (marked marks)

    module _ (front : ℕ) (e : front + (length (count_line (length ends)) + 2) ≡ first) where
      found : front ≡ Kept.count_at R s log w.is_read
      found = omega (arith, e, ap (λ (n : ℕ). length (count_line n)) many, w.place)

      together : head_of front ++ body_of ≡ result
      together =
          (λ i. head_text s (found i) (count_line (place_after (marked marks) (length (ends_are i)))) ++ kept_lines s (w.place i) (ends_are i) (marked marks))
          ∙ Kept.struck_is R s log w.is_read (marked marks)

      pub inside : front ≤ length s
      inside = omega (arith, e, in_order.within)

      -- As the code has measured it.
      module _ {records n bytes : ℕ} (p : records ≡ place_after (marked marks) (length ends)) (q : n ≡ length (count_line records)) (r : bytes ≡ length body_of) where
        pub sized : front + (n + 2) + bytes ≡ length result
        sized =
            let line = count_line (place_after (marked marks) (length ends)) in
            omega (arith, r, q, ap (λ (m : ℕ). length (count_line m)) p, head_length s front line inside, length-append (head_of front) body_of, ap length together)

      -- As the code has put it together.
      module _ {records : ℕ} {line : Text} (p : records ≡ place_after (marked marks) (length ends)) (q : line ≡ count_line records) where
        pub put_together : head_text s front line ++ body_of ≡ result
        put_together = ap (λ (l : Text). head_text s front l ++ body_of) (q ∙ ap count_line p) ∙ together

    -- # The answers

    answer_is : (room : ℕ) → strike_out R room marks s ≡ strike_log room marks log
    answer_is room = strike_accepted R room marks s log ((accepted_when_written R s log).0 w.is_read)

    seven : (room : ℕ) → length marks < length ends → strike_out R room marks s ≡ unwritten (refusal 7 0 0)
    unfolding strike_log
    seven room h =
        let n : length marks < length log.records = omega (arith, h, many) in
        answer_is room ∙ rw (lt-ltb (length marks) (length log.records) n)

    module _ (room : ℕ) (h : length ends ≤ length marks) where
      counted : ltb (length marks) (length log.records) ≡ false
      counted = le-ltb (length marks) (length log.records) (omega (arith, h, many))

      eight : room < length result → strike_out R room marks s ≡ unwritten (refusal 8 0 0)
      unfolding strike_log
      eight g = answer_is room ∙ rw (counted, lt-leb (length result) room g)

      handed : length result ≤ room → strike_out R room marks s ≡ written result
      unfolding strike_log
      handed g = answer_is room ∙ rw (counted, le-leb (length result) room g)

    -- A refusal is told, and leaves the slice as it was.
    module _ (slice : List ℕ) {r : Refusal} (e : strike_out R (length slice) marks s ≡ unwritten r) where
      refused_both : (Err r ≡ wrote_by (strike_out R (length slice) marks s)) × (slice ≡ over (bytes_of_writing (strike_out R (length slice) marks s)) slice)
      unfolding wrote_by bytes_of_writing over
      refused_both = (rw e, rw e)

    pub few_told : (slice : List ℕ) → length marks < length ends → (Err (refusal 7 0 0) ≡ wrote_by (strike_out R (length slice) marks s)) × (slice ≡ over (bytes_of_writing (strike_out R (length slice) marks s)) slice)
    few_told slice h = refused_both slice (seven (length slice) h)

    pub long_told : (slice : List ℕ) → length ends ≤ length marks → length slice < length result → (Err (refusal 8 0 0) ≡ wrote_by (strike_out R (length slice) marks s)) × (slice ≡ over (bytes_of_writing (strike_out R (length slice) marks s)) slice)
    long_told slice h g = refused_both slice (eight (length slice) h g)

    -- What was put together is the answer.
    pub all_told : {slice slice' : List ℕ} {end : ℕ} → length ends ≤ length marks → Puts slice 0 result slice' end → (Ok end ≡ wrote_by (strike_out R (length slice) marks s)) × (slice' ≡ over (bytes_of_writing (strike_out R (length slice) marks s)) slice)
    unfolding wrote_by bytes_of_writing
    all_told {slice} h p =
        let e = handed (length slice) h (omega (arith, p.fits)) in
        (rw e (ap Ok (front_end p)), rw e (front_laid p))

-- # What reading tells

not_read : {a : Accepted} {r : Refusal} → Err r ≡ Ok a → ⊥
not_read e = let z : ◌≡◌ {A = ℕ} 0 1 = cc in omega arith

module _ (R : Rules) (s : Text) where
  read_accepted : (log : Log) → read R s ≡ accepted log → read_of R s ≡ read_told (length s) (accepted log)
  unfolding read_of
  read_accepted log e = ap (read_told (length s)) e

  read_refused : (r : Refusal) → read R s ≡ refused r → read_of R s ≡ Err r
  unfolding read_of read_told
  read_refused r e = rw e

  -- The records that were noted while the log was read are its records.
  abbrev pub Noted : Type 0
  Noted = (log : Log) → read R s ≡ accepted log → contacts_read R s ≡ contacts_at R s (records_start s log) (length log.records)

  module _ {a : Accepted} (h : read_of R s ≡ Ok a) (noted : Noted) where
    log_read : (log : Log) × (read R s ≡ accepted log)
    log_read = by (read R s) refl
      where
        by : (x : Reading) → read R s ≡ x → (log : Log) × (read R s ≡ accepted log)
        by (accepted log) e = (log, e)
        by (refused r) e = absurd (not_read {r = r} (sym (read_refused r e) ∙ h))

    abbrev read_log : Log
    read_log = log_read.0

    told_is : a ≡ record { records = length read_log.records; first = records_start s read_log; heading = heading_of read_log }
    unfolding read_told
    told_is = let e = sym h ∙ read_accepted read_log log_read.1 in cc

    counted_is : a.records ≡ length read_log.records
    counted_is = ap (λ (x : Accepted). x.records) told_is

    first_is : a.first ≡ records_start s read_log
    first_is = ap (λ (x : Accepted). x.first) told_is

    module _ (slice : List ℕ) {ends : List ℕ} (l : length slice ≡ R.most_records) (e : ends ≡ listed (λ (c : Contact). c.end) (contacts_read R s) slice) where
      abbrev cs : List Contact
      cs = contacts_at R s (records_start s read_log) (length read_log.records)

      cs_many : length cs ≡ length read_log.records
      cs_many = length_contacts R s (records_start s read_log) (length read_log.records)

      noted_ends : take a.records ends ≡ ends_of cs
      noted_ends =
          let room = leb-true (length read_log.records) R.most_records (rightly R s read_log log_read.1).fits in
          ap (take a.records) (e ∙ ap (λ (x : List Contact). listed (λ (c : Contact). c.end) x slice) (noted read_log log_read.1))
          ∙ ap (λ (k : ℕ). take k (listed (λ (c : Contact). c.end) cs slice)) (counted_is ∙ sym cs_many)
          ∙ front_listed (λ (c : Contact). c.end) cs slice (omega (arith, cs_many, l, room))

      pub many_noted : a.records ≤ length ends
      many_noted =
          omega (arith, ap length noted_ends, length-take a.records ends, length-map cs (λ (c : Contact). c.end), cs_many, counted_is)

      pub strikable : Strikable R s a.first (take a.records ends)
      strikable =
          record {
            log = read_log;
            is_read = log_read.1;
            place = first_is;
            records_end = noted_ends ∙ ap (λ (k : ℕ). ends_of (contacts_at R s k (length read_log.records))) (sym first_is);
          }

  -- The refusal is the reader's.
  module _ {r : Refusal} (h : read_of R s ≡ Err r) where
    unread : read R s ≡ refused r
    unread = by (read R s) refl
      where
        by : (x : Reading) → read R s ≡ x → read R s ≡ refused r
        by (accepted log) e = unfold read_told in absurd (not_read {r = r} (sym h ∙ read_accepted log e))
        by (refused q) e = let k : ◌≡◌ {A = Result Accepted Refusal} (Err q) (Err r) = sym (read_refused q e) ∙ h in let i : q ≡ r = cc in e ∙ ap refused i

    pub unread_told : (marks slice : List ℕ) → (Err r ≡ wrote_by (strike_out R (length slice) marks s)) × (slice ≡ over (bytes_of_writing (strike_out R (length slice) marks s)) slice)
    unfolding wrote_by bytes_of_writing over
    unread_told marks slice =
        let e = strike_refused R (length slice) marks s r unread in
        (rw e, rw e)
