-- From what was judged to what is answered: the result's text by its places is the log written back, and where it does not fit nothing is written.
-- Assumes nothing.
use Prim.Native.Nat.{ℕ, ◌+◌, ◌≤◌}
use native.Mathlib.Omega.{arith}
use mathlib.Core.Bool.{Bool, true, false, cond, ◌&&◌}
use mathlib.Core.List.{List, [], ◌∷◌, ◌++◌, map}
use mathlib.Core.Path.{◌≡◌, refl, sym, ap, ap₂, subst, ◌∙◌}
use lib.Dec.{leb}
use lib.ListN.{length, drop, length-append, length-map}
use Rattle.reader.proofs.RecordsHeld.{records_start, header, records, rendered}
use Rattle.reader.specs.Contact.{contacts_at}
use Rattle.reader.specs.Read.{claims_start, heading_of}
use Rattle.reader.specs.declared.Contact.{Contact}
use Rattle.reader.specs.declared.Heading.{Heading}
use Rattle.rules.proofs.Classes.{length_verdicts}
use Rattle.rules.proofs.Format.{accepted_when_written}
use Rattle.rules.proofs.LogLaws.{front}
use Rattle.rules.proofs.Respelt.{spelt_as_long}
use Rattle.rules.proofs.SpellingLaws.{listed_spelling}
use Rattle.rules.proofs.WrittenValid.{written_length}
use Rattle.rules.specs.Answers.{Writing, written, unwritten, write, write_reading, write_log, bytes_of_writing, over}
use Rattle.rules.specs.Arguments.{entries, every}
use Rattle.rules.specs.Demands.{spelt}
use Rattle.rules.specs.Judging.{verdict_number, verdicts_of_log, totals_of_log}
use Rattle.rules.specs.Log.{Log, render, ended, count_line, keyword_lines, keywords_of, respelt, keyword_rules}
use Rattle.rules.specs.Reading.{accepted, refusal, read}
use Rattle.rules.specs.Rules.{Rules}
use Rattle.rules.specs.Text.{Text, all, allowed, digits}
use Rattle.rules.specs.Writing.{written_arguments, claims, written_back}
use Rattle.rules.specs.declared.Totals.{Totals}
use Rattle.writer.specs.ClaimsText.{claim_numbers, claim_start, claim_end, claim_starts, claim_ends, claims_text}
use Rattle.writer.specs.Given.{ClaimsBegin, ClaimsLie, RecordsLie, Writable}
use Rattle.writer.specs.LogText.{wrote_by, wrote_of, written_afterwards}
use Rattle.writer.specs.RecordText.{records_text}
use Rattle.writer.specs.Respelling.{KeywordsLie, relisted}
use Rattle.writer.specs.Written.{Puts}
use Rattle.std.specs.Prelude.{Ok, Err}
use Rattle.writer.proofs.ClaimLines.{nine}
use Rattle.writer.proofs.ClaimsWritten.{rightly, claims_lie, head_written, written_allowed, written_many}
use Rattle.writer.proofs.RespellingLaws.{keywords_lie, relisted_log}
use Rattle.writer.proofs.RecordsWritten.{points_of, pointsends_of, ends_of, contacts, records_written, records_lie}
use Rattle.writer.proofs.TextsLaws.{row_at}
use Rattle.writer.proofs.WrittenLaws.{front_end, front_laid}

-- There are as many verdicts as records.
pub as_many_lem : (R : Rules) (log : Log) → length (map verdict_number (verdicts_of_log R log)) ≡ length log.records
unfolding verdicts_of_log
as_many_lem R log = length-map (verdicts_of_log R log) verdict_number ∙ length_verdicts R log.records

module _ {R : Rules} {s : Text} {t : Totals} {first : ℕ} {heading : Heading} {points pointsends ends numbers : List ℕ} (w : Writable R s t first heading points pointsends ends numbers) where
  abbrev pub log : Log
  log = w.log

  -- The log as it is written back, and its text.
  abbrev pub after : Log
  after = written_back R log

  abbrev pub result : Text
  result = render after

  -- # What is given

  -- Where the claims begin, and how many keywords are respelt.
  abbrev line : ℕ
  line = heading.claims

  claiming : line ≡ claims_start log
  unfolding heading_of
  claiming = ap (λ (h : Heading). h.claims) w.headed

  counted : heading.respelt ≡ respelt entries log.keywords
  unfolding heading_of
  counted = ap (λ (h : Heading). h.respelt) w.headed

  -- The records' places, by where the first of them begins.
  abbrev cs : List Contact
  cs = contacts R s log w.is_read

  by_first : (place : List Contact → List ℕ) → place (contacts_at R s first (length log.records)) ≡ place cs
  by_first place = ap (λ (n : ℕ). place (contacts_at R s n (length log.records))) w.place

  points_are_lem : points ≡ points_of cs
  points_are_lem = w.points_begin ∙ by_first points_of

  pointsends_are : pointsends ≡ pointsends_of cs
  pointsends_are = w.points_end ∙ by_first pointsends_of

  ends_are : ends ≡ ends_of cs
  ends_are = w.records_end ∙ by_first ends_of

  many : length numbers ≡ length log.records
  many = ap length w.verdicts ∙ as_many_lem R log

  pub records_in_order : RecordsLie s first points pointsends ends (length numbers)
  records_in_order =
      subst (λ (n : ℕ). RecordsLie s n points pointsends ends (length numbers)) (sym w.place)
      (subst (λ (l : List ℕ). RecordsLie s (records_start s log) l pointsends ends (length numbers)) (sym points_are_lem)
      (subst (λ (l : List ℕ). RecordsLie s (records_start s log) (points_of cs) l ends (length numbers)) (sym pointsends_are)
      (subst (λ (l : List ℕ). RecordsLie s (records_start s log) (points_of cs) (pointsends_of cs) l (length numbers)) (sym ends_are)
      (subst (λ (n : ℕ). RecordsLie s (records_start s log) (points_of cs) (pointsends_of cs) (ends_of cs) n) (sym many) (records_lie R s log w.is_read)))))

  pub claims_in_order : ClaimsLie s first (claim_starts s line 9) (claim_ends s line 9) 9
  claims_in_order =
      subst (λ (n : ℕ). ClaimsLie s n (claim_starts s line 9) (claim_ends s line 9) 9) (sym w.place)
      (subst (λ (n : ℕ). ClaimsLie s (records_start s log) (claim_starts s n 9) (claim_ends s n 9) 9) (sym claiming) (claims_lie R s log w.is_read))

  -- As the code has found them.
  module _ {starts stops claimed : List ℕ} (p : starts ≡ claim_starts s line 9) (q : stops ≡ claim_ends s line 9) (r : claimed ≡ claim_numbers t) where
    pub found_nine : length claimed ≡ 9
    found_nine = ap length r ∙ nine t

    pub found_in_order : ClaimsLie s first starts stops (length claimed)
    found_in_order =
        subst (λ (n : ℕ). ClaimsLie s first starts stops n) (sym found_nine)
        (subst (λ (l : List ℕ). ClaimsLie s first l stops 9) (sym p)
        (subst (λ (l : List ℕ). ClaimsLie s first (claim_starts s line 9) l 9) (sym q) claims_in_order))

    pub found_text : claims_text s first 0 starts stops claimed ≡ claims_text s first 0 (claim_starts s line 9) (claim_ends s line 9) (claim_numbers t)
    found_text = λ i. claims_text s first 0 (p i) (q i) (r i)

  pub claims_begin : ClaimsBegin s line 9
  claims_begin i h =
      let l = claims_in_order.lies i h in
      omega (arith, row_at (claim_start s line) 9 i h, row_at (claim_end s line) 9 i h, l.rise, l.inside, claims_in_order.within)

  pub short : length s ≤ R.longest_log
  short = omega (arith, (rightly R s log w.is_read).short, ap length ((accepted_when_written R s log).0 w.is_read).1)

  -- # The result

  -- The result in the spelling that the log has. In front of the records only the claims change: the remarks stay, and there are as many records.
  abbrev kept : Log
  kept = spelt log.keywords after

  front_is : front (record { keywords = log.keywords; arguments = written_arguments (claims digits (totals_of_log R log)) entries log.arguments; remarks = log.remarks; records = log.records }) ≡ front kept
  unfolding front written_back
  front_is = refl

  many_after : length log.records ≡ length after.records
  unfolding written_back
  many_after = sym (written_length (verdicts_of_log R log) log.records)

  abbrev pub head_text : Text
  head_text = claims_text s first 0 (claim_starts s line 9) (claim_ends s line 9) (claim_numbers t)

  abbrev pub body_text : Text
  body_text = records_text s first points pointsends ends numbers

  head_is : head_text ≡ ended (header kept)
  head_is =
      (λ i. claims_text s (w.place i) 0 (claim_starts s (claiming i) 9) (claim_ends s (claiming i) 9) (claim_numbers (w.totals i)))
      ∙ head_written R s log w.is_read (totals_of_log R log)
      ∙ (λ i. ended (front_is i ++ (count_line (many_after i) ∷ [])))

  body_is : body_text ≡ ended (records kept)
  unfolding written_back
  body_is =
      (λ i. records_text s (w.place i) (points_are_lem i) (pointsends_are i) (ends_are i) (w.verdicts i))
      ∙ records_written R s log w.is_read

  kept_is : head_text ++ body_text ≡ render kept
  kept_is = ap₂ (λ (a b : Text). a ++ b) head_is body_is ∙ sym (rendered kept)

  -- No spelling changes the length.
  spellings : keyword_rules entries log.keywords ≡ true
  spellings = (rightly R s log w.is_read).spellings

  after_spelling : keyword_rules entries after.keywords ≡ true
  unfolding written_back
  after_spelling = listed_spelling entries

  pub as_long : length (render kept) ≡ length result
  as_long = spelt_as_long R after log.keywords after_spelling spellings

  pub result_length : length head_text + length body_text ≡ length result
  result_length = sym (length-append head_text body_text) ∙ ap length kept_is ∙ as_long

  -- The keywords of what was put together, in front of anything, have room for the listed ones; with them it is the result.
  module _ (rest : Text) where
    many_arguments : length after.arguments ≡ length log.keywords
    unfolding written_back
    many_arguments = written_many R s log w.is_read (totals_of_log R log)

    lines_allowed : every (all allowed) (keyword_lines log.keywords after.arguments) ≡ true
    unfolding written_back
    lines_allowed = written_allowed R s log w.is_read (totals_of_log R log)

    there : KeywordsLie entries 14 ((head_text ++ body_text) ++ rest)
    there = rw kept_is (keywords_lie after rest log.keywords spellings many_arguments lines_allowed)

    listed_after : spelt (keywords_of entries) after ≡ after
    unfolding written_back
    listed_after = refl

    relists : relisted heading.respelt ((head_text ++ body_text) ++ rest) ≡ result ++ rest
    relists =
        ap (λ (t : Text). relisted heading.respelt (t ++ rest)) kept_is
        ∙ relisted_log after rest log.keywords spellings many_arguments lines_allowed heading.respelt counted
        ∙ ap (λ (l : Log). render l ++ rest) listed_after

  -- # The answers

  -- Whether the result fits, for a log and for the slice, and what is answered then.
  abbrev tested : ℕ → Bool
  tested room = leb (length result) R.longest_log && leb (length result) room

  abbrev answered : Bool → Writing
  answered b = cond b (written result) (unwritten (refusal 8 0 0))

  answer_is : (room : ℕ) → write R room s ≡ answered (tested room)
  answer_is room = opened ∙ ap (write_reading R room) w.is_read ∙ law
    where
      opened : write R room s ≡ write_reading R room (read R s)
      opened = unfold write in refl

      law : write_reading R room (accepted log) ≡ answered (tested room)
      law = unfold write_reading write_log in refl

  -- The test is made of the length that was measured.
  pub as_tested : (room n : ℕ) {b : Bool} → n ≡ length result → b ≡ (leb n R.longest_log && leb n room) → b ≡ tested room
  as_tested room n e f = f ∙ ap (λ (m : ℕ). leb m R.longest_log && leb m room) e

  -- Where it fails, nothing is written.
  module _ (slice : List ℕ) (h : tested (length slice) ≡ false) where
    refuses : write R (length slice) s ≡ unwritten (refusal 8 0 0)
    refuses = answer_is (length slice) ∙ ap answered h

    pub refused_answer : Err (refusal 8 0 0) ≡ wrote_of R (length slice) s
    unfolding wrote_of wrote_by
    refused_answer = rw refuses

    pub refused_slice : slice ≡ written_afterwards R s slice
    unfolding bytes_of_writing over
    refused_slice = rw refuses

  -- Where it holds, the text that was put together, in the listed spelling, is the answer.
  module _ {slice slice' : List ℕ} {end : ℕ} (h : tested (length slice) ≡ true) (p : Puts slice 0 (head_text ++ body_text) slice' end) where
    writes : write R (length slice) s ≡ written result
    writes = answer_is (length slice) ∙ ap answered h

    long : length (head_text ++ body_text) ≡ length result
    long = ap length kept_is ∙ as_long

    laid : slice' ≡ (head_text ++ body_text) ++ drop (length result) slice
    unfolding over
    laid = front_laid p ∙ ap (λ (n : ℕ). (head_text ++ body_text) ++ drop n slice) long

    pub keywords_there : KeywordsLie entries 14 slice'
    keywords_there = subst (λ (l : List ℕ). KeywordsLie entries 14 l) (sym laid) (there (drop (length result) slice))

    pub written_answer : Ok end ≡ wrote_of R (length slice) s
    unfolding wrote_of wrote_by
    written_answer = rw writes (ap Ok (front_end p ∙ long))

    pub written_slice : {slice'' : List ℕ} → slice'' ≡ relisted heading.respelt slice' → slice'' ≡ written_afterwards R s slice
    unfolding bytes_of_writing over
    written_slice q = rw writes (q ∙ ap (relisted heading.respelt) laid ∙ relists (drop (length result) slice))
