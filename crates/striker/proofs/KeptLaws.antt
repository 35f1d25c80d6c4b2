-- What is left of an accepted log, by the places of its lines, is what is left of it by the definition of striking.
-- Assumes nothing.
use Prim.Native.Nat.{ℕ, zero, suc, ◌+◌, ◌-◌, ◌≤◌, ◌<◌}
use native.Mathlib.Omega.{arith}
use mathlib.Core.Bool.{Bool, true, false, cond}
use mathlib.Core.List.{List, [], ◌∷◌, ◌++◌, append_assoc, append-nil}
use mathlib.Core.Path.{◌≡◌, refl, sym, ap, ap₂, ◌∙◌}
use lib.ListN.{length, take, get_or, length-append, length-map}
use lib.Seq.{take_at}
use Rattle.reader.proofs.RecordsHeld.{record_lines, Stand, others_stand, records_start, rendered, ended_append, records_stand, records_within}
use Rattle.reader.specs.Contact.{contact_at, behind, contacts_at, between}
use Rattle.reader.specs.declared.Contact.{Contact}
use Rattle.rules.proofs.Format.{accepted_when_written}
use Rattle.rules.proofs.LogLaws.{front}
use Rattle.rules.specs.Fields.{Qso}
use Rattle.rules.specs.Log.{Log, count_line, record_line, crlf, ended, render}
use Rattle.rules.specs.Reading.{read, accepted}
use Rattle.rules.specs.Rules.{Rules}
use Rattle.rules.specs.Striking.{Places, later, kept, strike, place_after}
use Rattle.rules.specs.Text.{Text}
use Rattle.writer.proofs.RecordsWritten.{ends_of, length_contacts}
use Rattle.writer.proofs.TextsLaws as Texts
use Rattle.writer.specs.Written.{texts, start_of}
use Rattle.striker.specs.Given.{LineLies, LinesLie}
use Rattle.striker.specs.KeptText.{kept_line, numbered_line, kept_lines, head_text}

-- # The records

-- How many are left.
pub kept_many : {A : Type 0} (struck : Places) (l : List A) → length (kept struck l) ≡ place_after struck (length l)
unfolding kept place_after
kept_many struck [] = refl
kept_many struck (a ∷ l) = by (struck 0) (kept_many (later struck) l)
  where
    by : (b : Bool) → length (kept (later struck) l) ≡ place_after (later struck) (length l) → length (cond b (kept (later struck) l) (a ∷ kept (later struck) l)) ≡ cond b 0 1 + place_after (later struck) (length l)
    by true e = omega (arith, e)
    by false e = omega (arith, e)

module _ (R : Rules) (s : Text) where
  -- The line of the first record ends where the next begins.
  line_is : (at : ℕ) (q : Qso) (qs : List Qso) → Stand R s at (q ∷ qs) → between s at (behind (contact_at R s at)) ≡ record_line q ++ crlf
  unfolding ended
  line_is at q qs h =
      let line = record_line q ++ crlf in
      let next = behind (contact_at R s at) in
      let n : length line ≡ next - at = omega (arith, h.end, (others_stand R s at q qs h).end, length-append line (record_lines qs)) in
      ap (take (next - at)) h.lines ∙ take_at line (record_lines qs) (next - at) n

  -- The first of them, and the others behind it.
  lines_first : (at : ℕ) (c : Contact) (cs : List Contact) (struck : Places)
      → kept_lines s at (ends_of (c ∷ cs)) struck ≡ kept_line s at (behind c) (struck 0) ++ kept_lines s (behind c) (ends_of cs) (later struck)
  unfolding kept_lines start_of
  lines_first at c cs struck =
      let all = numbered_line s at (ends_of (c ∷ cs)) struck in
      let others = numbered_line s (behind c) (ends_of cs) (later struck) in
      Texts.texts_front all (length (ends_of cs))
      ∙ ap (λ (t : Text). kept_line s at (behind c) (struck 0) ++ t)
      (Texts.texts_same (λ i. all (suc i)) others (λ i. ap (λ (a : ℕ). kept_line s a (get_or (ends_of cs) i 0 + 2) (struck (suc i))) (Texts.start_next 2 at c.end (ends_of cs) i)) (length (ends_of cs)))

  all_kept : (qs : List Qso) (at : ℕ) (struck : Places) → Stand R s at qs
      → kept_lines s at (ends_of (contacts_at R s at (length qs))) struck ≡ record_lines (kept struck qs)
  unfolding contacts_at kept ended
  all_kept [] at struck h = unfold kept_lines texts in refl
  all_kept (q ∷ qs) at struck h =
      let c = contact_at R s at in
      lines_first at c (contacts_at R s (behind c) (length qs)) struck
      ∙ ap (λ (t : Text). kept_line s at (behind c) (struck 0) ++ t) (all_kept qs (behind c) (later struck) (others_stand R s at q qs h))
      ∙ by (struck 0)
    where
      by : (b : Bool) → kept_line s at (behind (contact_at R s at)) b ++ record_lines (kept (later struck) qs) ≡ record_lines (cond b (kept (later struck) qs) (q ∷ kept (later struck) qs))
      by true = refl
      by false = ap (λ (t : Text). t ++ record_lines (kept (later struck) qs)) (line_is at q qs h)

  -- A record ends behind its beginning.
  all_lie : (qs : List Qso) (at : ℕ) → Stand R s at qs → (i : ℕ) → i < length qs
      → let ends = ends_of (contacts_at R s at (length qs)) in
      LineLies s (start_of 2 at ends i) (get_or ends i 0)
  unfolding contacts_at
  all_lie [] at h i g = absurd (omega arith)
  all_lie (q ∷ qs) at h zero g =
      unfold start_of ended in
      let line = record_line q ++ crlf in
      let long : 2 ≤ length line = omega (arith, length-append (record_line q) crlf) in
      record {
        order = omega (arith, h.end, (others_stand R s at q qs h).end, length-append line (record_lines qs), long);
        inside = omega (arith, (others_stand R s at q qs h).end);
      }
  all_lie (q ∷ qs) at h (suc i) g =
      let c = contact_at R s at in
      rw (Texts.start_next 2 at c.end (ends_of (contacts_at R s (behind c) (length qs))) i) (all_lie qs (behind c) (others_stand R s at q qs h) i (omega arith))

-- # The log

-- A log's bytes: the lines in front of the count line, the count line, and the records.
parts_of : (log : Log) → render log ≡ (ended (front log) ++ (count_line (length log.records) ++ crlf)) ++ record_lines log.records
unfolding ended
parts_of log =
    rendered log
    ∙ ap (λ (t : Text). t ++ record_lines log.records) (ended_append (front log) (count_line (length log.records) ∷ []))
    ∙ ap (λ (t : Text). (ended (front log) ++ t) ++ record_lines log.records) (append-nil (count_line (length log.records) ++ crlf))

front_stays : (log : Log) (struck : Places) → front (strike struck log) ≡ front log
unfolding strike front
front_stays log struck = refl

module _ (R : Rules) (s : Text) (log : Log) (w : read R s ≡ accepted log) where
  abbrev pub ends : List ℕ
  ends = ends_of (contacts_at R s (records_start s log) (length log.records))

  pub ends_many : length ends ≡ length log.records
  ends_many =
      length-map (contacts_at R s (records_start s log) (length log.records)) (λ (c : Contact). c.end)
      ∙ length_contacts R s (records_start s log) (length log.records)

  pub lines_lie : LinesLie s (records_start s log) ends
  lines_lie =
      record {
        lies = λ i h. all_lie R s log.records (records_start s log) (records_stand R s log w) i (omega (arith, h, ends_many));
        within = records_within R s log w;
      }

  -- Where the count line begins.
  abbrev pub count_at : ℕ
  count_at = records_start s log - (length (count_line (length log.records)) + 2)

  -- What stands in front of the records, and how long it is.
  headed : s ≡ (ended (front log) ++ (count_line (length log.records) ++ crlf)) ++ record_lines log.records
  headed = sym ((accepted_when_written R s log).0 w).1 ∙ parts_of log

  head_long : records_start s log ≡ length (ended (front log)) + (length (count_line (length log.records)) + 2)
  unfolding crlf
  head_long =
      let line = count_line (length log.records) ++ crlf in
      omega (arith, ap length headed, length-append (ended (front log) ++ line) (record_lines log.records), length-append (ended (front log)) line, length-append (count_line (length log.records)) crlf)

  pub count_fits : length (count_line (length log.records)) + 2 ≤ records_start s log
  count_fits = omega (arith, head_long)

  front_is : take count_at s ≡ ended (front log)
  front_is =
      let line = count_line (length log.records) ++ crlf in
      let n : length (ended (front log)) ≡ count_at = omega (arith, head_long) in
      ap (take count_at) (headed ∙ append_assoc (ended (front log)) line (record_lines log.records))
      ∙ take_at (ended (front log)) (line ++ record_lines log.records) count_at n

  module _ (struck : Places) where
    left_many : count_line (length (strike struck log).records) ≡ count_line (place_after struck (length ends))
    unfolding strike
    left_many = ap count_line (kept_many struck log.records ∙ ap (place_after struck) (sym ends_many))

    body_is : kept_lines s (records_start s log) ends struck ≡ record_lines (strike struck log).records
    unfolding strike
    body_is = all_kept R s log.records (records_start s log) struck (records_stand R s log w)

    head_is : head_text s count_at (count_line (place_after struck (length ends))) ≡ ended (front (strike struck log)) ++ (count_line (length (strike struck log).records) ++ crlf)
    unfolding head_text
    head_is =
        ap₂ (λ (a b : Text). (a ++ b) ++ crlf) front_is (sym left_many)
        ∙ append_assoc (ended (front log)) (count_line (length (strike struck log).records)) crlf
        ∙ ap (λ (f : List Text). ended f ++ (count_line (length (strike struck log).records) ++ crlf)) (sym (front_stays log struck))

    pub struck_is : head_text s count_at (count_line (place_after struck (length ends))) ++ kept_lines s (records_start s log) ends struck ≡ render (strike struck log)
    struck_is = ap₂ (λ (a b : Text). a ++ b) head_is body_is ∙ sym (parts_of (strike struck log))
