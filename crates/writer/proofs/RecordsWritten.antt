-- The records of an accepted log, written back by their places, are the lines that the definition of writing back gives them.
-- Assumes nothing.
use Prim.Native.Nat.{ℕ, zero, suc, ◌+◌, ◌-◌, ◌≤◌, ◌<◌}
use native.Mathlib.Omega.{arith}
use mathlib.Core.Bool.{Bool, true, false, cond, ◌&&◌}
use mathlib.Core.List.{List, [], ◌∷◌, ◌++◌, map, append_assoc, append-nil}
use mathlib.Core.Path.{◌≡◌, refl, sym, ap, ap₂, ◌∙◌}
use lib.ListN.{length, take, drop, get_or, length-append, length-drop, length-map}
use lib.Seq.{take_at, take-add, drop-drop}
use Rattle.reader.proofs.PlaceLaws.{ends_behind, start_more, start_next, starts_rise}
use Rattle.reader.proofs.RecordsHeld.{record_lines, Stand, rules_kept, stands, starts_at, describes, others_stand, records_start, records_stand, records_within}
use Rattle.reader.specs.Contact.{field_start, last_end, contact_at, behind, contacts_at, between}
use Rattle.reader.specs.declared.Contact.{Contact}
use Rattle.rules.proofs.Tests.{so, holds}
use Rattle.rules.proofs.TextLaws.{same_eq, same_of_eq}
use Rattle.rules.proofs.ValidLogs.{rule_at}
use Rattle.rules.specs.Fields.{Qso, new_mark, duplicate_mark, empty_or, fields_of, field_rules}
use Rattle.rules.specs.Judging.{is, claims_country, verdict_of, verdict_number, credited_after, verdicts_after, verdicts, verdicts_of_log}
use Rattle.rules.specs.Log.{Log, record_line, crlf, ended}
use Rattle.rules.specs.Reading.{read, accepted}
use Rattle.rules.specs.Rules.{Rules}
use Rattle.rules.specs.Text.{Text, bytes, semicolon, same, joined}
use Rattle.rules.specs.Writing.{written_record, written_records}
use Rattle.rules.specs.declared.Class.TheVariants.{Credited, Duplicate}
use Rattle.rules.specs.declared.Verdict.{Verdict}
use Rattle.writer.specs.Given.{RecordLies, RecordsLie}
use Rattle.writer.specs.RecordText.{mark_text, marks_text, zero_text, record_text, numbered_text, records_text}
use Rattle.writer.specs.Written.{texts, start_of}
use Rattle.writer.proofs.NumberLaws.{duplicate_told, exchange_told, square_told, country_told}
use Rattle.writer.proofs.TextsLaws as Texts

-- # Fields

-- Texts with a semicolon behind each.
closed : List Text → Text
closed [] = []
closed (t ∷ ts) = t ++ semicolon ∷ closed ts

-- Joined texts, cut behind one of their semicolons.
joined_cut : (k : ℕ) (ts : List Text) → k < length ts → joined ts ≡ closed (take k ts) ++ joined (drop k ts)
unfolding closed joined
joined_cut zero ts h = refl
joined_cut (suc k) [] h = absurd (omega arith)
joined_cut (suc k) (t ∷ []) h = absurd (omega arith)
joined_cut (suc k) (t ∷ u ∷ ts) h =
    ap (λ (r : Text). t ++ semicolon ∷ r) (joined_cut k (u ∷ ts) (omega arith))
    ∙ sym (append_assoc t (semicolon ∷ closed (take k (u ∷ ts))) (joined (drop k (u ∷ ts))))

-- Five texts, put together one behind the other.
regrouped : (a b c d e end : Text)
    → a ++ ((semicolon ∷ b) ++ (semicolon ∷ c) ++ (semicolon ∷ d) ++ (semicolon ∷ e) ++ end)
    ≡ joined (a ∷ b ∷ c ∷ d ∷ e ∷ []) ++ end
unfolding joined
regrouped a b c d e end = simp append_assoc

-- The last five fields of a record that is written back, by its own points and by what its field of a new country becomes.
abbrev last_fields : Verdict → Text → Text → List Text
last_fields v points country =
    cond (is Duplicate v.class) (bytes "0") points
    ∷ cond v.exchange new_mark []
    ∷ cond v.square new_mark []
    ∷ country
    ∷ cond (is Duplicate v.class) duplicate_mark []
    ∷ []

last_joined : (v : Verdict) (points : Text) (country : Bool)
    → cond (is Duplicate v.class) (bytes "0") points ++ marks_text v.exchange v.square country (is Duplicate v.class)
    ≡ joined (last_fields v points (cond country new_mark [])) ++ crlf
unfolding marks_text mark_text
last_joined v points country =
    regrouped
    (cond (is Duplicate v.class) (bytes "0") points)
    (cond v.exchange new_mark [])
    (cond v.square new_mark [])
    (cond country new_mark [])
    (cond (is Duplicate v.class) duplicate_mark [])
    crlf

-- A field that may hold only the mark of a new one holds it or nothing; to keep the field is to keep the mark.
new_or_nothing : (t : Text) → empty_or (same new_mark) t ≡ true → t ≡ cond (same t new_mark) new_mark []
unfolding empty_or new_mark same
new_or_nothing [] e = refl
new_or_nothing (c ∷ t) e =
    let n : c ∷ t ≡ new_mark = sym (same_eq new_mark (c ∷ t) e) in
    n ∙ sym (ap (λ (b : Bool). cond b new_mark []) (same_of_eq (c ∷ t) new_mark n))

mark_kept : (keep marked : Bool) (mark : Text) → cond keep (cond marked mark []) [] ≡ cond (keep && marked) mark []
mark_kept true marked mark = refl
mark_kept false marked mark = refl

-- # Parts

-- What stands from a place to another, by what stands from each of them on.
between_held : (s : Text) (a e : ℕ) (t rest : Text) → drop a s ≡ t ++ rest → drop e s ≡ rest → 0 < length rest → between s a e ≡ t
between_held s a e t rest p q h =
    let both : length s - a ≡ length (t ++ rest) = sym (length-drop a s) ∙ ap length p in
    let behind : length s - e ≡ length rest = sym (length-drop e s) ∙ ap length q in
    let n : length t ≡ e - a = omega (arith, length-append t rest) in
    ap (take (e - a)) p ∙ take_at t rest (e - a) n

-- A part is two parts, one behind the other.
between_two : (s : Text) (a m e : ℕ) → a ≤ m → m ≤ e → between s a e ≡ between s a m ++ between s m e
between_two s a m e h k =
    let n : e - a ≡ m - a + (e - m) = omega arith in
    let there : a + (m - a) ≡ m = omega arith in
    ap (λ (j : ℕ). take j (drop a s)) n
    ∙ take-add (m - a) (e - m) (drop a s)
    ∙ ap (λ (r : Text). between s a m ++ take (e - m) r) (drop-drop (m - a) a s ∙ ap (λ (j : ℕ). drop j s) there)

-- # One record

-- The line of a record that is written back: its first ten fields stay.
written_line : (v : Verdict) (q : Qso)
    → record_line (written_record v q)
    ≡ closed (take 10 (fields_of q)) ++ joined (last_fields v q.points (cond (is Credited v.class) q.new_country []))
unfolding record_line fields_of written_record
written_line v q = joined_cut 10 (fields_of (written_record v q)) (omega arith)

-- The parts of a record stand in order.
module _ (R : Rules) (s : Text) (at : ℕ) where
  points_behind : at ≤ (contact_at R s at).points
  unfolding contact_at
  points_behind = starts_rise s at 10

  points_rise : (contact_at R s at).points ≤ (contact_at R s at).pointsend
  unfolding contact_at
  points_rise = ends_behind s (field_start s at 10) refl

  points_close : (contact_at R s at).pointsend ≤ (contact_at R s at).end
  unfolding contact_at last_end
  points_close =
      omega (arith, start_next s at 10, start_more s at 11 3, starts_rise s (field_start s at 11) 3)

module _ (R : Rules) (s : Text) (at : ℕ) (q : Qso) (qs : List Qso) (h : Stand R s at (q ∷ qs)) where
  abbrev c : Contact
  c = contact_at R s at

  abbrev front : Text
  front = closed (take 10 (fields_of q))

  -- The first ten fields stand in front of the points.
  head_is : between s at c.points ≡ front
  unfolding contact_at fields_of crlf
  head_is =
      let rest = joined (drop 10 (fields_of q)) ++ (crlf ++ record_lines qs) in
      let cut : drop at s ≡ front ++ rest =
      stands R s at q qs h
      ∙ ap (λ (t : Text). t ++ (crlf ++ record_lines qs)) (joined_cut 10 (fields_of q) (omega arith))
      ∙ append_assoc front (joined (drop 10 (fields_of q))) (crlf ++ record_lines qs) in
      between_held s at (field_start s at 10) front rest cut (starts_at R s at q qs h 10 (omega arith)) (omega (arith, length-append (joined (drop 10 (fields_of q))) (crlf ++ record_lines qs)))

  -- What is copied, with the points or `0` behind it.
  copied_is : (duplicate : Bool) → between s at (cond duplicate c.points c.pointsend) ++ zero_text duplicate ≡ front ++ cond duplicate (bytes "0") q.points
  copied_is true = ap (λ (t : Text). t ++ bytes "0") head_is
  copied_is false =
      append-nil (between s at c.pointsend)
      ∙ between_two s at c.points c.pointsend (points_behind R s at) (points_rise R s at)
      ∙ ap₂ (λ (a b : Text). a ++ b) head_is (describes R s at q qs h).points_are

  -- The mark of a new country is kept on the records that claim one.
  country_kept : (keep : Bool) → cond keep q.new_country [] ≡ cond (keep && claims_country q) new_mark []
  unfolding claims_country field_rules
  country_kept keep =
      let rule : empty_or (same new_mark) q.new_country ≡ true = so (empty_or (same new_mark) q.new_country) (rule_at (field_rules R q) 13 (holds (rules_kept R s at q qs h))) in
      ap (λ (t : Text). cond keep t []) (new_or_nothing q.new_country rule)
      ∙ mark_kept keep (same q.new_country new_mark) new_mark

  -- So it is written back as its line, if a new country is told of it exactly where it is credited and claims one.
  module _ (v : Verdict) (g : v.country ≡ (is Credited v.class && claims_country q)) where
    abbrev duplicate : Bool
    duplicate = is Duplicate v.class

    abbrev marks : Text
    marks = marks_text v.exchange v.square v.country duplicate

    told : record_text s at c.points c.pointsend (verdict_number v) ≡ between s at (cond duplicate c.points c.pointsend) ++ zero_text duplicate ++ marks
    unfolding record_text
    told = rw (duplicate_told v, exchange_told v, square_told v, country_told v)

    line_is : record_line (written_record v q) ≡ front ++ joined (last_fields v q.points (cond v.country new_mark []))
    line_is =
        written_line v q
        ∙ ap (λ (t : Text). front ++ joined (last_fields v q.points t)) (country_kept (is Credited v.class) ∙ ap (λ (b : Bool). cond b new_mark []) (sym g))

    pub record_written : record_text s at c.points c.pointsend (verdict_number v) ≡ record_line (written_record v q) ++ crlf
    record_written =
        let points = cond duplicate (bytes "0") q.points in
        let last = joined (last_fields v q.points (cond v.country new_mark [])) in
        told
        ∙ ap (λ (t : Text). t ++ marks) (copied_is duplicate)
        ∙ append_assoc front points marks
        ∙ ap (λ (t : Text). front ++ t) (last_joined v q.points v.country)
        ∙ sym (append_assoc front last crlf)
        ∙ ap (λ (t : Text). t ++ crlf) (sym line_is)

-- # All records

-- Where the points of records begin and end, and where the records end.
abbrev pub points_of : List Contact → List ℕ
points_of cs = map (λ (c : Contact). c.points) cs

abbrev pub pointsends_of : List Contact → List ℕ
pointsends_of cs = map (λ (c : Contact). c.pointsend) cs

abbrev pub ends_of : List Contact → List ℕ
ends_of cs = map (λ (c : Contact). c.end) cs

-- The text of records by their places and verdicts.
abbrev pub by_contacts : Text → ℕ → List Contact → List Verdict → Text
by_contacts s at cs vs = records_text s at (points_of cs) (pointsends_of cs) (ends_of cs) (map verdict_number vs)

-- The first of them, and the others behind it.
texts_first : (s : Text) (at : ℕ) (c : Contact) (cs : List Contact) (v : Verdict) (vs : List Verdict)
    → by_contacts s at (c ∷ cs) (v ∷ vs) ≡ record_text s at c.points c.pointsend (verdict_number v) ++ by_contacts s (behind c) cs vs
unfolding records_text start_of
texts_first s at c cs v vs =
    let ps = points_of cs in
    let es = pointsends_of cs in
    let ns = map verdict_number vs in
    let all = numbered_text s at (c.points ∷ ps) (c.pointsend ∷ es) (c.end ∷ ends_of cs) (verdict_number v ∷ ns) in
    let others = numbered_text s (behind c) ps es (ends_of cs) ns in
    Texts.texts_front all (length ns)
    ∙ ap (λ (t : Text). record_text s at c.points c.pointsend (verdict_number v) ++ t)
    (Texts.texts_same (λ i. all (suc i)) others (λ i. ap (λ (a : ℕ). record_text s a (get_or ps i 0) (get_or es i 0) (get_or ns i 0)) (Texts.start_next 2 at c.end (ends_of cs) i)) (length ns))

module _ (R : Rules) (s : Text) where
  -- A new country is told of a record exactly where it is credited and claims one.
  country_said : (credited : List Qso) (q : Qso) → (verdict_of R credited q).country ≡ (is Credited (verdict_of R credited q).class && claims_country q)
  unfolding verdict_of
  country_said credited q = refl

  all_written : (qs credited : List Qso) (at : ℕ) → Stand R s at qs
      → by_contacts s at (contacts_at R s at (length qs)) (verdicts_after R credited qs) ≡ record_lines (written_records (verdicts_after R credited qs) qs)
  unfolding contacts_at verdicts_after written_records ended
  all_written [] credited at h = unfold records_text texts in refl
  all_written (q ∷ qs) credited at h =
      let c = contact_at R s at in
      let v = verdict_of R credited q in
      let after = credited_after v.class q credited in
      texts_first s at c (contacts_at R s (behind c) (length qs)) v (verdicts_after R after qs)
      ∙ ap₂ (λ (a b : Text). a ++ b) (record_written R s at q qs h v (country_said credited q)) (all_written qs after (behind c) (others_stand R s at q qs h))

  all_lie : (qs : List Qso) (at : ℕ) → Stand R s at qs → (i : ℕ) → i < length qs
      → let cs = contacts_at R s at (length qs) in
      RecordLies s (start_of 2 at (ends_of cs) i) (get_or (points_of cs) i 0) (get_or (pointsends_of cs) i 0) (get_or (ends_of cs) i 0)
  unfolding contacts_at
  all_lie [] at h i g = absurd (omega arith)
  all_lie (q ∷ qs) at h zero g =
      unfold start_of in
      record {
        order = points_behind R s at;
        rise = points_rise R s at;
        close = points_close R s at;
        inside = omega (arith, (others_stand R s at q qs h).end);
      }
  all_lie (q ∷ qs) at h (suc i) g =
      let c = contact_at R s at in
      rw (Texts.start_next 2 at c.end (ends_of (contacts_at R s (behind c) (length qs))) i) (all_lie qs (behind c) (others_stand R s at q qs h) i (omega arith))

  pub length_contacts : (at n : ℕ) → length (contacts_at R s at n) ≡ n
  unfolding contacts_at
  length_contacts at zero = refl
  length_contacts at (suc n) = ap suc (length_contacts (behind (contact_at R s at)) n)

module _ (R : Rules) (s : Text) (log : Log) (w : read R s ≡ accepted log) where
  abbrev pub contacts : List Contact
  contacts = contacts_at R s (records_start s log) (length log.records)

  many : (place : Contact → ℕ) → length (map place contacts) ≡ length log.records
  many place = length-map contacts place ∙ length_contacts R s (records_start s log) (length log.records)

  pub records_written : by_contacts s (records_start s log) contacts (verdicts_of_log R log) ≡ ended (map record_line (written_records (verdicts_of_log R log) log.records))
  unfolding verdicts_of_log verdicts
  records_written = all_written R s log.records [] (records_start s log) (records_stand R s log w)

  pub records_lie : RecordsLie s (records_start s log) (points_of contacts) (pointsends_of contacts) (ends_of contacts) (length log.records)
  records_lie =
      record {
        many_points = omega (arith, many (λ (c : Contact). c.points));
        many_pointsends = omega (arith, many (λ (c : Contact). c.pointsend));
        many_ends = omega (arith, many (λ (c : Contact). c.end));
        lies = all_lie R s log.records (records_start s log) (records_stand R s log w);
        within = records_within R s log w;
      }
