-- From what was read to what is answered: an accepted log can be weighed, and what it is weighed to is what document 01 says of it.
-- Assumes nothing.
use Prim.Native.Nat.{ℕ, ◌-◌, zero, suc, ◌≤◌, ◌<◌}
use native.Mathlib.Omega.{arith}
use mathlib.Core.Path.{◌≡◌, refl, sym, ap, subst, ◌∙◌}
use mathlib.Core.Bool.{true, false}
use mathlib.Core.List.{List, ◌++◌, map}
use lib.Dec.{T, ltb}
use lib.ListN.{length, take, drop, length-map, length-drop, length-append}
use lib.Seq.{take_all, take-append_seam}
use borrow.Author.Tests.{lt-ltb, le-ltb}
use Rattle.std.specs.Prelude.{Result, Ok, Err}
use Rattle.rules.specs.declared.Refusal.{Refusal}
use Rattle.rules.specs.declared.Totals.{Totals}
use Rattle.rules.specs.Text.{Text}
use Rattle.rules.specs.Rules.{Rules, base}
use Rattle.rules.specs.Fields.{Qso}
use Rattle.rules.specs.Log.{Log, ended, record_line, record_rules}
use Rattle.rules.specs.Judging.{declared, verdicts, verdicts_of_log, totals, totals_of, totals_of_log}
use Rattle.rules.specs.Reading.{Reading, accepted, refused, refusal, read}
use Rattle.rules.specs.Answers.{Judgement, judged, unjudged, judge, judge_reading, judge_log, records_of_reading, numbers_of_judgement, over}
use Rattle.rules.proofs.Tests.{holds}
use Rattle.rules.proofs.Format.{accepted_when_written}
use Rattle.rules.proofs.ValidLogs.{count_valid}
use Rattle.rules.proofs.Classes.{length_verdicts}
use Rattle.reader.specs.declared.Contact.{Contact}
use Rattle.reader.specs.Contact.{contact_at, behind, contacts_at, Holds}
use Rattle.reader.specs.Noted.{listed}
use Rattle.reader.specs.Read.{claims_start, heading_of, read_told}
use Rattle.reader.specs.declared.Heading.{Heading}
use Rattle.reader.specs.declared.Accepted.{Accepted}
use Rattle.std.specs.Prelude.{Ok, Err}
use Rattle.reader.proofs.RecordsHeld.{records_start, records_held, records_stand}
use Rattle.places.specs.declared.Declared.{Declared}
use Rattle.places.specs.Places.{declared_at}
use Rattle.places.proofs.HeaderHeld.{declared_held}
use Rattle.places.proofs.ToldBounds.{declared_below}
use Rattle.judge.specs.declared.Weighed.{Weighed}
use Rattle.judge.specs.Bounds.{Small, Closable}
use Rattle.judge.specs.declared.Tally.{Tally}
use Rattle.judge.specs.Count.{closing, as_declared, tallied}
use Rattle.judge.specs.Judge.{first_of, heading_in, weighed_by, weighed_of, judged_by, judged_of, verdicts_afterwards}
use Rattle.judge.specs.Weigh.{records_in, records_of, numbers_of, Listed, Listings, Weighable, Weighs, Accepts}
use Rattle.judge.proofs.CountLaws.{closed_totals}

-- # What is declared

-- What is declared keeps its rules, whatever the log.
declared_small : (R : Rules) (s : Text) (claims : ℕ) → Small R (declared_at R s claims)
declared_small R s claims =
    let d = declared_below R s claims in
    record {
      squarebonus = d.squarebonus;
      squaremultiplier = d.squaremultiplier;
      exchangebonus = d.exchangebonus;
      exchangemultiplier = d.exchangemultiplier;
      countrybonus = d.countrybonus;
      countrymultiplier = d.countrymultiplier;
    }

pub closable : {s : Text} (claims : ℕ) {slice slice' modes : List ℕ} {t : Tally} {d : Declared} → Weighs base s slice t slice' modes → d ≡ declared_at base s claims → Closable base t modes d
closable {s = s} claims w e = record { few = w.few; small = rw e (declared_small base s claims) }

-- # The lists

length_contacts : (R : Rules) (s : Text) (at n : ℕ) → length (contacts_at R s at n) ≡ n
unfolding contacts_at
length_contacts R s at zero = refl
length_contacts R s at (suc n) = ap suc (length_contacts R s (behind (contact_at R s at)) n)

-- A list that takes the places of all the records holds them in front.
pub all_listed : (R : Rules) (s : Text) (first n : ℕ) (place : Contact → ℕ) (list : List ℕ) {cs : List Contact} {list' : List ℕ} → cs ≡ contacts_at R s first n → list' ≡ listed place cs list → n ≤ length list → Listed R s first n place list'
unfolding over
all_listed R s first n place list {list' = list'} e f h =
    let places = map place (contacts_at R s first n) in
    let size : length places ≡ n = length-map (contacts_at R s first n) place ∙ length_contacts R s first n in
    let whole : take (length list) places ≡ places = take_all (length list) places (omega arith) in
    let is : list' ≡ places ++ drop (length places) list =
    f ∙ ap (λ (x : List Contact). over (take (length list) (map place x)) list) e ∙ ap (λ (x : List ℕ). over x list) whole in
    record {
      long = omega (arith, ap length is, length-append places (drop (length places) list), length-drop (length places) list);
      places = ap (take n) is ∙ ap (λ (k : ℕ). take k (places ++ drop (length places) list)) (sym size) ∙ take-append_seam places (drop (length places) list);
    }

-- # An accepted log

module _ {R : Rules} {s : Text} {records first : ℕ} {heading : Heading} (a : Accepts R s records first heading) where
  abbrev log : Log
  log = a.log

  records_are : records_of R s ≡ log.records
  unfolding records_of
  records_are = ap records_in a.is_read

  first_is : records_start s log ≡ first
  unfolding first_of
  first_is = sym a.place

  pub few_records : records ≤ R.most_records
  few_records =
      let few = count_valid R log ((accepted_when_written R s log).0 a.is_read).0 in
      omega (arith, a.count)

  -- The records that are noted of it.
  pub contacts_are : {cs : List Contact} → cs ≡ contacts_at R s (records_start s log) (length log.records) → cs ≡ contacts_at R s first records
  contacts_are e = e ∙ (λ i. contacts_at R s (first_is i) (sym a.count i))

  all_ruled : record_rules R (records_of R s) ≡ true
  all_ruled = ap (record_rules R) records_are ∙ (records_stand R s log a.is_read).rules

  rules_kept : T (record_rules R (records_of R s))
  rules_kept = holds all_ruled

  pub weighable : {slice calls exchanges points pointsends : List ℕ} → records ≤ length slice → Listings R s first records calls exchanges points pointsends → Weighable R s records slice calls exchanges points pointsends
  weighable h l =
      record {
        first = first;
        held =
            subst (λ (qs : List Qso). Holds R s first qs) (sym records_are)
            (subst (λ (n : ℕ). Holds R s n log.records) first_is (records_held R s log a.is_read));
        rules = all_ruled;
        all = a.count ∙ ap length (sym records_are);
        few = few_records;
        room = h;
        listings = l;
      }

  -- Too short a slice.
  pub refused_short : (slice : List ℕ) → length slice < records → Err (refusal 7 0 0) ≡ weighed_of R (length slice) s
  unfolding weighed_of weighed_by judge judge_reading judge_log
  refused_short slice h =
      let short : length slice < length log.records = omega (arith, a.count) in
      rw (a.is_read, lt-ltb (length slice) (length log.records) short)

  pub kept_short : (slice : List ℕ) → length slice < records → slice ≡ verdicts_afterwards R s slice
  unfolding judge judge_reading judge_log numbers_of_judgement over
  kept_short slice h =
      let short : length slice < length log.records = omega (arith, a.count) in
      rw (a.is_read, lt-ltb (length slice) (length log.records) short)

  -- Room enough.
  module _ (slice : List ℕ) (h : records ≤ length slice) where
    enough : ltb (length slice) (length log.records) ≡ false
    enough = le-ltb (length slice) (length log.records) (omega (arith, a.count))

    pub written_done : {t : Tally} {slice' modes : List ℕ} → Weighs R s slice t slice' modes → slice' ≡ verdicts_afterwards R s slice
    unfolding judge judge_reading judge_log numbers_of_judgement verdicts_of_log
    written_done w = w.written ∙ rw (a.is_read, enough) (ap (λ (qs : List Qso). over (numbers_of R qs) slice) records_are)

-- The totals are closed with what is declared.
module _ {R : Rules} {s : Text} {records first : ℕ} {heading : Heading} (a : Accepts R s records first heading) (slice : List ℕ) (h : records ≤ length slice) where
  claims_are : declared_at R s heading.claims ≡ declared_at R s (claims_start a.log)
  unfolding heading_in heading_of
  claims_are = ap (λ (h : Heading). declared_at R s h.claims) a.headed

  declared_are : as_declared (declared_at R s (claims_start a.log)) ≡ declared a.log
  unfolding as_declared
  declared_are =
      let d = declared_held R s a.log a.is_read in
      λ i.
      record {
        square_bonus = d.squarebonus i;
        square_multiplier = d.squaremultiplier i;
        exchange_bonus = d.exchangebonus i;
        exchange_multiplier = d.exchangemultiplier i;
        country_bonus = d.countrybonus i;
        country_multiplier = d.countrymultiplier i;
      }

  totals_are_lem : {t : Tally} {u : Totals} {d : Declared} {slice' modes : List ℕ} → Weighs R s slice t slice' modes → d ≡ declared_at R s heading.claims → u ≡ closing (tallied t modes) d → u ≡ totals_of_log R a.log
  unfolding totals_of_log totals
  totals_are_lem w e f =
      f
      ∙ (λ i. closing (w.totals i) ((e ∙ claims_are) i))
      ∙ closed_totals R (declared_at R s (claims_start a.log)) (records_of R s) (verdicts R (records_of R s)) (length_verdicts R (records_of R s)) (rules_kept a)
      ∙ (λ i. totals_of R (declared_are i) (records_are a i) (verdicts R (records_are a i)))

  pub done : {t : Tally} {u : Totals} {d : Declared} {slice' modes : List ℕ} → Weighs R s slice t slice' modes → d ≡ declared_at R s heading.claims → u ≡ closing (tallied t modes) d → Ok (record { totals = u; records = records; first = first; heading = heading }) ≡ weighed_of R (length slice) s
  unfolding weighed_of weighed_by judge judge_reading judge_log records_of_reading
  done w e f =
      rw (a.is_read, enough a slice h) (λ i. Ok (record { totals = totals_are_lem w e f i; records = a.count i; first = a.place i; heading = a.headed i }))

-- # From the reader's answer

-- Two answers of different kinds.
no_answer : {a : Accepted} {r : Refusal} → Err r ≡ Ok a → ⊥
no_answer e = let z : ◌≡◌ {A = ℕ} 0 1 = cc in omega arith

pub not_weighed : {w : Weighed} {r : Refusal} → ◌≡◌ {A = Result Weighed Refusal} (Err r) (Ok w) → ⊥
not_weighed e = let z : ◌≡◌ {A = ℕ} 0 1 = cc in omega arith

module _ (R : Rules) (s : Text) where
  pub accepts : {a : Accepted} → read_told (length s) (read R s) ≡ Ok a → Accepts R s a.records a.first a.heading
  unfolding read_told first_of heading_in
  accepts {a} = by (read R s) refl
    where
      by : (x : Reading) → read R s ≡ x → read_told (length s) x ≡ Ok a → Accepts R s a.records a.first a.heading
      by (accepted log) e f =
          let same : ◌≡◌ {A = Accepted} (record { records = length log.records; first = length s - length (ended (map record_line log.records)); heading = heading_of log }) a = cc in
          record {
            log = log;
            is_read = e;
            count = ap (λ (x : Accepted). x.records) (sym same);
            place = ap (λ (x : Accepted). x.first) (sym same);
            headed = ap (λ (x : Accepted). x.heading) (sym same);
          }
      by (refused r) e f = absurd (no_answer f)

  refuses : {r : Refusal} → read_told (length s) (read R s) ≡ Err r → read R s ≡ refused r
  unfolding read_told
  refuses {r} = by (read R s) refl
    where
      by : (x : Reading) → read R s ≡ x → read_told (length s) x ≡ Err r → read R s ≡ refused r
      by (accepted log) e f = absurd (no_answer (sym f))
      by (refused q) e f = let k : q ≡ r = cc in e ∙ ap refused k

  module _ (slice : List ℕ) {r : Refusal} (e : read_told (length s) (read R s) ≡ Err r) where
    pub refused_unread : Err r ≡ weighed_of R (length slice) s
    unfolding weighed_of weighed_by judge judge_reading
    refused_unread = rw (refuses e)

    pub kept_unread : slice ≡ verdicts_afterwards R s slice
    unfolding judge judge_reading numbers_of_judgement over
    kept_unread = rw (refuses e)

  -- The totals alone.
  module _ (room : ℕ) where
    pub totals_alone : {w : Weighed} → weighed_of R room s ≡ Ok w → Ok w.totals ≡ judged_of R room s
    unfolding weighed_of judged_of
    totals_alone {w} = by (judge R room s)
      where
        by : (j : Judgement) → weighed_by j (records_of_reading (read R s)) (first_of s (read R s)) (heading_in (read R s)) ≡ Ok w → Ok w.totals ≡ judged_by j
        by (judged u vs) e = let k : w.totals ≡ u = cc in ap Ok k
        by (unjudged r) e = absurd (not_weighed e)

    pub refusal_alone : {r : Refusal} → weighed_of R room s ≡ Err r → Err r ≡ judged_of R room s
    unfolding weighed_of judged_of
    refusal_alone {r} = by (judge R room s)
      where
        by : (j : Judgement) → weighed_by j (records_of_reading (read R s)) (first_of s (read R s)) (heading_in (read R s)) ≡ Err r → Err r ≡ judged_by j
        by (judged u vs) e = absurd (not_weighed (sym e))
        by (unjudged q) e = let k : r ≡ q = cc in ap Err k
