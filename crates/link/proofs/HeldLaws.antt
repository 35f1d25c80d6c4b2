-- What stands between two bytes: the state that a caller keeps and the link of the rules, part by part.
-- Assumes nothing.
use Prim.Native.Nat.{ℕ, suc, ◌+◌, ◌*◌, ◌≤◌, ◌<◌}
use native.Mathlib.Omega.{arith}
use native.Mathlib.Nat.{mul-le-mul_right}
use mathlib.Core.Path.{◌≡◌, refl, sym, ap, ◌∙◌}
use mathlib.Core.Bool.{Bool, true, false, not, ◌||◌}
use mathlib.Core.List.{List, [], map}
use lib.Dec.{eqb, ltb}
use lib.ListN.{length, take, length-map}
use borrow.Author.Tests.{ltb-false}
use Rattle.rules.specs.declared.Refusal.{Refusal}
use Rattle.rules.specs.declared.Due.{Due}
use Rattle.rules.specs.Text.{Text}
use Rattle.rules.specs.Rules.{Rules}
use Rattle.rules.specs.Fields.{Qso}
use Rattle.rules.specs.Log.{record_rules}
use Rattle.rules.specs.Judging.{verdict_number, verdicts_of_log}
use Rattle.rules.specs.Judging.{verdicts as judged}
use Rattle.rules.specs.Reading.{refusal}
use Rattle.rules.specs.Answers.{over}
use Rattle.rules.specs.Link.{Lent, worked_bytes, is_short, link_verdicts, log_of}
use Rattle.rules.specs.Link as Asked
use Rattle.rules.proofs.Tests.{clash}
use Rattle.rules.proofs.Classes.{length_verdicts}
use Rattle.judge.specs.declared.Counts.{Counts}
use Rattle.judge.specs.Narrow.{totals_in}
use Rattle.session.specs.Entry.{bytes_of}
use Rattle.session.proofs.ComeLaws.{came_to}
use Rattle.session.proofs.JudgedLaws.{length_bytes}
use Rattle.link.specs.declared.Rated.{Rated}
use Rattle.link.specs.declared.Link.{Link}
use Rattle.link.specs.Link.{Holding, holding, no_line, stopped_by, stopped, line_of, due_of, announced, lent_of, lent_by}
use Rattle.link.specs.Keeping.{FitsLink, Keeps, worked_of}
use Rattle.link.proofs.LogGrows.{records_of, arguments_of}
use Rattle.link.proofs.SliceLaid.{over_length}
use Rattle.link.proofs.RatesHeld.{Declares}
use Rattle.link.proofs.DueLaws.{Staged, Ahead, due_told, announced_told, staged_few}

-- # The parts

-- So many bytes are counted by the state, and some of them are yet to come; there are no more lines than bytes that came.
pub record CountHeld (R : Rules) (total left came finished : ℕ) (count lines : ℕ) : Type 0 where
  pub count_is : count ≡ total
  pub comes : came + left ≡ total
  pub within : total ≤ R.longest_log
  pub lines_are : lines ≡ finished
  pub lines_few : finished ≤ came

-- The unfinished line stands in front of 75 bytes, and a number tells of its CR.
pub record LineHeld (R : Rules) (begun : Text) (behind : Bool) (held returned : ℕ) (line : List ℕ) : Type 0 where
  pub held_is : held ≡ length begun
  pub begun_is : take held line ≡ begun
  pub long : length line ≡ 75
  pub short : length begun ≤ R.longest_line
  pub returned_is : not (eqb returned 0) ≡ behind

-- A line is taken, and nothing of the next one came.
pub count_next : {R : Rules} {total left came finished count lines : ℕ} → CountHeld R total left came finished count lines → finished < came → CountHeld R total left came (suc finished) count (lines + 1)
count_next c room =
    record {
      count_is = c.count_is;
      comes = c.comes;
      within = c.within;
      lines_are = omega (arith, c.lines_are);
      lines_few = omega (arith, room);
    }

pub line_none : (R : Rules) → LineHeld R [] false 0 0 no_line
line_none R = record { held_is = refl; begun_is = refl; long = refl; short = omega arith; returned_is = refl }

-- The numbers are those of the records and of the arguments so far, and what is due stands by them.
pub record LogHeld (R : Rules) (lent : Lent) (due : Due) (n : ℕ) (qs : List Qso) (ts : List Text) (stage records done points : ℕ) (counts : Counts) (rated : Rated) : Type 0 where
  pub staged : Staged due stage records done (length qs) n
  pub ahead : Ahead R due (length ts)
  pub few : n ≤ R.most_records
  pub fit : is_short lent n ≡ false
  pub ruled : record_rules R qs ≡ true
  pub sums : totals_in points counts ≡ came_to R qs
  pub rates : Declares R ts rated

module _ {R : Rules} (F : FitsLink R) (verdicts worked : List ℕ) where
  -- What is lent to each call.
  abbrev pub lent : Lent
  lent = lent_of (length verdicts) (length worked)

  -- The state of a link that does not refuse.
  pub record Open (total left : ℕ) (k : Asked.Link) (s : Link) : Type 0 where
    pub bytes : CountHeld R total left k.count (length k.finished) s.count s.lines
    pub line : LineHeld R k.begun k.returned s.held s.returned s.line
    pub log : LogHeld R lent k.due k.announced (records_of k) (arguments_of k) s.stage s.records s.done s.points s.counts s.rated

  -- What a caller has of a link, whether it refuses or not.
  pub record Kept (total left : ℕ) (k : Asked.Link) (h : Holding) : Type 0 where
    pub keeps : Keeps R k verdicts worked h
    pub unless : Asked.is_open k ≡ true → Open total left k h.link

  -- # What the numbers tell

  module _ {total left : ℕ} {k : Asked.Link} {s : Link} (o : Open total left k s) where
    pub due_same : due_of s ≡ k.due
    due_same = due_told k.due s.stage s.records s.done (length (records_of k)) k.announced o.log.staged

    pub announced_same : announced s ≡ k.announced
    unfolding announced
    announced_same = announced_told k.due s.stage s.records s.done (length (records_of k)) k.announced o.log.staged

    pub records_few : length (records_of k) ≤ k.announced
    records_few = staged_few k.due s.stage s.records s.done (length (records_of k)) k.announced o.log.staged

  -- # What is written

  -- It rests on the records alone.
  pub verdicts_of : (k : Asked.Link) → link_verdicts R k ≡ map verdict_number (judged R (records_of k))
  unfolding link_verdicts verdicts_of_log
  verdicts_of k = refl

  pub worked_of_lem : (k : Asked.Link) → worked_of R k ≡ bytes_of R worked_bytes (records_of k) (judged R (records_of k))
  unfolding worked_of verdicts_of_log
  worked_of_lem k = refl

  -- Verdicts are as many as the records, and of each there are 24 bytes.
  pub verdicts_long : (k : Asked.Link) → length (link_verdicts R k) ≡ length (records_of k)
  verdicts_long k =
      ap length (verdicts_of k) ∙ length-map (judged R (records_of k)) verdict_number ∙ length_verdicts R (records_of k)

  pub worked_long : (k : Asked.Link) → record_rules R (records_of k) ≡ true → length (worked_of R k) ≡ length (records_of k) * worked_bytes
  worked_long k ruled =
      ap length (worked_of_lem k)
      ∙ length_bytes F.bytes worked_bytes (omega arith) (omega arith) (records_of k) (judged R (records_of k)) ruled (length_verdicts R (records_of k))

  -- A state of the same records keeps what this one does, unless less is announced.
  pub keeps_same : (k j : Asked.Link) → records_of k ≡ records_of j → (h : Holding) (s : Link) → s.refusal ≡ j.refusal → k.announced ≤ j.announced → Keeps R k verdicts worked h → Keeps R j verdicts worked (holding s h.verdicts h.worked)
  keeps_same k j same h s e more keeps =
      let said : link_verdicts R k ≡ link_verdicts R j =
      verdicts_of k ∙ ap (λ (qs : List Qso). map verdict_number (judged R qs)) same ∙ sym (verdicts_of j) in
      let bytes : worked_of R k ≡ worked_of R j =
      worked_of_lem k ∙ ap (λ (qs : List Qso). bytes_of R worked_bytes qs (judged R qs)) same ∙ sym (worked_of_lem j) in
      record {
        refusal_is = e;
        verdicts_are = keeps.verdicts_are ∙ ap (λ (t : Text). over t verdicts) said;
        worked_is = keeps.worked_is ∙ ap (λ (t : Text). over t worked) bytes;
        verdicts_within = omega (arith, keeps.verdicts_within, ap length said, more);
        worked_within = omega (arith, keeps.worked_within, ap length bytes, mul-le-mul_right worked_bytes more);
      }

  -- A refusal: what was written stays.
  pub kept_stopped : (total left : ℕ) (k : Asked.Link) (h : Holding) (r q : Refusal) → r ≡ q → eqb r.number 0 ≡ false → Keeps R k verdicts worked h → Kept total left (Asked.stopped k r) (stopped h q)
  unfolding Asked.stopped stopped stopped_by log_of
  kept_stopped total left k h r q e z keeps =
      record {
        keeps = keeps_same k (Asked.stopped k r) refl h (stopped_by q) (sym e) (omega arith) keeps;
        unless = λ o. clash o z;
      }

  pub stops_here : (total left : ℕ) (k : Asked.Link) (h : Holding) → Keeps R k verdicts worked h → Open total left k h.link → (number field : ℕ) → eqb number 0 ≡ false → Kept total left (Asked.stopped k (refusal number (Asked.line_of k) field)) (stopped h (refusal number (line_of h.link) field))
  stops_here total left k h keeps o number field z =
      kept_stopped total left k h (refusal number (Asked.line_of k) field) (refusal number (line_of h.link) field)
      (ap (λ (n : ℕ). refusal number (n + 1) field) (sym o.bytes.lines_are)) z keeps

  -- # The slices

  -- They have room for all that is announced, and so they are as long as they were lent.
  pub rooms : (n : ℕ) → is_short lent n ≡ false → (n ≤ length verdicts) × (n * worked_bytes ≤ length worked)
  unfolding is_short
  rooms n e =
      let a = ltb (length verdicts) n in
      let b = ltb (length worked) (n * worked_bytes) in
      (ltb-false (length verdicts) n (neither_l a b e), ltb-false (length worked) (n * worked_bytes) (neither_r a b e))
    where
      neither_l : (a b : Bool) → (a || b) ≡ false → a ≡ false
      neither_l true b e = e
      neither_l false b e = refl

      neither_r : (a b : Bool) → (a || b) ≡ false → b ≡ false
      neither_r true b e = clash refl e
      neither_r false b e = e

  pub lent_same : (k : Asked.Link) (h : Holding) → Keeps R k verdicts worked h → is_short lent k.announced ≡ false → lent_by h ≡ lent
  lent_same k h keeps fit =
      let room = rooms k.announced fit in
      let first : length h.verdicts ≡ length verdicts =
      ap length keeps.verdicts_are ∙ over_length (link_verdicts R k) verdicts (omega (arith, keeps.verdicts_within, room.0)) in
      let second : length h.worked ≡ length worked =
      ap length keeps.worked_is ∙ over_length (worked_of R k) worked (omega (arith, keeps.worked_within, room.1)) in
      λ i. lent_of (first i) (second i)
