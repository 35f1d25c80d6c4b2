-- What a caller in C may rely on, of any log, any keyword number, any session, any link and any lent slice: demand 1 over the answers of include/sumpquince.h.
-- Assumes nothing.
use Rattle.std.specs.Prelude.{ℕ, ◌≤◌, ◌<◌, ◌≡◌, true, false, ◌↔◌, List, [], map, length, take, get_or}
use Rattle.rules.specs.declared.Refusal.{Refusal}
use Rattle.rules.specs.Text.{Text}
use Rattle.rules.specs.Rules.{base}
use Rattle.rules.specs.Arguments.{entries}
use Rattle.rules.specs.Log.{Log, keywords_of, render, IsWrittenAs, FollowsTheFormat}
use Rattle.rules.specs.Judging.{declared, zero_totals}
use Rattle.rules.specs.Writing.{written_back}
use Rattle.rules.specs.Reading.{accepted, refusal, read}
use Rattle.rules.specs.Answers.{view, judge, numbers_of_judgement, write, bytes_of_writing, over}
use Rattle.rules.specs.Mending.{mended_text, changes, mend, bytes_of_mending, kinds_of_mending, lines_of_mending}
use Rattle.rules.specs.Striking.{strike_out}
use Rattle.rules.specs.StrikingDemands.{result_of, JudgedBeforeAndAfter}
use Rattle.rules.specs.Demands.{sum_over}
use Rattle.rules.specs.Given.{LineAndField}
use Rattle.rules.specs.Session.{session, session_after}
use Rattle.rules.specs.Session.{Session as Records}
use Rattle.rules.specs.SessionDemands.{InRange}
use Rattle.rules.specs.Link.{Lent, is_short}
use Rattle.rules.specs.LinkDemands.{joined_all, Settled, announced_in, Suffice}
use Rattle.mender.specs.Answer.{rooms_of}
use Rattle.judge.specs.Count.{as_declared}
use Rattle.session.specs.declared.Session.{Session}
use Rattle.session.specs.Session.{started}
use Rattle.session.specs.Keeping.{Holding, room_of, Calling, starting as begins, call_of, replied_to, holding_after, holding_after_all, ToldFor}
use Rattle.link.specs.declared.Link.{Link}
use Rattle.link.specs.Link as Over
use Rattle.link.specs.Keeping.{opened, held_after, RefusedLeaves}
use Rattle.pad.specs.declared.SumpquinceRefusal.{SumpquinceRefusal}
use Rattle.pad.specs.declared.SumpquinceReading.{SumpquinceReading}
use Rattle.pad.specs.declared.SumpquinceView.{SumpquinceView}
use Rattle.pad.specs.declared.SumpquinceJudgement.{SumpquinceJudgement}
use Rattle.pad.specs.declared.SumpquinceWritten.{SumpquinceWritten}
use Rattle.pad.specs.declared.SumpquinceMended.{SumpquinceMended}
use Rattle.pad.specs.declared.SumpquinceDeclared.{SumpquinceDeclared}
use Rattle.pad.specs.Face.{refusal_face, reading_face, view_face, totals_face, judgement_face, written_face, mended_face, declared_face, session_face, closing_face}

-- The struct of a refusal, as document 01 has it.
abbrev pub refusal_in : SumpquinceRefusal → Refusal
refusal_in f = refusal f.number f.line f.field

-- The number is 0 exactly where the call is accepted.
abbrev pub Accepts : SumpquinceRefusal → Type 0
Accepts f = f.number ≡ 0

-- sumpquince_read: "A file is accepted exactly when it follows the format"; a refused log has no records, and none of its keywords is counted; of
-- an accepted one at most 36 are, and none exactly where all are spelt as they are listed.
pub record ToldByRead (s : Text) (r : SumpquinceReading) : Type 0 where
  pub accepted : Accepts r.refusal ↔ FollowsTheFormat base s
  pub place : LineAndField (refusal_in r.refusal)
  pub refused : (Accepts r.refusal → ⊥) → (r.records ≡ 0) × (r.respelt ≡ 0)
  pub respelt : r.respelt ≤ 36
  pub listed : (log : Log) → IsWrittenAs base s log → (r.respelt ≡ 0) ↔ (log.keywords ≡ keywords_of entries)

-- sumpquince_view: "A view .. is given only of an accepted log", for a keyword number from 1 to 36; a refused one is empty. The
-- keyword is spelt as it is listed, 1, or it is not, 0.
pub record ToldByView (s : Text) (k : ℕ) (v : SumpquinceView) : Type 0 where
  pub accepted : Accepts v.refusal ↔ ((1 ≤ k) × (k ≤ 36) × FollowsTheFormat base s)
  pub place : LineAndField (refusal_in v.refusal)
  pub refused : (Accepts v.refusal → ⊥) → (v.start ≡ 0) × (v.length ≡ 0) × (v.listed ≡ 0)
  pub listed : v.listed ≤ 1

-- sumpquince_judge, with the slice as it is handed over and as it is afterwards: an accepted log of no more records than the slice has bytes;
-- "the totals are then zero and lent memory is as it was handed over". Accepted or not, the eleven counts of modes add up to the credited ones.
pub record ToldByJudge (s : Text) (slice : List ℕ) (j : SumpquinceJudgement) (afterwards : List ℕ) : Type 0 where
  pub accepted :
      Accepts j.refusal ↔ ((log : Log) × IsWrittenAs base s log × (length log.records ≤ length slice))
  pub place : LineAndField (refusal_in j.refusal)
  pub refused :
      (Accepts j.refusal → ⊥) → (j ≡ totals_face j.refusal zero_totals) × (afterwards ≡ slice)
  pub modes : (length j.modes ≡ 11) × (sum_over 11 (λ k. get_or j.modes k 0) ≡ j.credited)

-- sumpquince_write, likewise: an accepted log whose result is no longer than a log may be, nor than the slice.
pub record ToldByWrite (s : Text) (slice : List ℕ) (w : SumpquinceWritten) (afterwards : List ℕ) : Type 0 where
  pub accepted :
      Accepts w.refusal
      ↔ ((log : Log)
      × IsWrittenAs base s log
      × (length (render (written_back base log)) ≤ base.longest_log)
      × (length (render (written_back base log)) ≤ length slice))
  pub place : LineAndField (refusal_in w.refusal)
  pub refused : (Accepts w.refusal → ⊥) → (w.length ≡ 0) × (afterwards ≡ slice)

-- sumpquince_strike, with a byte for each record that says whether it is struck: an accepted log of no more records than there are bytes, of which what is
-- left is no longer than the slice, and so wherever the slice has as many bytes as the log. What is written is what is left of it, and demand 3 holds of the
-- log and of the bytes at the front of the slice: what sumpquince_judge tells of the one and of the other.
pub record ToldByStrike (s : Text) (marks slice : List ℕ) (w : SumpquinceWritten) (afterwards : List ℕ) : Type 0 where
  pub accepted :
      Accepts w.refusal
      ↔ ((log : Log)
      × IsWrittenAs base s log
      × (length log.records ≤ length marks)
      × (length (result_of marks log) ≤ length slice))
  pub place : LineAndField (refusal_in w.refusal)
  pub refused : (Accepts w.refusal → ⊥) → (w.length ≡ 0) × (afterwards ≡ slice)
  pub roomy :
      (log : Log) →
      IsWrittenAs base s log →
      length log.records ≤ length marks →
      length s ≤ length slice →
      Accepts w.refusal
  pub struck : Accepts w.refusal → JudgedBeforeAndAfter base s (take w.length afterwards) marks

-- sumpquince_mend: an input no longer than a log may be, whose mended log follows the format, and slices that have room for that and for its list,
-- which are handed over; on a refusal each slice holds what it held.
abbrev pub ListFits : Text → List ℕ → List ℕ → Type 0
ListFits s kinds lines = (length (changes s) ≤ length kinds) × (length (changes s) ≤ length lines)

pub record ToldByMend (s : Text) (out kinds lines : List ℕ) (m : SumpquinceMended) (out' kinds' lines' : List ℕ) : Type 0 where
  pub accepted :
      Accepts m.refusal
      ↔ ((length s ≤ base.longest_log)
      × FollowsTheFormat base (mended_text s)
      × ListFits s kinds lines
      × (length (mended_text s) ≤ length out))
  pub place : LineAndField (refusal_in m.refusal)
  pub handed :
      Accepts m.refusal →
      (m.length ≡ length (mended_text s))
      × (m.changes ≡ length (changes s))
      × (out' ≡ over (mended_text s) out)
      × (kinds' ≡ over (map (λ c. c.kind) (changes s)) kinds)
      × (lines' ≡ over (map (λ c. c.line) (changes s)) lines)
  pub refused :
      (Accepts m.refusal → ⊥) →
      (m.length ≡ 0) × (m.changes ≡ 0) × (out' ≡ out) × (kinds' ≡ kinds) × (lines' ≡ lines)

-- sumpquince_session_start, _take and _give_back, with what the caller has before the call and afterwards, the session and the two slices: "Refusals,
-- session and its kept totals unchanged .., line 0". What a start declares goes by C's struct.
pub record ToldBySession (h : Holding) (c : Calling) (r : SumpquinceRefusal) (afterwards : Holding) : Type 0 where
  pub told : ToldFor c (refusal_in r)
  pub refused : (Accepts r → ⊥) → afterwards ≡ h

-- A start is accepted exactly where each of the six numbers is in its range.
pub record ToldByStart (d : SumpquinceDeclared) (r : SumpquinceRefusal) : Type 0 where
  pub accepted : Accepts r ↔ InRange base (as_declared (declared_face d))

-- sumpquince_session_totals: nothing is refused, and the eleven counts of modes add up to the credited ones, whatever the session is.
pub record ToldByTotals (j : SumpquinceJudgement) : Type 0 where
  pub accepted : Accepts j.refusal
  pub modes : (length j.modes ≡ 11) × (sum_over 11 (λ k. get_or j.modes k 0) ≡ j.credited)

-- The total on the pad's screen is the one of the log. After a start that is accepted and any calls: sumpquince_session_totals tells of the session what
-- sumpquince_judge tells of any log that has the records now present and declares the same, and the verdicts are those that it writes.
pub record AsTheLog (after : Holding) (s : Records) : Type 0 where
  pub screen :
      (t : Text) (log : Log) (slice : List ℕ) →
      read base t ≡ accepted log →
      log.records ≡ s.records →
      declared log ≡ s.declared →
      length s.records ≤ length slice →
      (session_face after.numbers ≡ judgement_face (judge base (length slice) t))
      × (take (length s.records) after.verdicts ≡ numbers_of_judgement (judge base (length slice) t))

-- sumpquince_link_open, then sumpquince_link_feed with each of these pieces: what the caller has, who lends the same two slices to each call.
abbrev pub came_over : List Text → List ℕ → List ℕ → Over.Holding
came_over ps verdicts worked = held_after base (Over.holding opened verdicts worked) ps

-- Then sumpquince_link_close.
abbrev pub closed_over : List Text → List ℕ → List ℕ → SumpquinceJudgement
closed_over ps verdicts worked =
    let h = came_over ps verdicts worked in
    closing_face (Over.close base (Over.lent_by h) h.link)

-- "After the closing call, classes, totals and refusal are those for the joined bytes, wherever they were cut": it tells what sumpquince_judge tells of
-- them, and the verdicts are those that it writes. "Two exceptions: number 1 comes at the 65,536th byte, unless the bytes before it already settle a
-- refusal; and a short slice is refused when the count line is read, before any record."
pub record AsJoinedUp (ps : List Text) (verdicts worked : List ℕ) : Type 0 where
  pub judges :
      let s = joined_all ps in
      length s ≤ base.longest_log →
      Suffice (Over.lent_of (length verdicts) (length worked)) (announced_in base s) →
      (closed_over ps verdicts worked ≡ judgement_face (judge base (length verdicts) s))
      × (Accepts (closed_over ps verdicts worked).refusal →
      (came_over ps verdicts worked).verdicts ≡ over (numbers_of_judgement (judge base (length verdicts) s)) verdicts)
  pub too_long :
      let s = joined_all ps in
      base.longest_log < length s →
      let front = take base.longest_log s in
      Suffice (Over.lent_of (length verdicts) (length worked)) (announced_in base front) →
      ((r : Refusal) → Settled base front r → refusal_in (closed_over ps verdicts worked).refusal ≡ r)
      × (((r : Refusal) → Settled base front r → ⊥) → refusal_in (closed_over ps verdicts worked).refusal ≡ refusal 1 0 0)
  pub too_short :
      let front = take base.longest_log (joined_all ps) in
      is_short (Over.lent_of (length verdicts) (length worked)) (announced_in base front) ≡ true →
      refusal_in (closed_over ps verdicts worked).refusal ≡ refusal 7 0 0
  pub place : LineAndField (refusal_in (closed_over ps verdicts worked).refusal)

-- sumpquince_link_close, of any link: "the totals are then zero", and "the state keeps the refusal". Accepted or not, the eleven counts of modes add
-- up to the credited ones.
pub record ToldByClosing (j : SumpquinceJudgement) (afterwards : Link) : Type 0 where
  pub refused :
      (Accepts j.refusal → ⊥) → (j ≡ totals_face j.refusal zero_totals) × (refusal_face afterwards.refusal ≡ j.refusal)
  pub modes : (length j.modes ≡ 11) × (sum_over 11 (λ k. get_or j.modes k 0) ≡ j.credited)

-- sumpquince_link_feed and _close, of any link whose own refusal has line and field as document 01 has them: so has the one that they tell.
pub record PlacedOver (h : Over.Holding) : Type 0 where
  pub feeding : (s : Text) → LineAndField (refusal_in (refusal_face (Over.feed base h s).link.refusal))
  pub closing : (lent : Lent) → LineAndField (refusal_in (closing_face (Over.close base lent h.link)).refusal)

-- The answers and the slices are those of the contracts of src/lib.rt.
pub record ForTheCaller : Type 0 where
  pub reading : (s : Text) → ToldByRead s (reading_face (read base s))
  pub viewing : (s : Text) (k : ℕ) → ToldByView s k (view_face (view base k s))
  pub judging :
      (s : Text) (slice : List ℕ) →
      ToldByJudge s slice
      (judgement_face (judge base (length slice) s))
      (over (numbers_of_judgement (judge base (length slice) s)) slice)
  pub writing :
      (s : Text) (slice : List ℕ) →
      ToldByWrite s slice
      (written_face (write base (length slice) s))
      (over (bytes_of_writing (write base (length slice) s)) slice)
  pub striking :
      (s : Text) (marks slice : List ℕ) →
      ToldByStrike s marks slice
      (written_face (strike_out base (length slice) marks s))
      (over (bytes_of_writing (strike_out base (length slice) marks s)) slice)
  pub mending :
      (s : Text) (out kinds lines : List ℕ) →
      ToldByMend s out kinds lines
      (mended_face (mend base (rooms_of out kinds lines) s))
      (over (bytes_of_mending (mend base (rooms_of out kinds lines) s)) out)
      (over (kinds_of_mending (mend base (rooms_of out kinds lines) s)) kinds)
      (over (lines_of_mending (mend base (rooms_of out kinds lines) s)) lines)
  pub calling :
      (h : Holding) (c : Calling) →
      ToldBySession h c (refusal_face (replied_to base h c).refusal) (holding_after base h c)
  pub starting :
      (s : Session) (d : SumpquinceDeclared) →
      ToldByStart d (refusal_face (started base s (declared_face d)).refusal)
  pub totalling : (s : Session) → ToldByTotals (session_face s)
  pub on_the_screen :
      (h : Holding) (d : SumpquinceDeclared) (cs : List Calling) →
      InRange base (as_declared (declared_face d)) →
      AsTheLog
      (holding_after_all base (holding_after base h (begins (declared_face d))) cs)
      (session_after base (room_of h) (session (as_declared (declared_face d)) []) (map call_of cs))
  pub over_the_link : (ps : List Text) (verdicts worked : List ℕ) → AsJoinedUp ps verdicts worked
  pub refused_link : (h : Over.Holding) → Over.is_open h.link ≡ false → RefusedLeaves base h
  pub closing_link :
      (verdicts worked : List ℕ) (s : Link) →
      let c = Over.close base (Over.lent_of (length verdicts) (length worked)) s in
      ToldByClosing (closing_face c) c.link
  pub placed_link : (h : Over.Holding) → LineAndField h.link.refusal → PlacedOver h
