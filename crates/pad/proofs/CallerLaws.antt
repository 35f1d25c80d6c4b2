-- What a caller in C may rely on: the refusal of each answer is the one of the definition, so what is proved of all calls holds of it.
-- Assumes nothing.
use Prim.Native.Nat.{ℕ, ◌≤◌, ◌<◌}
use native.Mathlib.Omega.{arith}
use mathlib.Core.Bool.{Bool, true, false, cond}
use mathlib.Core.Logic.{◌↔◌, inl, inr, ⊎_elim}
use mathlib.Core.Path.{◌≡◌, refl, sym, ap, subst, ◌∙◌}
use mathlib.Core.List.{List, [], map}
use lib.Dec.{leb}
use lib.ListN.{length, take, drop, get_or, length-map}
use lib.Seq.{take-append_seam}
use borrow.Author.Tests.{leb-true, leb-false}
use Rattle.rules.specs.Text.{Text}
use Rattle.rules.specs.Rules.{base}
use Rattle.rules.specs.declared.Refusal.{Refusal}
use Rattle.rules.specs.declared.Totals.{Totals}
use Rattle.rules.specs.Judging.{verdict_number, verdicts_of_log, mode_numbers, modes_together, zero_totals}
use Rattle.rules.specs.Demands.{sum_over, AddUp}
use Rattle.rules.specs.Reading.{Reading, accepted, refused, read, refusal, at_rest}
use Rattle.rules.specs.Answers.{no_refusal, refusal_of_judgement, respelt_of_reading, Viewing, seen, unseen, view, listed_of_view, Judgement, judged, unjudged, judge, totals_of_judgement, numbers_of_judgement, Writing, written, unwritten, write, bytes_of_writing, over}
use Rattle.rules.proofs.Format.{accepted_when_written}
use Rattle.rules.proofs.Refusals.{refused_reading}
use Rattle.rules.proofs.ModeLaws.{modes_add_up_lem}
use Rattle.rules.proofs.Respelt.{spellings_counted}
use Rattle.rules.proofs.GivenCalls.{given_exactly_when_lem, zero_when_accepted_lem, line_and_field_told}
use Rattle.rules.specs.Given.{LineAndField}
use Rattle.rules.specs.Striking.{strike_out}
use Rattle.rules.specs.StrikingDemands.{JudgedBeforeAndAfter}
use Rattle.rules.proofs.StrikingGiven.{given_by_striking}
use Rattle.rules.proofs.StrikingBytes.{striking_rule_in_bytes, no_longer_lem}
use Rattle.rules.specs.Mending.{Mending, mended, unmended, mended_text, changes, mend, bytes_of_mending, kinds_of_mending, lines_of_mending}
use Rattle.rules.specs.MendingDemands.{ListIsTooLong}
use Rattle.rules.proofs.MendingGiven.{given_by_mending, mend_all}
use Rattle.rules.specs.Session.{session, declared_rule, session_after}
use Rattle.rules.specs.SessionDemands.{InRange}
use Rattle.rules.proofs.AllProved.{the_base_session, the_base_link}
use Rattle.rules.specs.Log.{Log}
use Rattle.rules.specs.Link.{Lent, is_short, log_of, link_verdicts}
use Rattle.rules.specs.Link as Asked
use Rattle.rules.specs.LinkDemands.{joined_all, fed, closing, SaysAs}
use Rattle.rules.proofs.Tests.{clash}
use Rattle.rules.proofs.SessionLaws.{in_range, range_kept}
use Rattle.mender.specs.Answer.{rooms_of}
use Rattle.judge.specs.Count.{as_declared}
use Rattle.session.specs.declared.Session.{Session}
use Rattle.session.specs.declared.Replied.{Replied}
use Rattle.session.specs.Session.{totals_now, started, refused_by}
use Rattle.session.specs.Keeping.{Holding, room_of, Calling, starting, call_of, replied_to, holding_after, holding_after_all}
use Rattle.session.proofs.KeepingLaws.{started_not, started_anew, the_base_session_keeps}
use Rattle.link.specs.declared.Closing.{Closing}
use Rattle.link.specs.declared.Link.{Link}
use Rattle.link.specs.Link as Over
use Rattle.link.specs.Keeping.{KeptAsFed}
use Rattle.link.proofs.FedLaws.{the_link_keeps, base_fits}
use Rattle.pad.specs.declared.SumpquinceDeclared.{SumpquinceDeclared}
use Rattle.pad.specs.Face.{refusal_face, one_if, reading_face, view_face, totals_face, judgement_face, written_face, mended_face, declared_face, session_face, closing_face}
use Rattle.pad.specs.Caller.{refusal_in, Accepts, came_over, closed_over, AsJoinedUp, ToldByRead, ToldByView, ToldByJudge, ToldByWrite, ToldByStrike, ListFits, ToldByMend, ToldBySession, ToldByStart, ToldByTotals, AsTheLog, ToldByClosing, PlacedOver, ForTheCaller}

-- # What a refused call leaves

no_records : (r : Reading) → (Accepts (reading_face r).refusal → ⊥) → ((reading_face r).records ≡ 0) × ((reading_face r).respelt ≡ 0)
unfolding reading_face
no_records (accepted log) h = absurd (h refl)
no_records (refused r) h = (refl, refl)

-- How many keywords are respelt, of an accepted log and of a refused one.
few_respelt : (s : Text) (r : Reading) → read base s ≡ r → respelt_of_reading (read base s) ≤ 36
few_respelt s (accepted log) e = (spellings_counted base s log e).few
few_respelt s (refused r) e = omega (arith, (refused_reading base s r e).1)

no_view : (v : Viewing) → (Accepts (view_face v).refusal → ⊥) → ((view_face v).start ≡ 0) × ((view_face v).length ≡ 0) × ((view_face v).listed ≡ 0)
unfolding view_face
no_view (seen start t listed) h = absurd (h refl)
no_view (unseen r) h = (refl, refl, refl)

one_at_most : (b : Bool) → one_if b ≤ 1
one_at_most true = omega arith
one_at_most false = omega arith

no_judgement : (j : Judgement) (slice : List ℕ) → (Accepts (judgement_face j).refusal → ⊥) → (judgement_face j ≡ totals_face (judgement_face j).refusal zero_totals) × (over (numbers_of_judgement j) slice ≡ slice)
unfolding judgement_face numbers_of_judgement over
no_judgement (judged t vs) slice h = absurd (h refl)
no_judgement (unjudged r) slice h = (refl, refl)

-- The eleven counts, as the struct has them.
modes_told : (t : Totals) → AddUp t → (length (mode_numbers t.modes) ≡ 11) × (sum_over 11 (λ k. get_or (mode_numbers t.modes) k 0) ≡ t.credited)
unfolding mode_numbers sum_over modes_together
modes_told t e = (refl, omega (arith, e))

no_writing : (w : Writing) (slice : List ℕ) → (Accepts (written_face w).refusal → ⊥) → ((written_face w).length ≡ 0) × (over (bytes_of_writing w) slice ≡ slice)
unfolding written_face bytes_of_writing over
no_writing (written t) slice h = absurd (h refl)
no_writing (unwritten r) slice h = (refl, refl)

no_mending : (m : Mending) (out kinds lines : List ℕ) → (Accepts (mended_face m).refusal → ⊥) → ((mended_face m).length ≡ 0) × ((mended_face m).changes ≡ 0) × (over (bytes_of_mending m) out ≡ out) × (over (kinds_of_mending m) kinds ≡ kinds) × (over (lines_of_mending m) lines ≡ lines)
unfolding mended_face bytes_of_mending kinds_of_mending lines_of_mending over
no_mending (mended t cs) out kinds lines h = absurd (h refl)
no_mending (unmended r) out kinds lines h = (refl, refl, refl, refl, refl)

-- # Each call

told_by_read : (s : Text) → ToldByRead s (reading_face (read base s))
unfolding reading_face
told_by_read s =
    record {
      accepted = (zero_when_accepted_lem base).reading s;
      place = (line_and_field_told base).reading s;
      refused = no_records (read base s);
      respelt = few_respelt s (read base s) refl;
      listed = λ log w. (spellings_counted base s log ((accepted_when_written base s log).1 w)).none;
    }

told_by_view : (s : Text) (k : ℕ) → ToldByView s k (view_face (view base k s))
unfolding view_face
told_by_view s k =
    record {
      accepted = (zero_when_accepted_lem base).viewing s k;
      place = (line_and_field_told base).viewing s k;
      refused = no_view (view base k s);
      listed = one_at_most (listed_of_view (view base k s));
    }

told_by_judge : (s : Text) (slice : List ℕ) → ToldByJudge s slice (judgement_face (judge base (length slice) s)) (over (numbers_of_judgement (judge base (length slice) s)) slice)
unfolding judgement_face totals_face
told_by_judge s slice =
    record {
      accepted = (zero_when_accepted_lem base).judging s (length slice);
      place = (line_and_field_told base).judging s (length slice);
      refused = no_judgement (judge base (length slice) s) slice;
      modes = modes_told (totals_of_judgement (judge base (length slice) s)) ((modes_add_up_lem base).of_answers s (length slice));
    }

told_by_write : (s : Text) (slice : List ℕ) → ToldByWrite s slice (written_face (write base (length slice) s)) (over (bytes_of_writing (write base (length slice) s)) slice)
unfolding written_face base
told_by_write s slice =
    record {
      accepted = (zero_when_accepted_lem base).writing s (length slice);
      place = (line_and_field_told base).writing s (length slice);
      refused = no_writing (write base (length slice) s) slice;
    }

-- What was written stands at the front of the slice.
struck_told : (s : Text) (marks slice : List ℕ) (w : Writing) → strike_out base (length slice) marks s ≡ w → Accepts (written_face w).refusal → JudgedBeforeAndAfter base s (take (written_face w).length (over (bytes_of_writing w) slice)) marks
unfolding written_face bytes_of_writing over
struck_told s marks slice (written t) e h =
    rw (take-append_seam t (drop (length t) slice)) (striking_rule_in_bytes base s t marks (length slice) e)
struck_told s marks slice (unwritten r) e h =
    let unread = ((given_by_striking base s marks (length slice)).striking_else r (λ k. omega (arith, h, k)) (λ k. omega (arith, h, k))).0 e in
    absurd (omega (arith, h, ((given_exactly_when_lem base).reading.no_other s r unread).0))

told_by_strike : (s : Text) (marks slice : List ℕ) → ToldByStrike s marks slice (written_face (strike_out base (length slice) marks s)) (over (bytes_of_writing (strike_out base (length slice) marks s)) slice)
unfolding written_face
told_by_strike s marks slice =
    let g = given_by_striking base s marks (length slice) in
    record {
      accepted = g.zero;
      place = g.line_and_field;
      refused = no_writing (strike_out base (length slice) marks s) slice;
      roomy = λ log w h k.
          g.zero.1 (log, w, h, omega (arith, no_longer_lem base s log marks ((accepted_when_written base s log).1 w), k));
      struck = struck_told s marks slice (strike_out base (length slice) marks s) refl;
    }

at_most : (a b : ℕ) → (b < a → ⊥) → a ≤ b
at_most a b h = by (leb a b) refl
  where
    by : (t : Bool) → leb a b ≡ t → a ≤ b
    by true e = leb-true a b e
    by false e = absurd (h (leb-false a b e))

-- A list fits where it is not too long for either slice.
not_too_long : (s : Text) (out kinds lines : List ℕ) → (ListIsTooLong (rooms_of out kinds lines) s → ⊥) ↔ ListFits s kinds lines
not_too_long s out kinds lines = (
  λ h. (at_most (length (changes s)) (length kinds) (λ k. h (inl k)), at_most (length (changes s)) (length lines) (λ k. h (inr k))),
  λ f k. ⊎_elim (λ (x : length kinds < length (changes s)). omega (arith, f.0)) (λ (x : length lines < length (changes s)). omega (arith, f.1)) k,
)

-- What is handed over.
handed_to : (m : Mending) (s : Text) (out kinds lines : List ℕ) → m ≡ mended (mended_text s) (changes s) → ((mended_face m).length ≡ length (mended_text s)) × ((mended_face m).changes ≡ length (changes s)) × (over (bytes_of_mending m) out ≡ over (mended_text s) out) × (over (kinds_of_mending m) kinds ≡ over (map (λ c. c.kind) (changes s)) kinds) × (over (lines_of_mending m) lines ≡ over (map (λ c. c.line) (changes s)) lines)
unfolding mended_face bytes_of_mending kinds_of_mending lines_of_mending
handed_to m s out kinds lines e = rw e (refl, length-map (changes s) (λ c. c.kind), refl, refl, refl)

told_by_mend : (s : Text) (out kinds lines : List ℕ) → ToldByMend s out kinds lines (mended_face (mend base (rooms_of out kinds lines) s)) (over (bytes_of_mending (mend base (rooms_of out kinds lines) s)) out) (over (kinds_of_mending (mend base (rooms_of out kinds lines) s)) kinds) (over (lines_of_mending (mend base (rooms_of out kinds lines) s)) lines)
unfolding mended_face
told_by_mend s out kinds lines =
    let rooms = rooms_of out kinds lines in
    let g = given_by_mending base s rooms in
    let fit = not_too_long s out kinds lines in
    record {
      accepted = (λ a. let z = g.zero.0 a in (z.0, z.1, fit.0 z.2, z.3), λ b. g.zero.1 (b.0, b.1, fit.1 b.2, b.3));
      place = g.line_and_field;
      handed = λ a. let z = g.zero.0 a in handed_to (mend base rooms s) s out kinds lines (mend_all base rooms s z.0 z.1 z.2 z.3);
      refused = no_mending (mend base rooms s) out kinds lines;
    }

-- # The session

told_by_session : (h : Holding) (c : Calling) → ToldBySession h c (refusal_face (replied_to base h c).refusal) (holding_after base h c)
unfolding refusal_face
told_by_session h c =
    record {
      told = the_base_session_keeps.refused_by_number h c;
      refused = the_base_session_keeps.refused_leaves h c;
    }

told_by_start : (s : Session) (d : SumpquinceDeclared) → ToldByStart d (refusal_face (started base s (declared_face d)).refusal)
unfolding refusal_face refused_by
told_by_start s d = by (declared_rule base (as_declared (declared_face d))) refl
  where
    by : (b : Bool) → declared_rule base (as_declared (declared_face d)) ≡ b → ToldByStart d (refusal_face (started base s (declared_face d)).refusal)
    by true e =
        record {
          accepted = (
            λ a. in_range base (as_declared (declared_face d)) e,
            λ r. ap (λ (x : Replied). x.refusal.number) (started_anew base s (declared_face d) e),
          );
        }
    by false e =
        record {
          accepted = (
            λ a. let z : ◌≡◌ {A = ℕ} 4 0 = sym (ap (λ (x : Replied). x.refusal.number) (started_not base s (declared_face d) e)) ∙ a in absurd (omega arith),
            λ r. clash (range_kept base (as_declared (declared_face d)) r) e,
          );
        }

told_by_totals : (s : Session) → ToldByTotals (session_face s)
unfolding session_face totals_face refusal_face no_refusal
told_by_totals s =
    record { accepted = refl; modes = modes_told (totals_now base s) (the_base_session_keeps.kept_modes_add_up s) }

on_the_screen_lem : (h : Holding) (d : SumpquinceDeclared) (cs : List Calling) → InRange base (as_declared (declared_face d)) →
    AsTheLog
    (holding_after_all base (holding_after base h (starting (declared_face d))) cs)
    (session_after base (room_of h) (session (as_declared (declared_face d)) []) (map call_of cs))
unfolding session_face judgement_face refusal_of_judgement totals_of_judgement numbers_of_judgement
on_the_screen_lem h d cs r =
    let a = (the_base_session_keeps.kept_as_judged h (declared_face d) cs (range_kept base (as_declared (declared_face d)) r)).0 in
    record {
      screen = λ t log slice e records numbers n.
          let s = session_after base (room_of h) (session (as_declared (declared_face d)) []) (map call_of cs) in
          let j = the_base_session.kept_is_judged s t log (length slice) e records numbers n in (
            ap (totals_face (refusal_face no_refusal)) a.totals_are ∙ sym (ap judgement_face j),
            a.verdicts_are ∙ sym (ap numbers_of_judgement j),
          );
    }

-- # Over the link

-- Closing adds no verdict and drops none.
module _ (lent : Lent) where
  asked_same : (k : Asked.Link) → log_of (Asked.asked lent k) ≡ log_of k
  unfolding Asked.asked Asked.if_long Asked.stopped log_of
  asked_same k = by (Asked.is_open k) (is_short lent k.announced)
    where
      by : (a b : Bool) → log_of (cond a (cond b (Asked.stopped k (refusal 7 0 0)) k) k) ≡ log_of k
      by true true = refl
      by true false = refl
      by false b = refl

  closed_same : (k : Asked.Link) → link_verdicts base (Asked.closed_if base k).link ≡ link_verdicts base k
  unfolding Asked.closed_if link_verdicts log_of
  closed_same k = by (Asked.is_open k) (at_rest k.due (Asked.line_of k) (Asked.rest_of k))
    where
      by : (a : Bool) (r : Reading) → link_verdicts base (cond a (Asked.closed_by base k r) (record { link = k; refusal = k.refusal; totals = zero_totals })).link ≡ link_verdicts base k
      by true (accepted log) = unfold Asked.closed_by Asked.stopped in refl
      by true (refused r) = unfold Asked.closed_by Asked.stopped in refl
      by false r = refl

  verdicts_same : (k : Asked.Link) → link_verdicts base (Asked.close base lent k).link ≡ link_verdicts base k
  unfolding Asked.close link_verdicts
  verdicts_same k =
      closed_same (Asked.asked lent k) ∙ ap (λ (log : Log). map verdict_number (verdicts_of_log base log)) (asked_same k)

module _ (ps : List Text) (verdicts worked : List ℕ) where
  abbrev lends : Lent
  lends = Over.lent_of (length verdicts) (length worked)

  abbrev joined : Text
  joined = joined_all ps

  keeps : KeptAsFed base verdicts worked ps
  keeps = (the_link_keeps base base_fits).kept_as_fed verdicts worked ps

  cut : Asked.fed_all base lends Asked.opened ps ≡ fed base lends joined
  cut = (the_base_link.cut_anywhere lends).any ps

  abbrev closes : Closing
  closes = let h = came_over ps verdicts worked in Over.close base (Over.lent_by h) h.link

  refusal_is_lem : closes.refusal ≡ (closing base lends joined).refusal
  refusal_is_lem = keeps.closes.0 ∙ ap (λ (k : Asked.Link). (Asked.close base lends k).refusal) cut

  totals_are_lem : closes.totals ≡ (closing base lends joined).totals
  totals_are_lem = keeps.closes.1 ∙ ap (λ (k : Asked.Link). (Asked.close base lends k).totals) cut

  refusal_told : refusal_in (closed_over ps verdicts worked).refusal ≡ (closing base lends joined).refusal
  unfolding closing_face totals_face refusal_face
  refusal_told = refusal_is_lem

  module _ (j : Judgement) (said : SaysAs base (closing base lends joined) j) where
    answer_told : closed_over ps verdicts worked ≡ judgement_face j
    unfolding closing_face judgement_face
    answer_told = λ i. totals_face (refusal_face ((refusal_is_lem ∙ said.refusal) i)) ((totals_are_lem ∙ said.totals) i)

    classes_told : Accepts (closed_over ps verdicts worked).refusal → (came_over ps verdicts worked).verdicts ≡ over (numbers_of_judgement j) verdicts
    classes_told a =
        let number : (closing base lends joined).refusal.number ≡ 0 = ap (λ (r : Refusal). r.number) (sym refusal_told) ∙ a in
        keeps.held.verdicts_are
        ∙ ap (λ (l : List ℕ). over l verdicts) (ap (link_verdicts base) cut ∙ sym (verdicts_same lends (fed base lends joined)) ∙ said.classes number)

  placed : LineAndField (closing base lends joined).refusal
  placed =
      let told = the_base_link.placed_rightly in
      told.closing lends (fed base lends joined) (told.feeding lends Asked.opened joined told.opening)

  as_joined_up : AsJoinedUp ps verdicts worked
  as_joined_up =
      record {
        judges = λ short suffice.
            let j = judge base (length verdicts) joined in
            let said = (the_base_link.as_joined lends joined).judges short suffice in
            (answer_told j said, classes_told j said);
        too_long = λ long suffice.
            let said = (the_base_link.as_joined lends joined).too_long long suffice in
            ((λ r s. refusal_told ∙ said.0 r s), (λ none. refusal_told ∙ said.1 none));
        too_short = λ short. refusal_told ∙ (the_base_link.as_joined lends joined).too_short short;
        place = subst LineAndField (sym refusal_told) placed;
      }

told_by_closing : (verdicts worked : List ℕ) (s : Link) → let c = Over.close base (Over.lent_of (length verdicts) (length worked)) s in ToldByClosing (closing_face c) c.link
unfolding closing_face totals_face refusal_face
told_by_closing verdicts worked s =
    let c = Over.close base (Over.lent_of (length verdicts) (length worked)) s in
    let told = (the_link_keeps base base_fits).closes_rightly (Over.lent_of (length verdicts) (length worked)) s in
    record {
      refused = λ n. let r = told.refused n in (ap (totals_face (refusal_face c.refusal)) r.totals, ap refusal_face r.kept);
      modes = modes_told c.totals told.modes;
    }

placed_over : (h : Over.Holding) → LineAndField h.link.refusal → PlacedOver h
unfolding closing_face totals_face refusal_face
placed_over h p =
    let told = (the_link_keeps base base_fits).placed_rightly h p in
    record { feeding = told.feeding; closing = told.closing }

pub for_the_caller : ForTheCaller
for_the_caller =
    record {
      reading = told_by_read;
      viewing = told_by_view;
      judging = told_by_judge;
      writing = told_by_write;
      striking = told_by_strike;
      mending = told_by_mend;
      calling = told_by_session;
      starting = told_by_start;
      totalling = told_by_totals;
      on_the_screen = on_the_screen_lem;
      over_the_link = as_joined_up;
      refused_link = (the_link_keeps base base_fits).refused_leaves;
      closing_link = told_by_closing;
      placed_link = placed_over;
    }
