-- The session keeps what judging the records now present gives: each call leaves it so, and so do any calls one behind the other.
-- Assumes nothing.
use Prim.Native.Nat.{ℕ, ◌-◌, ◌/◌, min}
use native.Mathlib.Omega.{arith}
use mathlib.Core.Path.{◌≡◌, refl, sym, ap, ◌∙◌}
use mathlib.Core.Logic.{inl, inr}
use mathlib.Core.Bool.{Bool, true, false, cond, ◌&&◌}
use mathlib.Core.List.{List, [], ◌∷◌, ◌++◌, map, Memᴰ}
use lib.Dec.{leb, ltb}
use lib.ListN.{length, take, set}
use borrow.Author.Tests.{ne_eqb}
use Rattle.rules.specs.declared.Refusal.{Refusal}
use Rattle.rules.specs.Text.{Text}
use Rattle.rules.specs.Rules.{Rules, base}
use Rattle.rules.specs.Fields.{Qso}
use Rattle.rules.specs.Log.{conjunction, record_rules}
use Rattle.rules.specs.Judging.{verdict_number, verdicts_after as judged_after, zero_modes, zero_totals}
use Rattle.rules.specs.Judging.{verdicts as judged}
use Rattle.rules.specs.Reading.{refusal, RecordRule, keeps, breaks, record_rule}
use Rattle.rules.specs.Answers.{no_refusal}
use Rattle.rules.proofs.Refusals.{FieldIsOne, rule_field}
use Rattle.rules.proofs.SessionLaws.{last_split}
use Rattle.rules.specs.Session.{Reply, session, declared_rule, start_session, has_place, take_by, take_record, give_back, reply_to, session_after, replies_to}
use Rattle.rules.specs.Session.{Session as Records}
use Rattle.places.specs.declared.Declared.{Declared}
use Rattle.judge.specs.declared.Tally.{Tally}
use Rattle.judge.specs.Count.{no_tally, add_records, as_declared}
use Rattle.judge.proofs.SumLaws.{kept_add_up_lem}
use Rattle.judge.specs.Sums.{no_sums, sums_of}
use Rattle.session.specs.declared.Session.{Session}
use Rattle.session.specs.declared.Replied.{Replied}
use Rattle.session.specs.Entry.{said_of, bytes_of, with_bytes, FitsBytes, keeps_rules}
use Rattle.session.specs.Session.{present, totals_now, refused_by, accepted, fresh_session, started, is_taken, with_taken, not_taken_by, taken, verdicts_taken, kept_taken, last_brought, last_mode, slices_reach, holds_record, less_record, taken_off, given_back}
use Rattle.session.specs.Keeping.{Holding, room_of, Calling, starting, taking, giving_back, call_of, replied_to, verdicts_after, kept_after, holding_after, holding_after_all, refusals_of, Agrees, numbers_for, ToldFor, KeptAsJudged, RefusedLeaves, RefusedByNumber, StartingForgets, KeptModesAddUp, TheSessionKeeps}
use Rattle.session.proofs.FilledLaws.{base_fits_bytes}
use Rattle.session.proofs.ComeLaws.{came_to}
use Rattle.session.proofs.HoldLaws.{numbers_of, holding_of, Holds, counted, reached, agrees, taken_by}
use Rattle.session.proofs.TakingLaws.{verdicts_by, kept_by, is_taken_lem, numbers_more, told_more_lem, kept_more_lem, holds_more}
use Rattle.session.proofs.GivingLaws.{given, holds_less}

-- # What each call answers

module _ (R : Rules) where
  pub started_not : (s : Session) (d : Declared) → declared_rule R (as_declared d) ≡ false → started R s d ≡ refused_by s 4 0
  unfolding started
  started_not s d e = rw e

  pub started_anew : (s : Session) (d : Declared) → declared_rule R (as_declared d) ≡ true → started R s d ≡ accepted (numbers_of R d [])
  unfolding started fresh_session no_sums no_tally sums_of came_to add_records zero_totals zero_modes
  started_anew s d e = rw e

  module _ (s : Session) (l : Text) (told kept : List ℕ) where
    pub taken_not : is_taken R s l told kept ≡ false → taken R s l told kept ≡ not_taken_by s (record_rule R l)
    unfolding taken
    taken_not e = rw e

    pub taken_so : is_taken R s l told kept ≡ true → taken R s l told kept ≡ accepted (with_taken R s l kept)
    unfolding taken
    taken_so e = rw e

    pub told_stays : is_taken R s l told kept ≡ false → verdicts_taken R s l told kept ≡ told
    told_stays e =
        verdicts_by R s l told kept
        ∙ ap (λ (b : Bool). cond b (set told (present s) (verdict_number (said_of R l (present s) 28 kept))) told) e

    pub kept_stays : is_taken R s l told kept ≡ false → kept_taken R s l told kept ≡ kept
    kept_stays e = kept_by R s l told kept ∙ ap (λ (b : Bool). cond b (with_bytes R l (present s) 28 kept) kept) e

  pub given_not : (s : Session) (told kept : List ℕ) → slices_reach R s (length told) (length kept) ≡ false → given_back R s told kept ≡ refused_by s 12 0
  unfolding given_back
  given_not s told kept e = rw e

  pub given_on : (s : Session) (told kept : List ℕ) → slices_reach R s (length told) (length kept) ≡ true → given_back R s told kept ≡ taken_off s (last_brought s told kept) (last_mode s kept)
  unfolding given_back
  given_on s told kept e = rw e

module _ (s : Session) (brought : Tally) (mode : ℕ) where
  pub off_so : holds_record s brought mode ≡ true → taken_off s brought mode ≡ accepted (less_record s brought mode)
  unfolding taken_off
  off_so e = rw e

  pub off_not : holds_record s brought mode ≡ false → taken_off s brought mode ≡ refused_by s 12 0
  unfolding taken_off
  off_not e = rw e

-- # One call

module _ {R : Rules} (B : FitsBytes R) (room : ℕ) where
  -- After a call the caller holds what judging gives of the records that document 02 then has, and was answered as it says.
  record Steps (h : Holding) (s : Records) (c : Calling) : Type 0 where
    pub declares : Declared
    pub records : List Qso
    pub told : List ℕ
    pub kept : List ℕ
    pub holding : holding_after R h c ≡ holding_of R declares records told kept
    pub asked : (reply_to R room s (call_of c)).session ≡ session (as_declared declares) records
    pub answered : (replied_to R h c).refusal ≡ (reply_to R room s (call_of c)).refusal
    pub holds : Holds R room declares records told kept

  steps : {h : Holding} {s : Records} {c : Calling} (number field : ℕ) {d : Declared} {qs : List Qso} {told kept : List ℕ} →
      replied_to R h c ≡ refused_by (numbers_of R d qs) number field →
      verdicts_after R h c ≡ told →
      kept_after R h c ≡ kept →
      reply_to R room s (call_of c) ≡ record { refusal = refusal number 0 field; session = session (as_declared d) qs } →
      Holds R room d qs told kept →
      Steps h s c
  unfolding holding_after refused_by
  steps number field {d} {qs} {told} {kept} replied verdictsNow keptNow reply h =
      record {
        declares = d;
        records = qs;
        told = told;
        kept = kept;
        holding = λ i. record { numbers = (replied i).session; verdicts = verdictsNow i; kept = keptNow i };
        asked = ap (λ (r : Reply). r.session) reply;
        answered = ap (λ (r : Replied). r.refusal) replied ∙ sym (ap (λ (r : Reply). r.refusal) reply);
        holds = h;
      }

  -- No record.
  holds_none : (d : Declared) (told kept : List ℕ) → declared_rule R (as_declared d) ≡ true → min (length told) (length kept / 28) ≡ room → Holds R room d [] told kept
  unfolding record_rules judged judged_after bytes_of
  holds_none d told kept e rooms =
      record { declared = e; ruled = refl; few = omega arith; verdicts_are = refl; bytes_are = refl; rooms = rooms; inside = omega arith }

  module _ (d : Declared) (qs : List Qso) (told kept : List ℕ) (h : Holds R room d qs told kept) where
    abbrev numbers : Session
    numbers = numbers_of R d qs

    abbrev now : Holding
    now = holding_of R d qs told kept

    abbrev present_records : Records
    present_records = session (as_declared d) qs

    -- Starting.
    step_start : (e : Declared) → Steps now present_records (starting e)
    unfolding replied_to verdicts_after kept_after call_of reply_to start_session no_refusal
    step_start e = by (declared_rule R (as_declared e)) refl
      where
        by : (b : Bool) → declared_rule R (as_declared e) ≡ b → Steps now present_records (starting e)
        by true z = steps 0 0 (started_anew R numbers e z) refl refl (rw z) (holds_none e told kept z h.rooms)
        by false z = steps 4 0 (started_not R numbers e z) refl refl (rw z) h

    -- Taking a line.
    step_take : (l : Text) → Steps now present_records (taking l)
    unfolding replied_to verdicts_after kept_after call_of reply_to take_record take_by no_refusal not_taken_by
    step_take l = by (record_rule R l) refl
      where
        not_taken_lem : (b p : Bool) → keeps_rules (record_rule R l) ≡ b → has_place R room present_records ≡ p → (b && p) ≡ false → is_taken R numbers l told kept ≡ false
        not_taken_lem b p e f z = taken_by R d qs told kept h l ∙ (λ i. e i && f i) ∙ z

        stays : (number field : ℕ) → is_taken R numbers l told kept ≡ false → not_taken_by numbers (record_rule R l) ≡ refused_by numbers number field →
            take_by R room l present_records (record_rule R l) ≡ record { refusal = refusal number 0 field; session = present_records } →
            Steps now present_records (taking l)
        stays number field z e f = steps number field (taken_not R numbers l told kept z ∙ e) (told_stays R numbers l told kept z) (kept_stays R numbers l told kept z) f h

        placed : (p : Bool) → record_rule R l ≡ keeps → has_place R room present_records ≡ p → Steps now present_records (taking l)
        placed true e p =
            steps 0 0
            (taken_so R numbers l told kept (is_taken_lem B d qs told kept h l e p) ∙ ap accepted (numbers_more B d qs told kept h l e p))
            (told_more_lem B d qs told kept h l e p)
            (kept_more_lem B d qs told kept h l e p)
            (rw (e, p))
            (holds_more B d qs told kept h l e p)
        placed false e p = stays 11 0 (not_taken_lem true false (ap keeps_rules e) p refl) (ap (not_taken_by numbers) e) (rw (e, p))

        by : (r : RecordRule) → record_rule R l ≡ r → Steps now present_records (taking l)
        by (breaks field) e = stays 5 field (not_taken_lem false (has_place R room present_records) (ap keeps_rules e) refl refl) (ap (not_taken_by numbers) e) (rw e)
        by keeps e = placed (has_place R room present_records) e refl

  -- Giving back.
  given_by : {d : Declared} {told kept : List ℕ} (qs less : List Qso) (q : Qso) → qs ≡ less ++ (q ∷ []) → Holds R room d qs told kept →
      (given_back R (numbers_of R d qs) told kept ≡ accepted (numbers_of R d less)) × Holds R room d less told kept
  given_by {d} {told} {kept} qs less q e h =
      let k : Holds R room d (less ++ (q ∷ [])) told kept = rw e at h in
      (rw e (given B d less q told kept k), holds_less B d less q told kept k)

  step_back : (d : Declared) (qs : List Qso) (told kept : List ℕ) → Holds R room d qs told kept → Steps (holding_of R d qs told kept) (session (as_declared d) qs) giving_back
  unfolding replied_to verdicts_after kept_after call_of reply_to give_back no_refusal slices_reach conjunction
  step_back d [] told kept h =
      let s = numbers_of R d [] in
      let none : slices_reach R s (length told) (length kept) ≡ false =
      (λ i. reached R d [] told kept h i && (ltb 0 (counted R d [] told kept h i) && (leb (present s) (length told) && (leb (present s) (length kept / 28) && true)))) in
      steps 12 0 (given_not R s told kept none) refl refl refl h
  step_back d (p ∷ ps) told kept h =
      let qs = p ∷ ps in
      let split = last_split qs (omega arith) in
      let less = given_by qs (take (length qs - 1) qs) split.last split.are h in
      steps 0 0 less.0 refl refl (rw (ne_eqb (length qs) 0 (λ e. omega arith))) less.1

  step : (d : Declared) (qs : List Qso) (told kept : List ℕ) → Holds R room d qs told kept → (c : Calling) → Steps (holding_of R d qs told kept) (session (as_declared d) qs) c
  step d qs told kept h (starting e) = step_start d qs told kept h e
  step d qs told kept h (taking l) = step_take d qs told kept h l
  step d qs told kept h giving_back = step_back d qs told kept h

  -- # Calls one behind the other

  agrees_at : {h g : Holding} {s r : Records} (cs : List Calling) → h ≡ g → s ≡ r → Agrees R (holding_after_all R g cs) (session_after R room r (map call_of cs)) → Agrees R (holding_after_all R h cs) (session_after R room s (map call_of cs))
  agrees_at cs e f a = rw (e, f) a

  runs_agree : (cs : List Calling) (d : Declared) (qs : List Qso) (told kept : List ℕ) → Holds R room d qs told kept →
      Agrees R (holding_after_all R (holding_of R d qs told kept) cs) (session_after R room (session (as_declared d) qs) (map call_of cs))
  unfolding holding_after_all session_after
  runs_agree [] d qs told kept h = agrees R d qs told kept h
  runs_agree (c ∷ cs) d qs told kept h =
      let n = step d qs told kept h c in
      agrees_at cs n.holding n.asked (runs_agree cs n.declares n.records n.told n.kept n.holds)

  abbrev answers : (s : Records) (cs : List Calling) → List Refusal
  answers s cs = map (λ r. r.refusal) (replies_to R room s (map call_of cs))

  runs_answer : (cs : List Calling) (d : Declared) (qs : List Qso) (told kept : List ℕ) → Holds R room d qs told kept →
      refusals_of R (holding_of R d qs told kept) cs ≡ answers (session (as_declared d) qs) cs
  unfolding refusals_of replies_to
  runs_answer [] d qs told kept h = refl
  runs_answer (c ∷ cs) d qs told kept h =
      let n = step d qs told kept h c in
      let more = runs_answer cs n.declares n.records n.told n.kept n.holds in
      λ i. n.answered i ∷ (ap (λ (g : Holding). refusals_of R g cs) n.holding ∙ more ∙ ap (λ (s : Records). answers s cs) (sym n.asked)) i

-- # The theorem

module _ (R : Rules) where
  kept_as_judged_lem : FitsBytes R → KeptAsJudged R
  unfolding holding_after replied_to verdicts_after kept_after
  kept_as_judged_lem B h d cs e =
      let begun : holding_after R h (starting d) ≡ holding_of R d [] h.verdicts h.kept =
      λ i. record { numbers = (started_anew R h.numbers d e i).session; verdicts = h.verdicts; kept = h.kept } in
      let none = holds_none B (room_of h) d h.verdicts h.kept e refl in (
        agrees_at B (room_of h) cs begun refl (runs_agree B (room_of h) cs d [] h.verdicts h.kept none),
        ap (λ (g : Holding). refusals_of R g cs) begun ∙ runs_answer B (room_of h) cs d [] h.verdicts h.kept none,
      )

  -- A refusal leaves what there is, whatever that is.
  stayed : (h : Holding) (c : Calling) → (replied_to R h c).session ≡ h.numbers → verdicts_after R h c ≡ h.verdicts → kept_after R h c ≡ h.kept → holding_after R h c ≡ h
  unfolding holding_after
  stayed h c numbers told kept = λ i. record { numbers = numbers i; verdicts = told i; kept = kept i }

  refused_leaves_lem : RefusedLeaves R
  unfolding replied_to verdicts_after kept_after not_taken_by refused_by
  refused_leaves_lem h (starting d) f = by (declared_rule R (as_declared d)) refl
    where
      by : (b : Bool) → declared_rule R (as_declared d) ≡ b → holding_after R h (starting d) ≡ h
      by true e = absurd (f (ap (λ (r : Replied). r.refusal.number) (started_anew R h.numbers d e)))
      by false e = stayed h (starting d) (ap (λ (r : Replied). r.session) (started_not R h.numbers d e)) refl refl
  refused_leaves_lem h (taking l) f = by (is_taken R s l told kept) refl
    where
      s : Session
      s = h.numbers

      told : List ℕ
      told = h.verdicts

      kept : List ℕ
      kept = h.kept

      same : (r : RecordRule) → (not_taken_by s r).session ≡ s
      same (breaks field) = refl
      same keeps = refl

      by : (b : Bool) → is_taken R s l told kept ≡ b → holding_after R h (taking l) ≡ h
      by true e = absurd (f (ap (λ (r : Replied). r.refusal.number) (taken_so R s l told kept e)))
      by false e =
          stayed h (taking l) (ap (λ (r : Replied). r.session) (taken_not R s l told kept e) ∙ same (record_rule R l)) (told_stays R s l told kept e) (kept_stays R s l told kept e)
  refused_leaves_lem h giving_back f = by (slices_reach R s (length h.verdicts) (length h.kept)) refl
    where
      s : Session
      s = h.numbers

      brought : Tally
      brought = last_brought s h.verdicts h.kept

      mode : ℕ
      mode = last_mode s h.kept

      off : (b : Bool) → holds_record s brought mode ≡ b → given_back R s h.verdicts h.kept ≡ taken_off s brought mode → holding_after R h giving_back ≡ h
      off true e g = absurd (f (ap (λ (r : Replied). r.refusal.number) (g ∙ off_so s brought mode e)))
      off false e g = stayed h giving_back (ap (λ (r : Replied). r.session) (g ∙ off_not s brought mode e)) refl refl

      by : (b : Bool) → slices_reach R s (length h.verdicts) (length h.kept) ≡ b → holding_after R h giving_back ≡ h
      by true e = off (holds_record s brought mode) refl (given_on R s h.verdicts h.kept e)
      by false e = stayed h giving_back (ap (λ (r : Replied). r.session) (given_not R s h.verdicts h.kept e)) refl refl

  -- What is told, by each of the answers.
  told_none : (c : Calling) (s : Session) → ToldFor c (accepted s).refusal
  unfolding refused_by
  told_none c s = record { number = inl refl; no_line = refl; no_field = λ n. refl; a_field = omega arith }

  told_by_lem : (c : Calling) (s : Session) (number : ℕ) → Memᴰ number (numbers_for c) → ToldFor c (refused_by s number 0).refusal
  unfolding refused_by
  told_by_lem c s number m = record { number = inr m; no_line = refl; no_field = λ n. refl; a_field = omega arith }

  told_record : (l : Text) (s : Session) (r : RecordRule) → FieldIsOne r → ToldFor (taking l) (not_taken_by s r).refusal
  unfolding not_taken_by refused_by
  told_record l s (breaks field) h =
      record { number = inr (Memᴰ.head refl); no_line = refl; no_field = λ n. absurd (n refl); a_field = h }
  told_record l s keeps h = told_by_lem (taking l) s 11 (Memᴰ.tail (Memᴰ.head refl))

  refused_by_number_lem : RefusedByNumber R
  unfolding replied_to
  refused_by_number_lem h (starting d) = by (declared_rule R (as_declared d)) refl
    where
      by : (b : Bool) → declared_rule R (as_declared d) ≡ b → ToldFor (starting d) (started R h.numbers d).refusal
      by true e = rw (started_anew R h.numbers d e) (told_none (starting d) (numbers_of R d []))
      by false e = rw (started_not R h.numbers d e) (told_by_lem (starting d) h.numbers 4 (Memᴰ.head refl))
  refused_by_number_lem h (taking l) = by (is_taken R s l h.verdicts h.kept) refl
    where
      s : Session
      s = h.numbers

      by : (b : Bool) → is_taken R s l h.verdicts h.kept ≡ b → ToldFor (taking l) (taken R s l h.verdicts h.kept).refusal
      by true e = rw (taken_so R s l h.verdicts h.kept e) (told_none (taking l) (with_taken R s l h.kept))
      by false e = rw (taken_not R s l h.verdicts h.kept e) (told_record l s (record_rule R l) (rule_field R l))
  refused_by_number_lem h giving_back = by (slices_reach R s (length h.verdicts) (length h.kept)) refl
    where
      s : Session
      s = h.numbers

      brought : Tally
      brought = last_brought s h.verdicts h.kept

      mode : ℕ
      mode = last_mode s h.kept

      twelve : ToldFor giving_back (refused_by s 12 0).refusal
      twelve = told_by_lem giving_back s 12 (Memᴰ.head refl)

      off : (b : Bool) → holds_record s brought mode ≡ b → ToldFor giving_back (taken_off s brought mode).refusal
      off true e = rw (off_so s brought mode e) (told_none giving_back (less_record s brought mode))
      off false e = rw (off_not s brought mode e) twelve

      by : (b : Bool) → slices_reach R s (length h.verdicts) (length h.kept) ≡ b → ToldFor giving_back (given_back R s h.verdicts h.kept).refusal
      by true e = rw (given_on R s h.verdicts h.kept e) (off (holds_record s brought mode) refl)
      by false e = rw (given_not R s h.verdicts h.kept e) twelve

  starting_forgets_lem : StartingForgets R
  unfolding replied_to
  starting_forgets_lem h g d e = started_anew R h.numbers d e ∙ sym (started_anew R g.numbers d e)

modes_kept : (R : Rules) → KeptModesAddUp R
unfolding totals_now
modes_kept R s = kept_add_up_lem R s.sums s.declared

pub the_session_keeps : (R : Rules) → FitsBytes R → TheSessionKeeps R
the_session_keeps R B = record { kept_as_judged = kept_as_judged_lem R B; refused_leaves = refused_leaves_lem R; refused_by_number = refused_by_number_lem R; starting_forgets = starting_forgets_lem R; kept_modes_add_up = modes_kept R }

pub the_base_session_keeps : TheSessionKeeps base
the_base_session_keeps = the_session_keeps base base_fits_bytes
