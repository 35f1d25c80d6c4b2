-- What W5 asks of a session, all of it: what `specs/SessionDemands.antt` states is proved, of any rules.
-- Assumes nothing.
use Prim.Native.Nat.{ℕ, suc, ◌+◌, ◌-◌, ◌≤◌, ◌<◌}
use native.Mathlib.Decide.{dec_lt}
use native.Mathlib.Omega.{arith}
use mathlib.Core.Path.{◌≡◌, refl, sym, ap, ◌∙◌}
use mathlib.Core.Logic.{◌⊎◌, inl, inr, ◌↔◌, ⊎_elim}
use mathlib.Core.Bool.{Bool, true, false, cond, ◌&&◌}
use mathlib.Core.List.{List, [], ◌∷◌, ◌++◌, map}
use lib.Dec.{ltb}
use lib.ListN.{length, take}
use borrow.Author.Tests.{le-ltb, ltb-true, ltb-false, eq-eqb, ne_eqb}
use Rattle.rules.specs.declared.Refusal.{Refusal}
use Rattle.rules.specs.Text.{Text, parts}
use Rattle.rules.specs.Rules.{Rules}
use Rattle.rules.specs.Fields.{Qso, field_rules, qso_of}
use Rattle.rules.specs.Log.{Log, conjunction, record_rules}
use Rattle.rules.specs.Judging.{Declared, verdict_number, verdicts, totals, totals_of, verdicts_of_log, totals_of_log}
use Rattle.rules.specs.Reading.{accepted, refusal, RecordRule, keeps, breaks, record_rule}
use Rattle.rules.specs.Answers.{no_refusal, judged, judge, judge_reading, judge_log}
use Rattle.rules.specs.Session.{Session, session, session_verdicts, session_totals, Call, starts, takes, gives_back, Reply, declared_rule, start_session, has_place, take_by, take_record, give_back, reply_to, session_after}
use Rattle.rules.specs.Demands.{most_total}
use Rattle.rules.specs.SessionDemands.{IsDone, KeptIsJudged, InRange, IsFull, RefusedStays, IsSound, GivingBackFrees, KeptAddUp, TheSession}
use Rattle.rules.proofs.Tests.{so, holds, clash, either, and_l, and_r}
use Rattle.rules.proofs.FieldLaws.{record_is}
use Rattle.rules.proofs.Classes.{counts_add_up, length_verdicts}
use Rattle.rules.proofs.ModeLaws.{together}
use Rattle.rules.proofs.Bounds.{DeclaredWithin, totals_within}
use Rattle.rules.proofs.SessionLaws.{in_range, range_kept, rules_more, rules_less, last_split, longer, last_dropped}

-- A refusal by its parts.
number_of : {r : Refusal} {k n f : ℕ} → r ≡ refusal k n f → r.number ≡ k
number_of e = ap (λ (r : Refusal). r.number) e

placed : {k n f : ℕ} → n ≡ 0 → f ≡ 0 → refusal k 0 0 ≡ refusal k n f
placed {k} e g = λ i. refusal k (sym e i) (sym g i)

-- # Starting

module _ (R : Rules) (d : Declared) (s : Session) where
  start_done : declared_rule R d ≡ true → start_session R d s ≡ record { refusal = no_refusal; session = session d [] }
  unfolding start_session
  start_done e = rw e

  start_refused : declared_rule R d ≡ false → start_session R d s ≡ record { refusal = refusal 4 0 0; session = s }
  unfolding start_session
  start_refused e = rw e

  -- It is done, or 4 is told and nothing changes.
  data Started : Type 0 where
    begun : InRange R d → start_session R d s ≡ record { refusal = no_refusal; session = session d [] } → Started
    outside : (InRange R d → ⊥) → start_session R d s ≡ record { refusal = refusal 4 0 0; session = s } → Started

  how_started : Started
  how_started = by (declared_rule R d) refl
    where
      by : (b : Bool) → declared_rule R d ≡ b → Started
      by true e = begun (in_range R d e) (start_done e)
      by false e = outside (λ r. clash (range_kept R d r) e) (start_refused e)

  four_told : (n f : ℕ) → ((start_session R d s).refusal ≡ refusal 4 n f) ↔ ((n ≡ 0) × (f ≡ 0) × (InRange R d → ⊥))
  unfolding no_refusal
  four_told n f = by how_started
    where
      by : Started → ((start_session R d s).refusal ≡ refusal 4 n f) ↔ ((n ≡ 0) × (f ≡ 0) × (InRange R d → ⊥))
      by (begun r e) = (
        λ h. let z : ◌≡◌ {A = ℕ} 0 4 = number_of (sym (ap (λ (x : Reply). x.refusal) e) ∙ h) in absurd (omega arith),
        λ k. absurd (k.2 r),
      )
      by (outside r e) =
          let told = ap (λ (x : Reply). x.refusal) e in (
            λ h. (sym (ap (λ (x : Refusal). x.line) (sym told ∙ h)), sym (ap (λ (x : Refusal). x.field) (sym told ∙ h)), r),
            λ k. told ∙ placed k.0 k.1,
          )

  started_told : IsDone (start_session R d s) ↔ InRange R d
  unfolding no_refusal
  started_told = by how_started
    where
      by : Started → IsDone (start_session R d s) ↔ InRange R d
      by (begun r e) = (λ h. r, λ k. ap (λ (x : Reply). x.refusal.number) e)
      by (outside r e) = (
        λ h. let z : ◌≡◌ {A = ℕ} 4 0 = sym (ap (λ (x : Reply). x.refusal.number) e) ∙ h in absurd (omega arith),
        λ k. absurd (r k),
      )

  start_does : IsDone (start_session R d s) → (start_session R d s).session ≡ session d []
  start_does h = ap (λ (x : Reply). x.session) (start_done (range_kept R d (started_told.0 h)))

  start_stays : (IsDone (start_session R d s) → ⊥) → (start_session R d s).session ≡ s
  start_stays h = by how_started
    where
      by : Started → (start_session R d s).session ≡ s
      by (begun r e) = absurd (h (started_told.1 r))
      by (outside r e) = ap (λ (x : Reply). x.session) e

-- # Taking

module _ (R : Rules) (room : ℕ) (l : Text) (s : Session) where
  abbrev reply : Reply
  reply = take_record R room l s

  abbrev with : Session
  with = session s.declared (s.records ++ (qso_of (parts l) ∷ []))

  take_by_lem : (r : RecordRule) → record_rule R l ≡ r → reply ≡ take_by R room l s r
  unfolding take_record
  take_by_lem r e = ap (take_by R room l s) e

  take_broken : (f : ℕ) → record_rule R l ≡ breaks f → reply ≡ record { refusal = refusal 5 0 f; session = s }
  unfolding take_by
  take_broken f e = take_by_lem (breaks f) e

  take_placed : (b : Bool) → record_rule R l ≡ keeps → has_place R room s ≡ b → reply ≡ cond b (record { refusal = no_refusal; session = with }) (record { refusal = refusal 11 0 0; session = s })
  unfolding take_by
  take_placed b e h = take_by_lem keeps e ∙ rw h

  has_place_lem : has_place R room s ≡ true → IsFull R room s → ⊥
  unfolding has_place
  has_place_lem e f =
      let n = length s.records in
      let most = ltb-true n R.most_records (and_l (ltb n R.most_records) (ltb n room) e) in
      let fits = ltb-true n room (and_r (ltb n R.most_records) (ltb n room) e) in
      ⊎_elim (λ (h : R.most_records ≤ n). omega arith) (λ (h : room ≤ n). omega arith) f

  is_full : has_place R room s ≡ false → IsFull R room s
  unfolding has_place
  is_full e = by (ltb n R.most_records) (ltb n room) refl refl e
    where
      n : ℕ
      n = length s.records

      by : (a b : Bool) → ltb n R.most_records ≡ a → ltb n room ≡ b → (a && b) ≡ false → IsFull R room s
      by false b g h k = inl (ltb-false n R.most_records g)
      by true false g h k = inr (ltb-false n room h)
      by true true g h k = clash refl k

  -- One of three things happens.
  data Taken : Type 0 where
    broken : (f : ℕ) → record_rule R l ≡ breaks f → reply ≡ record { refusal = refusal 5 0 f; session = s } → Taken
    full : record_rule R l ≡ keeps → IsFull R room s → reply ≡ record { refusal = refusal 11 0 0; session = s } → Taken
    kept : record_rule R l ≡ keeps → (IsFull R room s → ⊥) → reply ≡ record { refusal = no_refusal; session = with } → Taken

  how_taken : Taken
  how_taken = by (record_rule R l) refl
    where
      at : (b : Bool) → record_rule R l ≡ keeps → has_place R room s ≡ b → Taken
      at true e h = kept e (has_place_lem h) (take_placed true e h)
      at false e h = full e (is_full h) (take_placed false e h)

      by : (r : RecordRule) → record_rule R l ≡ r → Taken
      by (breaks f) e = broken f e (take_broken f e)
      by keeps e = at (has_place R room s) e refl

  abbrev told : {r : Refusal} {x : Session} → reply ≡ record { refusal = r; session = x } → reply.refusal ≡ r
  told e = ap (λ (y : Reply). y.refusal) e

  -- What is told has another number than what was said to be told.
  other : {A : Type 0} {r q : Refusal} → reply.refusal ≡ r → reply.refusal ≡ q → (r.number ≡ q.number → ⊥) → A
  other e h d = absurd (d (ap (λ (x : Refusal). x.number) (sym e ∙ h)))

  five_told : (n f : ℕ) → (reply.refusal ≡ refusal 5 n f) ↔ ((n ≡ 0) × (record_rule R l ≡ breaks f))
  unfolding no_refusal
  five_told n f = (λ h. by how_taken h, λ k. told (take_broken f k.1) ∙ (λ i. refusal 5 (sym k.0 i) f))
    where
      by : Taken → reply.refusal ≡ refusal 5 n f → (n ≡ 0) × (record_rule R l ≡ breaks f)
      by (broken g e r) h =
          let same = sym (told r) ∙ h in (sym (ap (λ (x : Refusal). x.line) same), e ∙ ap breaks (ap (λ (x : Refusal). x.field) same))
      by (full e g r) h = other (told r) h (λ z. omega arith)
      by (kept e g r) h = other (told r) h (λ z. omega arith)

  eleven_told : (n f : ℕ) → (reply.refusal ≡ refusal 11 n f) ↔ ((n ≡ 0) × (f ≡ 0) × (record_rule R l ≡ keeps) × IsFull R room s)
  unfolding no_refusal
  eleven_told n f = (λ h. by how_taken h, λ k. told (to (either (has_place R room s)) k) ∙ placed k.0 k.1)
    where
      by : Taken → reply.refusal ≡ refusal 11 n f → (n ≡ 0) × (f ≡ 0) × (record_rule R l ≡ keeps) × IsFull R room s
      by (broken g e r) h = other (told r) h (λ z. omega arith)
      by (full e g r) h =
          let same = sym (told r) ∙ h in (sym (ap (λ (x : Refusal). x.line) same), sym (ap (λ (x : Refusal). x.field) same), e, g)
      by (kept e g r) h = other (told r) h (λ z. omega arith)

      to : (has_place R room s ≡ true) ⊎ (has_place R room s ≡ false) → (n ≡ 0) × (f ≡ 0) × (record_rule R l ≡ keeps) × IsFull R room s → reply ≡ record { refusal = refusal 11 0 0; session = s }
      to (inl h) k = absurd (has_place_lem h k.3)
      to (inr h) k = take_placed false k.2 h

  taken_kept : record_rule R l ≡ keeps → (IsFull R room s → ⊥) → reply ≡ record { refusal = no_refusal; session = with }
  taken_kept e g = by (either (has_place R room s))
    where
      by : (has_place R room s ≡ true) ⊎ (has_place R room s ≡ false) → reply ≡ record { refusal = no_refusal; session = with }
      by (inl h) = take_placed true e h
      by (inr h) = absurd (g (is_full h))

  taken_told : IsDone reply ↔ ((record_rule R l ≡ keeps) × (IsFull R room s → ⊥))
  unfolding no_refusal
  taken_told = (λ h. by how_taken h, λ k. ap (λ (x : Refusal). x.number) (told (taken_kept k.0 k.1)))
    where
      done : {r : Refusal} → reply.refusal ≡ r → IsDone reply → r.number ≡ 0
      done e h = ap (λ (x : Refusal). x.number) (sym e) ∙ h

      by : Taken → IsDone reply → (record_rule R l ≡ keeps) × (IsFull R room s → ⊥)
      by (broken g e r) h = let z : ◌≡◌ {A = ℕ} 5 0 = done (told r) h in absurd (omega arith)
      by (full e g r) h = let z : ◌≡◌ {A = ℕ} 11 0 = done (told r) h in absurd (omega arith)
      by (kept e g r) h = (e, g)

  take_does : IsDone reply → reply.session ≡ with
  take_does h =
      let k = taken_told.0 h in ap (λ (x : Reply). x.session) (taken_kept k.0 k.1)

  take_stays : (IsDone reply → ⊥) → reply.session ≡ s
  take_stays h = by how_taken
    where
      by : Taken → reply.session ≡ s
      by (broken g e r) = ap (λ (x : Reply). x.session) r
      by (full e g r) = ap (λ (x : Reply). x.session) r
      by (kept e g r) = absurd (h (taken_told.1 (e, g)))

-- # Giving back

module _ (s : Session) where
  abbrev without : Session
  without = session s.declared (take (length s.records - 1) s.records)

  back_none : s.records ≡ [] → give_back s ≡ record { refusal = refusal 12 0 0; session = s }
  unfolding give_back
  back_none e =
      let z : length s.records ≡ 0 = ap length e in rw (eq-eqb (length s.records) 0 z)

  back_done : (s.records ≡ [] → ⊥) → give_back s ≡ record { refusal = no_refusal; session = without }
  unfolding give_back
  back_done h = rw (ne_eqb (length s.records) 0 (λ z. h (none s.records z)))
    where
      none : (qs : List Qso) → length qs ≡ 0 → qs ≡ []
      none [] z = refl
      none (q ∷ qs) z = absurd (omega arith)

  none_or : (s.records ≡ []) ⊎ (s.records ≡ [] → ⊥)
  none_or = by s.records refl
    where
      by : (qs : List Qso) → s.records ≡ qs → (s.records ≡ []) ⊎ (s.records ≡ [] → ⊥)
      by [] e = inl e
      by (q ∷ qs) e = inr (λ g. let z : suc (length qs) ≡ 0 = sym (ap length e) ∙ ap length g in absurd (omega arith))

  twelve_told : (n f : ℕ) → ((give_back s).refusal ≡ refusal 12 n f) ↔ ((n ≡ 0) × (f ≡ 0) × (s.records ≡ []))
  unfolding no_refusal
  twelve_told n f = (λ h. by none_or h, λ k. ap (λ (x : Reply). x.refusal) (back_none k.2) ∙ placed k.0 k.1)
    where
      by : (s.records ≡ []) ⊎ (s.records ≡ [] → ⊥) → (give_back s).refusal ≡ refusal 12 n f → (n ≡ 0) × (f ≡ 0) × (s.records ≡ [])
      by (inl e) h =
          let same = sym (ap (λ (x : Reply). x.refusal) (back_none e)) ∙ h in (sym (ap (λ (x : Refusal). x.line) same), sym (ap (λ (x : Refusal). x.field) same), e)
      by (inr g) h =
          let z : ◌≡◌ {A = ℕ} 0 12 = number_of (sym (ap (λ (x : Reply). x.refusal) (back_done g)) ∙ h) in absurd (omega arith)

  back_told : IsDone (give_back s) ↔ (s.records ≡ [] → ⊥)
  unfolding no_refusal
  back_told = (
    λ h e. let z : ◌≡◌ {A = ℕ} 12 0 = sym (ap (λ (x : Reply). x.refusal.number) (back_none e)) ∙ h in absurd (omega arith),
    λ g. ap (λ (x : Reply). x.refusal.number) (back_done g),
  )

  back_stays : (IsDone (give_back s) → ⊥) → (give_back s).session ≡ s
  back_stays h = by none_or
    where
      by : (s.records ≡ []) ⊎ (s.records ≡ [] → ⊥) → (give_back s).session ≡ s
      by (inl e) = ap (λ (x : Reply). x.session) (back_none e)
      by (inr g) = absurd (h (back_told.1 g))

  some_left : (s.records ≡ [] → ⊥) → 0 < length s.records
  some_left g = by s.records refl
    where
      by : (qs : List Qso) → s.records ≡ qs → 0 < length qs
      by [] e = absurd (g e)
      by (q ∷ qs) e = omega arith

  back_does : IsDone (give_back s) →
      (q : Qso)
      × ((give_back s).session.records ++ (q ∷ []) ≡ s.records)
      × ((give_back s).session.declared ≡ s.declared)
  back_does h =
      let g = back_told.0 h in
      let split = last_split s.records (some_left g) in
      let is = ap (λ (x : Reply). x.session) (back_done g) in (
        split.last,
        ap (λ (x : Session). x.records ++ (split.last ∷ [])) is ∙ sym split.are,
        ap (λ (x : Session). x.declared) is,
      )

-- What was just taken is what is given back.
undone : (s : Session) (q : Qso) → let with = session s.declared (s.records ++ (q ∷ [])) in IsDone (give_back with) × ((give_back with).session ≡ s)
undone s q =
    let with = session s.declared (s.records ++ (q ∷ [])) in
    let some : with.records ≡ [] → ⊥ = λ e. (let z : length s.records + 1 ≡ 0 = sym (longer s.records q) ∙ ap length e in absurd (omega arith)) in (
      (back_told with).1 some,
      ap (λ (x : Reply). x.session) (back_done with some) ∙ (λ i. session s.declared (last_dropped s.records q i)),
    )

-- # What stays

module _ (R : Rules) where
  refused_stays_lem : RefusedStays R
  unfolding reply_to
  refused_stays_lem room s (starts d) h = start_stays R d s h
  refused_stays_lem room s (takes l) h = take_stays R room l s h
  refused_stays_lem room s gives_back h = back_stays s h

  module _ (room : ℕ) where
    sound_none : (d : Declared) → InRange R d → IsSound R room (session d [])
    unfolding record_rules
    sound_none d r = record { declares = r; few = omega arith; fits = omega arith; rules = tt }

    sound_more : (s : Session) (q : Qso) → IsSound R room s → (IsFull R room s → ⊥) → conjunction (field_rules R q) ≡ true → IsSound R room (session s.declared (s.records ++ (q ∷ [])))
    sound_more s q h g e =
        let n = longer s.records q in
        record {
          declares = h.declares;
          few = by R.most_records (λ f. g (inl f)) n;
          fits = by room (λ f. g (inr f)) n;
          rules = holds (rules_more R q s.records (so (record_rules R s.records) h.rules) e);
        }
      where
        by : (most : ℕ) → (most ≤ length s.records → ⊥) → length (s.records ++ (q ∷ [])) ≡ length s.records + 1 → length (s.records ++ (q ∷ [])) ≤ most
        by most f n = at (dec_lt (length s.records) most)
          where
            at : Dec (length s.records < most) → length (s.records ++ (q ∷ [])) ≤ most
            at (yes h) = omega (arith, n)
            at (no h) = absurd (f (omega arith))

    -- A session with fewer records, each of which was there.
    sound_less : (s : Session) (qs : List Qso) (q : Qso) → qs ++ (q ∷ []) ≡ s.records → IsSound R room s → IsSound R room (session s.declared qs)
    sound_less s qs q e h =
        let n = sym (longer qs q) ∙ ap length e in
        let all = ap (record_rules R) e ∙ so (record_rules R s.records) h.rules in
        record {
          declares = h.declares;
          few = omega (arith, n, h.few);
          fits = omega (arith, n, h.fits);
          rules = holds (rules_less R q qs all).0;
        }

    sound_by : {s r : Session} → s ≡ r → IsSound R room r → IsSound R room s
    sound_by e h = rw e h

    sound_step : (s : Session) (c : Call) → IsSound R room s → IsSound R room (reply_to R room s c).session
    unfolding reply_to
    sound_step s (starts d) h = by (how_started R d s)
      where
        by : Started R d s → IsSound R room (start_session R d s).session
        by (begun r e) = sound_by (ap (λ (x : Reply). x.session) e) (sound_none d r)
        by (outside r e) = sound_by (ap (λ (x : Reply). x.session) e) h
    sound_step s (takes l) h = by (how_taken R room l s)
      where
        by : Taken R room l s → IsSound R room (take_record R room l s).session
        by (broken f e r) = sound_by (ap (λ (x : Reply). x.session) r) h
        by (full e g r) = sound_by (ap (λ (x : Reply). x.session) r) h
        by (kept e g r) = sound_by (ap (λ (x : Reply). x.session) r) (sound_more s (qso_of (parts l)) h g (record_is R l e).rules)
    sound_step s gives_back h = by (none_or s)
      where
        by : (s.records ≡ []) ⊎ (s.records ≡ [] → ⊥) → IsSound R room (give_back s).session
        by (inl e) = sound_by (ap (λ (x : Reply). x.session) (back_none s e)) h
        by (inr g) =
            let split = last_split s.records (some_left s g) in
            sound_by (ap (λ (x : Reply). x.session) (back_done s g)) (sound_less s (take (length s.records - 1) s.records) split.last (sym split.are) h)

    sound_stays : (s : Session) (cs : List Call) → IsSound R room s → IsSound R room (session_after R room s cs)
    unfolding session_after
    sound_stays s [] h = h
    sound_stays s (c ∷ cs) h = sound_stays (reply_to R room s c).session cs (sound_step s c h)

  -- A record less leaves a place.
  giving_frees : GivingBackFrees R
  giving_frees room s l h d e =
      let back = back_does s d in
      let after = (give_back s).session in
      let n = sym (longer after.records back.0) ∙ ap length back.1 in
      (taken_told R room l after).1
      (e, λ f. ⊎_elim (λ (k : R.most_records ≤ length after.records). omega (arith, h.few)) (λ (k : room ≤ length after.records). omega (arith, h.fits)) f)

  -- # What is kept

  judged_by_lem : (log : Log) (room : ℕ) → length log.records ≤ room → judge_reading R room (accepted log) ≡ judged (totals_of_log R log) (map verdict_number (verdicts_of_log R log))
  unfolding judge_reading judge_log
  judged_by_lem log room h = rw (le-ltb room (length log.records) h)

  kept_judged : KeptIsJudged R
  unfolding judge session_totals session_verdicts totals_of_log verdicts_of_log
  kept_judged s t log room e records numbers h =
      let n : length log.records ≤ room = rw records h in
      ap (judge_reading R room) e
      ∙ judged_by_lem log room n
      ∙ (λ i. judged (totals R (numbers i) (records i)) (map verdict_number (verdicts R (records i))))

  within : (d : Declared) → InRange R d → DeclaredWithin R d
  within d r =
      record {
        square_bonus = r.0.0;
        square_multiplier = r.0.2;
        exchange_bonus = r.1.0;
        exchange_multiplier = r.1.2;
        country_bonus = r.2.0;
        country_multiplier = r.2.2;
      }

  kept_adds_up : KeptAddUp R
  unfolding session_totals totals totals_of most_total
  kept_adds_up room s h =
      let qs = s.records in
      let vs = verdicts R qs in
      record {
        classes = counts_add_up vs ∙ length_verdicts R qs;
        modes = together R qs vs (length_verdicts R qs) h.rules;
        total = (totals_within R s.declared qs (within s.declared h.declares) h.few h.rules).total;
      }

  pub the_session : TheSession R
  the_session =
      record {
        each_call_does = λ room s. record {
          starts = λ d. start_does R d s;
          takes = λ l. take_does R room l s;
          gives_back = back_does s;
          undoes = λ l h. rw (take_does R room l s h) (undone s (qso_of (parts l)));
        };
        kept_is_judged = kept_judged;
        given_exactly_when = λ room s. record {
          four = λ d. four_told R d s;
          started = λ d. started_told R d s;
          five = λ l. five_told R room l s;
          eleven = λ l. eleven_told R room l s;
          taken = λ l. taken_told R room l s;
          twelve = twelve_told s;
          given_back = back_told s;
        };
        refused_stays = refused_stays_lem;
        stays_sound = λ room. record { begins = sound_none room; stays = sound_stays room };
        giving_back_frees = giving_frees;
        kept_add_up = kept_adds_up;
      }
