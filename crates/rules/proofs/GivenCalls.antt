-- What the calls above reading are refused with: what reading is, and 7, 8 and 9 exactly when their rows of the table say; and that number 0
-- is told exactly where a call is accepted. Over any rules.
-- Assumes nothing.
use Prim.Native.Nat.{ℕ, ◌-◌, ◌≤◌, ◌<◌}
use mathlib.Core.Path.{◌≡◌, refl, sym, ap, ◌∙◌}
use mathlib.Core.Logic.{◌⊎◌, inl, inr, ◌↔◌}
use mathlib.Core.Bool.{Bool, true, false, cond, ◌&&◌, and-false}
use mathlib.Core.List.{List, ◌∷◌, map}
use lib.Dec.{leb, ltb}
use lib.ListN.{length, drop_of_length-le}
use native.Mathlib.Decide.{dec_lt}
use native.Mathlib.Omega.{arith}
use borrow.Author.Tests.{le-leb, lt-leb, le-ltb, lt-ltb}
use Rattle.rules.specs.declared.Refusal.{Refusal}
use Rattle.rules.specs.Text.{Text}
use Rattle.rules.specs.Rules.{Rules}
use Rattle.rules.specs.Arguments.{Entry, entries}
use Rattle.rules.specs.Log.{Log, render, IsWrittenAs, FollowsTheFormat}
use Rattle.rules.specs.Judging.{verdict_number, verdicts_of_log, totals_of_log}
use Rattle.rules.specs.Writing.{written_back}
use Rattle.rules.specs.Reading.{Reading, accepted, refused, refusal, read}
use Rattle.rules.specs.Answers.{no_refusal, refusal_of_reading, Viewing, unseen, view_of_reading, view, refusal_of_view, Judgement, judged, unjudged, judge_log, judge_reading, judge, refusal_of_judgement, Writing, written, unwritten, write_log, write_reading, write, refusal_of_writing}
use Rattle.rules.specs.Given.{GivenByTheOthers, GivenExactlyWhen, LineAndField, ZeroWhenAccepted, LineAndFieldToldRightly}
use Rattle.rules.proofs.Format.{accepted_when_written}
use Rattle.rules.proofs.GivenLines.{keyword_after}
use Rattle.rules.proofs.GivenRefusals.{no_place, numbered, placed, given_by_reading}

-- A call that reads first: what it answers to a reading, and the one refusal of its own, of an accepted log that falls short of something.
record Call (A : Type 0) : Type 1 where
  answer : Reading → A
  refuses : Refusal → A
  told : A → Refusal
  number : ℕ
  Fits : Log → Type 0
  Fails : Log → Type 0
  late : 7 ≤ number
  passes_on : (r : Refusal) → answer (refused r) ≡ refuses r
  tells : (r : Refusal) → told (refuses r) ≡ r
  fits : (log : Log) → Fits log → told (answer (accepted log)) ≡ no_refusal
  answers : (log : Log) → Fits log → (r : Refusal) → answer (accepted log) ≡ refuses r → ⊥
  fails : (log : Log) → Fails log → answer (accepted log) ≡ refuses (refusal number 0 0)
  either : (log : Log) → Fits log ⊎ Fails log

module _ (R : Rules) (s : Text) {A : Type 0} (c : Call A) where
  told_same : (q r : Refusal) → c.refuses q ≡ c.refuses r → q ≡ r
  told_same q r e = sym (c.tells q) ∙ ap c.told e ∙ c.tells r

  -- A refusal is that of reading, or the call's own.
  abbrev Whose : Refusal → Type 0
  Whose r = (read R s ≡ refused r) ⊎ ((refusal c.number 0 0 ≡ r) × (log : Log) × IsWrittenAs R s log × c.Fails log)

  whose : (r : Refusal) → c.answer (read R s) ≡ c.refuses r →
      Whose r
  whose r e = by (read R s) refl
    where
      own : (log : Log) → read R s ≡ accepted log → c.Fits log ⊎ c.Fails log → Whose r
      own log g (inl h) = absurd (c.answers log h r (ap c.answer (sym g) ∙ e))
      own log g (inr h) =
          inr (told_same (refusal c.number 0 0) r (sym (c.fails log h) ∙ ap c.answer (sym g) ∙ e), log, (accepted_when_written R s log).0 g, h)

      by : (a : Reading) → read R s ≡ a → Whose r
      by (accepted log) g = own log g (c.either log)
      by (refused q) g = inl (g ∙ ap refused (told_same q r (sym (c.passes_on q) ∙ ap c.answer (sym g) ∙ e)))

  reads_refused : (r : Refusal) → read R s ≡ refused r → c.answer (read R s) ≡ c.refuses r
  reads_refused r e = ap c.answer e ∙ c.passes_on r

  own_number : (n f : ℕ) → (c.answer (read R s) ≡ c.refuses (refusal c.number n f)) ↔ ((n ≡ 0) × (f ≡ 0) × (log : Log) × IsWrittenAs R s log × c.Fails log)
  own_number n f = (
    λ e. by (whose (refusal c.number n f) e),
    λ p.
        let (k, z, log, w, h) = p in
        ap c.answer ((accepted_when_written R s log).1 w) ∙ c.fails log h ∙ cc,
  )
    where
      by : Whose (refusal c.number n f) → (n ≡ 0) × (f ≡ 0) × (log : Log) × IsWrittenAs R s log × c.Fails log
      by (inl e) = absurd (omega (arith, (numbered R s (refusal c.number n f) e).1, c.late))
      by (inr (q, log, w, h)) = (sym (ap (λ (r : Refusal). r.line) q), sym (ap (λ (r : Refusal). r.field) q), log, w, h)

  other_numbers : (r : Refusal) → (r.number ≡ c.number → ⊥) → (c.answer (read R s) ≡ c.refuses r) ↔ (read R s ≡ refused r)
  other_numbers r k = (λ e. by (whose r e), reads_refused r)
    where
      by : Whose r → read R s ≡ refused r
      by (inl e) = e
      by (inr (q, log, w, h)) = absurd (k (sym (ap (λ (x : Refusal). x.number) q)))

  -- Number 0 is told exactly where the log is accepted and the call has no refusal of its own.
  zero_told : (c.told (c.answer (read R s))).number ≡ 0 ↔ ((log : Log) × IsWrittenAs R s log × c.Fits log)
  zero_told = (
    λ e. by e (read R s) refl,
    λ p.
        let (log, w, h) = p in
        ap (λ (r : Refusal). r.number) (ap (λ (a : Reading). c.told (c.answer a)) ((accepted_when_written R s log).1 w) ∙ c.fits log h) ∙ unfold no_refusal in refl,
  )
    where
      own : (log : Log) → (c.told (c.answer (accepted log))).number ≡ 0 → c.Fits log ⊎ c.Fails log → c.Fits log
      own log e (inl h) = h
      own log e (inr h) =
          let k : c.number ≡ (c.told (c.answer (accepted log))).number = ap (λ (r : Refusal). r.number) (sym (c.tells (refusal c.number 0 0)) ∙ ap c.told (sym (c.fails log h))) in
          absurd (omega (arith, c.late))

      by : (c.told (c.answer (read R s))).number ≡ 0 → (a : Reading) → read R s ≡ a → (log : Log) × IsWrittenAs R s log × c.Fits log
      by e (accepted log) g =
          (log, (accepted_when_written R s log).0 g, own log (ap (λ (a : Reading). (c.told (c.answer a)).number) (sym g) ∙ e) (c.either log))
      by e (refused r) g =
          let k : r.number ≡ 0 = ap (λ (x : Refusal). x.number) (sym (c.tells r) ∙ ap c.told (sym (reads_refused r g))) ∙ e in
          absurd (omega (arith, (numbered R s r g).0))

  rightly_placed : LineAndField (c.told (c.answer (read R s)))
  rightly_placed = by (read R s) refl
    where
      own : (log : Log) → c.Fits log ⊎ c.Fails log → LineAndField (c.told (c.answer (accepted log)))
      own log (inl h) = rw (c.fits log h) (unfold no_refusal in no_place 0 (inl (omega arith)))
      own log (inr h) = rw (c.fails log h, c.tells (refusal c.number 0 0)) (no_place c.number (inr c.late))

      by : (a : Reading) → read R s ≡ a → LineAndField (c.told (c.answer (read R s)))
      by (accepted log) g = rw g (own log (c.either log))
      by (refused r) g = rw (reads_refused r g, c.tells r) (placed R s r g)

-- # Reading, as a call

reading_call : Call Reading
unfolding refusal_of_reading
reading_call =
    record {
      answer = λ a. a;
      refuses = refused;
      told = refusal_of_reading;
      number = 7;
      Fits = λ log. Unit {0};
      Fails = λ log. ⊥;
      late = omega arith;
      passes_on = λ r. refl;
      tells = λ r. refl;
      fits = λ log h. refl;
      answers = λ log h r e. let z : ◌≡◌ {A = ℕ} 0 1 = cc in omega arith;
      fails = λ log h. absurd h;
      either = λ log. inl tt;
    }

-- # Judging

module _ (R : Rules) (room : ℕ) where
  judging_call : Call Judgement
  unfolding judge_reading judge_log refusal_of_judgement
  judging_call =
      record {
        answer = judge_reading R room;
        refuses = unjudged;
        told = refusal_of_judgement;
        number = 7;
        Fits = λ log. length log.records ≤ room;
        Fails = λ log. room < length log.records;
        late = omega arith;
        passes_on = λ r. refl;
        tells = λ r. refl;
        fits = λ log h. rw (le-ltb room (length log.records) h);
        answers = answers;
        fails = λ log h. rw (lt-ltb room (length log.records) h);
        either = λ log. by log (dec_lt room (length log.records));
      }
    where
      answers : (log : Log) → length log.records ≤ room → (r : Refusal) → judge_log R room log ≡ unjudged r → ⊥
      answers log h r e =
          let b : ltb room (length log.records) ≡ false = le-ltb room (length log.records) h in
          let f = judged (totals_of_log R log) (map verdict_number (verdicts_of_log R log)) in
          let q : f ≡ unjudged r = ap (λ (c : Bool). cond c (unjudged (refusal 7 0 0)) f) (sym b) ∙ e in
          let z : ◌≡◌ {A = ℕ} 0 1 = cc in
          omega arith

      by : (log : Log) → Dec (room < length log.records) → (length log.records ≤ room) ⊎ (room < length log.records)
      by log (yes h) = inr h
      by log (no h) = inl (omega arith)

-- # Writing

module _ (R : Rules) (room : ℕ) where
  abbrev result : Log → ℕ
  result log = length (render (written_back R log))

  writing_call : Call Writing
  unfolding write_reading write_log refusal_of_writing
  writing_call =
      record {
        answer = write_reading R room;
        refuses = unwritten;
        told = refusal_of_writing;
        number = 8;
        Fits = λ log. (result log ≤ R.longest_log) × (result log ≤ room);
        Fails = λ log. (R.longest_log < result log) ⊎ (room < result log);
        late = omega arith;
        passes_on = λ r. refl;
        tells = λ r. refl;
        fits = λ log h. rw (le-leb (result log) R.longest_log h.0, le-leb (result log) room h.1);
        answers = answers;
        fails = fails;
        either = λ log. by log (dec_lt R.longest_log (result log)) (dec_lt room (result log));
      }
    where
      answers : (log : Log) → (result log ≤ R.longest_log) × (result log ≤ room) → (r : Refusal) → write_log R room log ≡ unwritten r → ⊥
      answers log h r e =
          let t = render (written_back R log) in
          let b : (leb (length t) R.longest_log && leb (length t) room) ≡ true = rw (le-leb (length t) R.longest_log h.0, le-leb (length t) room h.1) in
          let q : written t ≡ unwritten r = ap (λ (c : Bool). cond c (written t) (unwritten (refusal 8 0 0))) (sym b) ∙ e in
          let z : ◌≡◌ {A = ℕ} 0 1 = cc in
          omega arith

      fails : (log : Log) → (R.longest_log < result log) ⊎ (room < result log) → write_log R room log ≡ unwritten (refusal 8 0 0)
      fails log (inl h) = rw (lt-leb (result log) R.longest_log h)
      fails log (inr h) = rw (lt-leb (result log) room h, and-false (leb (result log) R.longest_log))

      by : (log : Log) → Dec (R.longest_log < result log) → Dec (room < result log) → ((result log ≤ R.longest_log) × (result log ≤ room)) ⊎ ((R.longest_log < result log) ⊎ (room < result log))
      by log (yes h) k = inr (inl h)
      by log (no h) (yes k) = inr (inr k)
      by log (no h) (no k) = inl (omega arith, omega arith)

-- # Viewing

viewing_call : ℕ → Entry → List Entry → Call Viewing
unfolding view_of_reading refusal_of_view
viewing_call k e es =
    record {
      answer = view_of_reading k (e ∷ es);
      refuses = unseen;
      told = refusal_of_view;
      number = 9;
      Fits = λ log. Unit {0};
      Fails = λ log. ⊥;
      late = omega arith;
      passes_on = λ r. refl;
      tells = λ r. refl;
      fits = λ log h. refl;
      answers = λ log h r q. let z : ◌≡◌ {A = ℕ} 0 1 = cc in omega arith;
      fails = λ log h. absurd h;
      either = λ log. inl tt;
    }

module _ (R : Rules) (k : ℕ) (s : Text) where
  -- A keyword number from 1 to 36 names a keyword, and any other gives 9.
  record Named : Type 0 where
    entry : Entry
    others : List Entry
    views : view R k s ≡ view_of_reading k (entry ∷ others) (read R s)

  named : 1 ≤ k → k ≤ 36 → Named
  unfolding view
  named low high =
      let few : k - 1 < length entries = unfold entries in omega arith in
      let (e, (es, left)) = keyword_after (k - 1) few in
      record {
        entry = e;
        others = es;
        views = rw (le-leb 1 k low) (ap (λ (x : List Entry). view_of_reading k x (read R s)) left);
      }

  beyond : (k < 1) ⊎ (36 < k) → view R k s ≡ unseen (refusal 9 0 0)
  unfolding view view_of_reading
  beyond (inl low) = rw (lt-leb 1 k low)
  beyond (inr high) =
      let many : length entries ≤ k - 1 = omega arith in
      rw (le-leb 1 k (omega arith), drop_of_length-le entries many)

  range : ((1 ≤ k) × (k ≤ 36)) ⊎ ((k < 1) ⊎ (36 < k))
  range = by (dec_lt k 1) (dec_lt 36 k)
    where
      by : Dec (k < 1) → Dec (36 < k) → ((1 ≤ k) × (k ≤ 36)) ⊎ ((k < 1) ⊎ (36 < k))
      by (yes low) high = inr (inl low)
      by (no low) (yes high) = inr (inr high)
      by (no low) (no high) = inl (omega arith, omega arith)

  outside : (k < 1) ⊎ (36 < k) → (1 ≤ k) × (k ≤ 36) → ⊥
  outside (inl h) (low, high) = omega arith
  outside (inr h) (low, high) = omega arith

  unseen_same : {q r : Refusal} → unseen q ≡ unseen r → q ≡ r
  unseen_same e = cc

  nine_when : (n f : ℕ) → (view R k s ≡ unseen (refusal 9 n f)) ↔ ((n ≡ 0) × (f ≡ 0) × ((1 ≤ k) × (k ≤ 36) → ⊥))
  unfolding viewing_call
  nine_when n f = (λ e. by range e, λ p. back range p)
    where
      by : ((1 ≤ k) × (k ≤ 36)) ⊎ ((k < 1) ⊎ (36 < k)) → view R k s ≡ unseen (refusal 9 n f) → (n ≡ 0) × (f ≡ 0) × ((1 ≤ k) × (k ≤ 36) → ⊥)
      by (inl (low, high)) e =
          let m = named low high in
          absurd ((own_number R s (viewing_call k m.entry m.others) n f).0 (sym m.views ∙ e)).4
      by (inr h) e =
          let q = unseen_same (sym (beyond h) ∙ e) in
          (sym (ap (λ (r : Refusal). r.line) q), sym (ap (λ (r : Refusal). r.field) q), outside h)

      back : ((1 ≤ k) × (k ≤ 36)) ⊎ ((k < 1) ⊎ (36 < k)) → (n ≡ 0) × (f ≡ 0) × ((1 ≤ k) × (k ≤ 36) → ⊥) → view R k s ≡ unseen (refusal 9 n f)
      back (inl h) (l, z, no_name) = absurd (no_name h)
      back (inr h) (l, z, no_name) = beyond h ∙ cc

  view_else : (r : Refusal) → (r.number ≡ 9 → ⊥) → (view R k s ≡ unseen r) ↔ ((1 ≤ k) × (k ≤ 36) × (read R s ≡ refused r))
  unfolding viewing_call
  view_else r other = (
    λ e. by range e,
    λ p.
        let (low, high, e) = p in
        let m = named low high in
        m.views ∙ (other_numbers R s (viewing_call k m.entry m.others) r other).1 e,
  )
    where
      by : ((1 ≤ k) × (k ≤ 36)) ⊎ ((k < 1) ⊎ (36 < k)) → view R k s ≡ unseen r → (1 ≤ k) × (k ≤ 36) × (read R s ≡ refused r)
      by (inl (low, high)) e =
          let m = named low high in
          (low, high, (other_numbers R s (viewing_call k m.entry m.others) r other).0 (sym m.views ∙ e))
      by (inr h) e = absurd (other (sym (ap (λ (q : Refusal). q.number) (unseen_same (sym (beyond h) ∙ e)))))

  view_zero : ((refusal_of_view (view R k s)).number ≡ 0) ↔ ((1 ≤ k) × (k ≤ 36) × FollowsTheFormat R s)
  unfolding viewing_call refusal_of_view
  view_zero = (
    λ e. by range e,
    λ p.
        let (low, high, (log, w)) = p in
        let m = named low high in
        ap (λ (v : Viewing). (refusal_of_view v).number) m.views ∙ (zero_told R s (viewing_call k m.entry m.others)).1 (log, w, tt),
  )
    where
      by : ((1 ≤ k) × (k ≤ 36)) ⊎ ((k < 1) ⊎ (36 < k)) → (refusal_of_view (view R k s)).number ≡ 0 → (1 ≤ k) × (k ≤ 36) × FollowsTheFormat R s
      by (inl (low, high)) e =
          let m = named low high in
          let (log, w, fits) = (zero_told R s (viewing_call k m.entry m.others)).0 (ap (λ (v : Viewing). (refusal_of_view v).number) (sym m.views) ∙ e) in
          (low, high, (log, w))
      by (inr h) e =
          let nine : ◌≡◌ {A = ℕ} 9 0 = ap (λ (v : Viewing). (refusal_of_view v).number) (sym (beyond h)) ∙ e in
          absurd (omega arith)

  view_placed : LineAndField (refusal_of_view (view R k s))
  unfolding viewing_call refusal_of_view
  view_placed = by range
    where
      by : ((1 ≤ k) × (k ≤ 36)) ⊎ ((k < 1) ⊎ (36 < k)) → LineAndField (refusal_of_view (view R k s))
      by (inl (low, high)) =
          let m = named low high in
          rw m.views (rightly_placed R s (viewing_call k m.entry m.others))
      by (inr h) = rw (beyond h) (no_place 9 (inr (omega arith)))

-- # All of it

given_by_the_others : (R : Rules) → GivenByTheOthers R
unfolding judging_call judge writing_call write
given_by_the_others R =
    record {
      seven = λ s room. own_number R s (judging_call R room);
      eight = λ s room. own_number R s (writing_call R room);
      nine = λ s k. nine_when R k s;
      judging_else = λ s room. other_numbers R s (judging_call R room);
      writing_else = λ s room. other_numbers R s (writing_call R room);
      viewing_else = λ s k. view_else R k s;
    }

pub given_exactly_when_lem : (R : Rules) → GivenExactlyWhen R
given_exactly_when_lem R = record { reading = given_by_reading R; others = given_by_the_others R }

read_zero : (R : Rules) (s : Text) → ((refusal_of_reading (read R s)).number ≡ 0) ↔ FollowsTheFormat R s
unfolding reading_call
read_zero R s = (
  λ e. let (log, w, fits) = (zero_told R s reading_call).0 e in (log, w),
  λ p. (zero_told R s reading_call).1 (p.0, p.1, tt),
)

pub zero_when_accepted_lem : (R : Rules) → ZeroWhenAccepted R
unfolding judging_call judge writing_call write
zero_when_accepted_lem R =
    record {
      reading = read_zero R;
      viewing = λ s k. view_zero R k s;
      judging = λ s room. zero_told R s (judging_call R room);
      writing = λ s room. (
        λ e. let (log, w, h) = (zero_told R s (writing_call R room)).0 e in (log, w, h.0, h.1),
        λ p. (zero_told R s (writing_call R room)).1 (p.0, p.1, (p.2, p.3)),
      );
    }

pub line_and_field_told : (R : Rules) → LineAndFieldToldRightly R
unfolding reading_call judging_call judge writing_call write
line_and_field_told R =
    record {
      reading = λ s. rightly_placed R s reading_call;
      viewing = λ s k. view_placed R k s;
      judging = λ s room. rightly_placed R s (judging_call R room);
      writing = λ s room. rightly_placed R s (writing_call R room);
    }
