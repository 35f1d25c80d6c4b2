-- Laws of the session's numbers: what each of its tests says, and what starting, taking and giving back answer by them.
-- Assumes nothing.
use Prim.Native.Nat.{ℕ, ◌+◌, ◌-◌, ◌*◌, ◌/◌, ◌≤◌, ◌<◌}
use native.Mathlib.Omega.{arith}
use mathlib.Core.Path.{◌≡◌, refl, sym, ap, ◌∙◌}
use mathlib.Core.Bool.{Bool, true, false, cond, ◌&&◌}
use mathlib.Core.List.{List}
use lib.Dec.{leb}
use lib.ListN.{length, drop, get_or, set}
use lib.Seq.{get_or-drop}
use borrow.Author.Tests.{le-leb, lt-leb, ltb-true, lt-ltb, le-ltb}
use Rattle.std.specs.Prelude.{Result, Ok, Err}
use Rattle.rules.specs.declared.Class.{Class}
use Rattle.rules.specs.declared.Class.TheVariants.{Credited, Void, Duplicate, Error}
use Rattle.rules.specs.declared.Fault.{Fault}
use Rattle.rules.specs.declared.Verdict.{Verdict}
use Rattle.rules.specs.Text.{Text}
use Rattle.rules.specs.Rules.{Rules}
use Rattle.rules.specs.Log.{conjunction}
use Rattle.rules.specs.declared.Modes.{Modes}
use Rattle.rules.specs.Judging.{class_number, is, mode_numbers}
use Rattle.rules.specs.Reading.{RecordRule, keeps, breaks, record_rule}
use Rattle.rules.specs.Session.{declared_rule}
use Rattle.rules.proofs.Tests.{fails, and_l, and_r}
use Rattle.rules.proofs.ValidLogs.{test_at, at_most}
use Rattle.places.specs.declared.Declared.{Declared}
use Rattle.judge.specs.declared.Tally.{Tally}
use Rattle.judge.specs.Count.{worth_if, mode_place, modes_in, no_tally, as_declared}
use Rattle.judge.specs.Sums.{sound_sums, verdict_in}
use Rattle.judge.proofs.SumLaws.{last_test, untrue, sound_facts}
use Rattle.session.specs.declared.Session.{Session}
use Rattle.session.specs.declared.KeptLine.{KeptLine}
use Rattle.session.specs.declared.Replied.{Replied}
use Rattle.session.specs.Entry.{points_in, keeps_rules, place_tests, has_place_for, is_kept, told_line, not_taken, line_kept, verdicts_kept, bytes_kept}
use Rattle.session.specs.Session.{reachable, present, refused_by, accepted, fresh_session, started, kept_bytes, is_ready, is_taken, with_record, with_taken, not_taken_by, taken, next_place, verdicts_taken, kept_taken, brought_by, holds_tests, holds_tally, less_tally, last_worth, last_verdict, last_brought, last_mode, mode_count, reach_tests, slices_reach, holds_record, less_record, taken_off, given_back}

-- # The numbers

module _ (R : Rules) (s : Session) where
  pub unsound : sound_sums R s.sums ≡ false → false ≡ reachable R s
  unfolding reachable
  unsound e = rw e

  pub reached_by : sound_sums R s.sums ≡ true → declared_rule R (as_declared s.declared) ≡ reachable R s
  unfolding reachable
  reached_by e = rw e

  pub few_present : reachable R s ≡ true → present s ≤ R.most_records
  unfolding reachable
  few_present e =
      (sound_facts R s.sums (and_l (sound_sums R s.sums) (declared_rule R (as_declared s.declared)) e)).few

  -- Where the next record is kept.
  pub ready_place : (verdicts : ℕ) → is_ready R s ≡ true → next_place R s verdicts ≡ present s
  unfolding next_place
  ready_place verdicts e = rw e

  pub unready_place : (verdicts : ℕ) → is_ready R s ≡ false → next_place R s verdicts ≡ verdicts
  unfolding next_place
  unready_place verdicts e = rw e

  pub place_unreached : (verdicts : ℕ) → reachable R s ≡ false → verdicts ≡ next_place R s verdicts
  unfolding next_place is_ready
  place_unreached verdicts e = rw e

  pub place_next : (verdicts : ℕ) → reachable R s ≡ true → present s < R.most_records → present s ≡ next_place R s verdicts
  unfolding next_place is_ready
  place_next verdicts e h = rw (e, lt-ltb (present s) R.most_records h)

  pub place_full : (verdicts : ℕ) → reachable R s ≡ true → R.most_records ≤ present s → verdicts ≡ next_place R s verdicts
  unfolding next_place is_ready
  place_full verdicts e h = rw (e, le-ltb (present s) R.most_records h)

  -- # Starting

  pub start_refused : (d : Declared) → declared_rule R (as_declared d) ≡ false → refused_by s 4 0 ≡ started R s d
  unfolding started
  start_refused d e = rw e

  pub start_accepted : (d : Declared) → declared_rule R (as_declared d) ≡ true → refused_by (fresh_session d) 0 0 ≡ started R s d
  unfolding started
  start_accepted d e = rw e

-- # Taking a line

module _ (R : Rules) (s : Session) (l : Text) (verdicts kept : List ℕ) where
  abbrev line : Result KeptLine Fault
  line = line_kept R l (next_place R s (length verdicts)) kept_bytes verdicts kept

  -- Behind all that the slice holds there is no place.
  none_behind : is_kept R l (length verdicts) kept_bytes verdicts kept ≡ false
  unfolding is_kept has_place_for
  none_behind =
      fails (is_kept R l (length verdicts) kept_bytes verdicts kept)
      (λ e.
      let n = length verdicts in
      let tests = place_tests n kept_bytes n (length kept) in
      let inside = ltb-true n n (test_at tests 2 (and_r (keeps_rules (record_rule R l)) (conjunction tests) e)) in
      omega arith)

  -- What is so at the next place, by whether the session is ready.
  at_place : {A : Type 0} (f : ℕ → A) (g : Bool → A) → f (present s) ≡ g true → f (length verdicts) ≡ g false → f (next_place R s (length verdicts)) ≡ g (is_ready R s)
  at_place f g e h = by (is_ready R s) refl
    where
      by : (b : Bool) → is_ready R s ≡ b → f (next_place R s (length verdicts)) ≡ g b
      by true z = ap f (ready_place R s (length verdicts) z) ∙ e
      by false z = ap f (unready_place R s (length verdicts) z) ∙ h

  verdicts_taken_lem : verdicts_kept R l (next_place R s (length verdicts)) kept_bytes verdicts kept ≡ verdicts_taken R s l verdicts kept
  unfolding verdicts_taken verdicts_kept
  verdicts_taken_lem =
      at_place (λ (n : ℕ). verdicts_kept R l n kept_bytes verdicts kept) (λ (b : Bool). cond b (verdicts_kept R l (present s) kept_bytes verdicts kept) verdicts) refl (rw none_behind)

  bytes_taken : bytes_kept R l (next_place R s (length verdicts)) kept_bytes verdicts kept ≡ kept_taken R s l verdicts kept
  unfolding kept_taken bytes_kept
  bytes_taken =
      at_place (λ (n : ℕ). bytes_kept R l n kept_bytes verdicts kept) (λ (b : Bool). cond b (bytes_kept R l (present s) kept_bytes verdicts kept) kept) refl (rw none_behind)

  -- The line is kept at its place exactly where the session takes it.
  kept_is_taken : is_kept R l (next_place R s (length verdicts)) kept_bytes verdicts kept ≡ is_taken R s l verdicts kept
  unfolding is_taken
  kept_is_taken =
      at_place (λ (n : ℕ). is_kept R l n kept_bytes verdicts kept) (λ (b : Bool). b && is_kept R l (present s) kept_bytes verdicts kept) refl none_behind

  -- What the session answers to what is told of the line.
  answered : Result KeptLine Fault → Replied
  answered (Ok k) = accepted (with_record R s k.worth k.mode k.number)
  answered (Err e) = refused_by s e.number e.field

  line_told : is_taken R s l verdicts kept ≡ true → line ≡ Ok (told_line R l (next_place R s (length verdicts)) kept_bytes kept)
  unfolding line_kept
  line_told e = rw (kept_is_taken ∙ e)

  line_not : is_taken R s l verdicts kept ≡ false → line ≡ Err (not_taken (record_rule R l))
  unfolding line_kept
  line_not e = rw (kept_is_taken ∙ e)

  -- What is refused is told by the rule of the record.
  refusal_told : (r : RecordRule) → answered (Err (not_taken r)) ≡ not_taken_by s r
  unfolding answered not_taken not_taken_by
  refusal_told (breaks field) = refl
  refusal_told keeps = refl

  not_taken_lem : is_taken R s l verdicts kept ≡ false → not_taken_by s (record_rule R l) ≡ taken R s l verdicts kept
  unfolding taken
  not_taken_lem e = rw e

  ready : is_taken R s l verdicts kept ≡ true → is_ready R s ≡ true
  unfolding is_taken
  ready e = and_l (is_ready R s) (is_kept R l (present s) kept_bytes verdicts kept) e

  with_taken_lem : is_taken R s l verdicts kept ≡ true → answered (Ok (told_line R l (next_place R s (length verdicts)) kept_bytes kept)) ≡ accepted (with_taken R s l kept)
  unfolding answered with_taken
  with_taken_lem e =
      ap (λ (n : ℕ). let k = told_line R l n kept_bytes kept in accepted (with_record R s k.worth k.mode k.number)) (ready_place R s (length verdicts) (ready e))

  is_taken_lem : is_taken R s l verdicts kept ≡ true → accepted (with_taken R s l kept) ≡ taken R s l verdicts kept
  unfolding taken
  is_taken_lem e = rw e

  line_answered : answered line ≡ taken R s l verdicts kept
  line_answered = by (is_taken R s l verdicts kept) refl
    where
      by : (b : Bool) → is_taken R s l verdicts kept ≡ b → answered line ≡ taken R s l verdicts kept
      by true e = ap answered (line_told e) ∙ with_taken_lem e ∙ is_taken_lem e
      by false e = ap answered (line_not e) ∙ refusal_told (record_rule R l) ∙ not_taken_lem e

  -- The same of what was told of the line, at a place.
  module _ {n : ℕ} (place : n ≡ next_place R s (length verdicts)) where
    told_answered : {told : Result KeptLine Fault} → told ≡ line_kept R l n kept_bytes verdicts kept → answered told ≡ taken R s l verdicts kept
    told_answered e = ap answered (e ∙ ap (λ (m : ℕ). line_kept R l m kept_bytes verdicts kept) place) ∙ line_answered

    pub refused_told : {told : Result KeptLine Fault} {e : Fault} → told ≡ line_kept R l n kept_bytes verdicts kept → told ≡ Err e → refused_by s e.number e.field ≡ taken R s l verdicts kept
    unfolding answered
    refused_told told same = told_answered (sym same ∙ told)

    pub accepted_told : {told : Result KeptLine Fault} {k : KeptLine} → told ≡ line_kept R l n kept_bytes verdicts kept → told ≡ Ok k → accepted (with_record R s k.worth k.mode k.number) ≡ taken R s l verdicts kept
    unfolding answered
    accepted_told told same = told_answered (sym same ∙ told)

    pub verdicts_told : {out : List ℕ} → out ≡ verdicts_kept R l n kept_bytes verdicts kept → out ≡ verdicts_taken R s l verdicts kept
    verdicts_told e = e ∙ ap (λ (m : ℕ). verdicts_kept R l m kept_bytes verdicts kept) place ∙ verdicts_taken_lem

    pub bytes_told : {out : List ℕ} → out ≡ bytes_kept R l n kept_bytes verdicts kept → out ≡ kept_taken R s l verdicts kept
    bytes_told e = e ∙ ap (λ (m : ℕ). bytes_kept R l m kept_bytes verdicts kept) place ∙ bytes_taken

-- # Giving back

-- What a record of a class brought.
abbrev brought_as : Class → ℕ → Verdict → Tally
brought_as class worth v =
    record {
      credited = worth_if (is Credited class) 1;
      voids = worth_if (is Void class) 1;
      duplicates = worth_if (is Duplicate class) 1;
      errors = worth_if (is Error class) 1;
      points = worth_if (is Credited class) worth;
      squares = worth_if v.square 1;
      exchanges = worth_if v.exchange 1;
      countries = worth_if v.country 1;
    }

brought_as_lem : {class : Class} (worth : ℕ) (v : Verdict) → v.class ≡ class → brought_as class worth v ≡ brought_by worth v
unfolding brought_by
brought_as_lem worth v e = ap (λ (c : Class). brought_as c worth v) (sym e)

-- The sums of no record, with what a record of each class brings.
module _ (worth : ℕ) (v : Verdict) {n : Tally} {q x y : ℕ} (e : n ≡ no_tally) (eq : q ≡ worth_if v.square 1) (ex : x ≡ worth_if v.exchange 1) (ey : y ≡ worth_if v.country 1) where
  pub brought_credited : v.class ≡ Credited → ◌≡◌ {A = Tally} (record { credited = 1; voids = n.voids; duplicates = n.duplicates; errors = n.errors; points = worth; squares = q; exchanges = x; countries = y }) (brought_by worth v)
  unfolding no_tally is class_number
  brought_credited h =
      (λ i. record { credited = 1; voids = (e i).voids; duplicates = (e i).duplicates; errors = (e i).errors; points = worth; squares = eq i; exchanges = ex i; countries = ey i })
      ∙ brought_as_lem worth v h

  pub brought_void : v.class ≡ Void → ◌≡◌ {A = Tally} (record { credited = n.credited; voids = 1; duplicates = n.duplicates; errors = n.errors; points = n.points; squares = q; exchanges = x; countries = y }) (brought_by worth v)
  unfolding no_tally is class_number
  brought_void h =
      (λ i. record { credited = (e i).credited; voids = 1; duplicates = (e i).duplicates; errors = (e i).errors; points = (e i).points; squares = eq i; exchanges = ex i; countries = ey i })
      ∙ brought_as_lem worth v h

  pub brought_duplicate : v.class ≡ Duplicate → ◌≡◌ {A = Tally} (record { credited = n.credited; voids = n.voids; duplicates = 1; errors = n.errors; points = n.points; squares = q; exchanges = x; countries = y }) (brought_by worth v)
  unfolding no_tally is class_number
  brought_duplicate h =
      (λ i. record { credited = (e i).credited; voids = (e i).voids; duplicates = 1; errors = (e i).errors; points = (e i).points; squares = eq i; exchanges = ex i; countries = ey i })
      ∙ brought_as_lem worth v h

  pub brought_error : v.class ≡ Error → ◌≡◌ {A = Tally} (record { credited = n.credited; voids = n.voids; duplicates = n.duplicates; errors = 1; points = n.points; squares = q; exchanges = x; countries = y }) (brought_by worth v)
  unfolding no_tally is class_number
  brought_error h =
      (λ i. record { credited = (e i).credited; voids = (e i).voids; duplicates = (e i).duplicates; errors = 1; points = (e i).points; squares = eq i; exchanges = ex i; countries = ey i })
      ∙ brought_as_lem worth v h

pub record Holds (b t : Tally) : Type 0 where
  pub credited : b.credited ≤ t.credited
  pub voids : b.voids ≤ t.voids
  pub duplicates : b.duplicates ≤ t.duplicates
  pub errors : b.errors ≤ t.errors
  pub points : b.points ≤ t.points
  pub squares : b.squares ≤ t.squares
  pub exchanges : b.exchanges ≤ t.exchanges
  pub countries : b.countries ≤ t.countries

module _ (b t : Tally) where
  pub holds_facts : holds_tally b t ≡ true → Holds b t
  unfolding holds_tally
  holds_facts e =
      let test : (n : ℕ) → get_or (holds_tests b t) n true ≡ true = λ n. test_at (holds_tests b t) n e in
      record {
        credited = at_most (test 0);
        voids = at_most (test 1);
        duplicates = at_most (test 2);
        errors = at_most (test 3);
        points = at_most (test 4);
        squares = at_most (test 5);
        exchanges = at_most (test 6);
        countries = at_most (test 7);
      }

  pub not_holds : (Holds b t → ⊥) → false ≡ holds_tally b t
  not_holds f = untrue (λ e. f (holds_facts e))

  pub holds_last : b.credited ≤ t.credited → b.voids ≤ t.voids → b.duplicates ≤ t.duplicates → b.errors ≤ t.errors → b.points ≤ t.points → b.squares ≤ t.squares → b.exchanges ≤ t.exchanges → leb b.countries t.countries ≡ holds_tally b t
  unfolding holds_tally conjunction
  holds_last a c d e f g h =
      rw (
        le-leb b.credited t.credited a,
        le-leb b.voids t.voids c,
        le-leb b.duplicates t.duplicates d,
        le-leb b.errors t.errors e,
        le-leb b.points t.points f,
        le-leb b.squares t.squares g,
        le-leb b.exchanges t.exchanges h,
      )
      (last_test (leb b.countries t.countries))

-- What the three bytes say.
pub points_read : (l : List ℕ) (at : ℕ) → get_or l (at + 24) 0 + get_or l (at + 24 + 1) 0 * 256 + get_or l (at + 24 + 2) 0 * 65536 ≡ points_in (drop (at + 24) l)
unfolding points_in
points_read l at =
    let zeroth : get_or (drop (at + 24) l) 0 0 ≡ get_or l (at + 24) 0 = get_or-drop (at + 24) l 0 0 ∙ ap (λ (n : ℕ). get_or l n 0) (omega arith) in
    rw (zeroth, get_or-drop (at + 24) l 1 0, get_or-drop (at + 24) l 2 0)

module _ (R : Rules) (s : Session) (verdicts kept : ℕ) where
  pub not_reached : reachable R s ≡ false → false ≡ slices_reach R s verdicts kept
  unfolding slices_reach conjunction
  not_reached e = rw e

  pub none_present : reachable R s ≡ true → present s ≡ 0 → false ≡ slices_reach R s verdicts kept
  unfolding slices_reach conjunction
  none_present e z = rw (e, le-ltb 0 (present s) (omega arith))

  pub short_verdicts : reachable R s ≡ true → (present s ≡ 0 → ⊥) → verdicts < present s → false ≡ slices_reach R s verdicts kept
  unfolding slices_reach conjunction
  short_verdicts e z h = rw (e, lt-ltb 0 (present s) (omega arith), lt-leb (present s) verdicts h)

  pub reach_last : reachable R s ≡ true → (present s ≡ 0 → ⊥) → present s ≤ verdicts → leb (present s) (kept / kept_bytes) ≡ slices_reach R s verdicts kept
  unfolding slices_reach conjunction
  reach_last e z h = rw (e, lt-ltb 0 (present s) (omega arith), le-leb (present s) verdicts h) (last_test (leb (present s) (kept / kept_bytes)))

  -- What is known where they reach.
  pub record Reached : Type 0 where
    pub reached : reachable R s ≡ true
    pub some : 0 < present s
    pub in_verdicts : present s ≤ verdicts
    pub in_kept : present s ≤ kept / kept_bytes

  pub reach_facts : slices_reach R s verdicts kept ≡ true → Reached
  unfolding slices_reach
  reach_facts e =
      let tests = reach_tests R s verdicts kept in
      record {
        reached = test_at tests 0 e;
        some = ltb-true 0 (present s) (test_at tests 1 e);
        in_verdicts = at_most (test_at tests 2 e);
        in_kept = at_most (test_at tests 3 e);
      }

module _ (s : Session) (brought : Tally) (mode : ℕ) where
  pub off_tally : holds_tally brought s.sums.tally ≡ false → refused_by s 12 0 ≡ taken_off s brought mode
  unfolding taken_off holds_record
  off_tally e = rw e

  pub off_mode : holds_tally brought s.sums.tally ≡ true → mode_count s mode < brought.credited → refused_by s 12 0 ≡ taken_off s brought mode
  unfolding taken_off holds_record
  off_mode e h = rw (e, lt-leb brought.credited (mode_count s mode) h)

  pub off_both : holds_tally brought s.sums.tally ≡ true → brought.credited ≤ mode_count s mode → refused_by (less_record s brought mode) 0 0 ≡ taken_off s brought mode
  unfolding taken_off holds_record
  off_both e h = rw (e, le-leb brought.credited (mode_count s mode) h)

-- The count of a mode is read from the list of them, and what is left is made of it.
pub mode_read : (s : Session) (mode : ℕ) {list : List ℕ} → list ≡ mode_numbers s.sums.modes → get_or list mode 0 ≡ mode_count s mode
unfolding mode_count
mode_read s mode e = ap (λ (l : List ℕ). get_or l mode 0) e

pub less_made : (s : Session) (brought : Tally) (mode : ℕ) {t : Tally} {m : Modes} {list : List ℕ} → list ≡ mode_numbers s.sums.modes → t ≡ less_tally brought s.sums.tally → m ≡ modes_in (set list mode (get_or list mode 0 - brought.credited)) →
    ◌≡◌ {A = Session} (record { declared = s.declared; sums = record { tally = t; modes = m } }) (less_record s brought mode)
unfolding less_record mode_count
less_made s brought mode {t} {m} {list} e f g =
    let h = g ∙ ap (λ (l : List ℕ). modes_in (set l mode (get_or l mode 0 - brought.credited))) e in
    λ i. record { declared = s.declared; sums = record { tally = f i; modes = h i } }

module _ (R : Rules) (s : Session) (verdicts kept : List ℕ) where
  -- What the code reads of the last record, where n records are present.
  pub last_read : (n : ℕ) {w m : ℕ} {v : Verdict} {b : Tally} → n ≡ present s → w ≡ points_in (drop ((n - 1) * 28 + 24) kept) → v ≡ verdict_in (get_or verdicts (n - 1) 0) → b ≡ brought_by w v → m ≡ mode_place (get_or kept ((n - 1) * 28 + 27) 0) → taken_off s b m ≡ taken_off s (last_brought s verdicts kept) (last_mode s kept)
  unfolding last_brought last_worth last_verdict last_mode
  last_read n {w} {m} {v} {b} en ew ev eb em =
      let worth = ew ∙ ap (λ (k : ℕ). points_in (drop ((k - 1) * 28 + 24) kept)) en in
      let verdict = ev ∙ ap (λ (k : ℕ). verdict_in (get_or verdicts (k - 1) 0)) en in
      let mode = em ∙ ap (λ (k : ℕ). mode_place (get_or kept ((k - 1) * 28 + 27) 0)) en in
      λ i. taken_off s ((eb ∙ (λ j. brought_by (worth j) (verdict j))) i) (mode i)

  pub back_refused : slices_reach R s (length verdicts) (length kept) ≡ false → refused_by s 12 0 ≡ given_back R s verdicts kept
  unfolding given_back
  back_refused e = rw e

  pub back_by : slices_reach R s (length verdicts) (length kept) ≡ true → taken_off s (last_brought s verdicts kept) (last_mode s kept) ≡ given_back R s verdicts kept
  unfolding given_back
  back_by e = rw e
