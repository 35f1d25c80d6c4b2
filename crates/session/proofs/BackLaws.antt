-- One record more in the sums, and given back: its verdict is told by a number, and what it brought is taken off again.
-- Assumes nothing.
use Prim.Native.Nat.{ℕ, ◌+◌, ◌-◌, ◌≤◌, ◌<◌}
use native.Mathlib.Omega.{arith}
use mathlib.Core.Path.{◌≡◌, refl, sym, ap, ◌∙◌}
use mathlib.Core.Bool.{Bool, true, false, cond}
use mathlib.Core.List.{List, [], ◌∷◌}
use lib.Dec.{eqb, leb}
use lib.ListN.{length, get_or, set, length-set}
use lib.Seq.{ext_get_or, get_or-set_same, set-set, set-get_or}
use borrow.Author.Tests.{le-leb}
use Rattle.rules.specs.declared.Class.{Class}
use Rattle.rules.specs.declared.Class.TheVariants.{Credited, Void, Duplicate, Error}
use Rattle.rules.specs.declared.Modes.{Modes}
use Rattle.rules.specs.declared.Totals.{Totals}
use Rattle.rules.specs.declared.Verdict.{Verdict}
use Rattle.rules.specs.Text.{Text, semicolon}
use Rattle.rules.specs.Rules.{Rules}
use Rattle.rules.specs.Fields.{Qso}
use Rattle.rules.specs.Log.{conjunction}
use Rattle.rules.specs.Judging.{class_number, is, class_of, square, exchange_of, is_new, claims_country, verdict_of, verdict_number, mode_numbers}
use Rattle.rules.proofs.Tests.{◌beside◌, and_i}
use Rattle.places.specs.declared.Declared.{Declared}
use Rattle.judge.specs.declared.Sums.{Sums}
use Rattle.judge.specs.declared.Tally.{Tally}
use Rattle.judge.specs.Bounds.{most_worth}
use Rattle.judge.specs.Count.{worth_if, mode_place, mode_of, modes_in, add_mode, add_record}
use Rattle.judge.specs.Said.{verdict_by}
use Rattle.judge.specs.Sums.{summed, sums_of, class_in, verdict_in, counts_more, more_sums}
use Rattle.judge.proofs.ModeLaws.{counted_at}
use Rattle.judge.proofs.SaidLaws.{verdict_said}
use Rattle.judge.proofs.SumLaws.{more_by}
use Rattle.session.specs.declared.Session.{Session}
use Rattle.session.specs.Session.{accepted, refused_by, brought_by, holds_tally, less_tally, mode_count, holds_record, less_record, taken_off}
use Rattle.session.proofs.ComeLaws.{Below, each_below, Comes, sound_came}

-- # What is told of a record

-- The number of a verdict tells all of it, as marks are of credited records alone.
verdict_back : (class : Class) (x s c : Bool) → verdict_in (verdict_number (verdict_by class x s c)) ≡ verdict_by class x s c
unfolding verdict_in verdict_number verdict_by class_in is class_number
verdict_back Credited true true true = refl
verdict_back Credited true true false = refl
verdict_back Credited true false true = refl
verdict_back Credited true false false = refl
verdict_back Credited false true true = refl
verdict_back Credited false true false = refl
verdict_back Credited false false true = refl
verdict_back Credited false false false = refl
verdict_back Void x s c = refl
verdict_back Duplicate x s c = refl
verdict_back Error x s c = refl

pub said_back : (R : Rules) (credited : List Qso) (q : Qso) → verdict_in (verdict_number (verdict_of R credited q)) ≡ verdict_of R credited q
said_back R credited q =
    rw (← verdict_said R credited q) (verdict_back (class_of R credited q) (is_new (exchange_of R) credited q) (is_new square credited q) (claims_country q))

-- A blank mode is counted last, whether zero stands for it or the semicolon behind it.
pub mode_told_lem : (q : Qso) → mode_place (get_or q.mode 0 0) ≡ mode_of q
unfolding mode_of
mode_told_lem q = by q.mode
  where
    by : (t : Text) → mode_place (get_or t 0 0) ≡ mode_place (get_or t 0 semicolon)
    by [] = refl
    by (c ∷ t) = refl

-- # One record more

pub more_came : (R : Rules) (n : ℕ) (t : Totals) → Comes R n t → n < R.most_records → (worth mode number : ℕ) → worth ≤ most_worth R → more_sums R (sums_of t) worth mode number ≡ sums_of (add_record t worth (mode_place mode) (verdict_in number))
unfolding more_sums sums_of add_record modes_in mode_numbers
more_came R n t h k worth mode number small =
    let s = sums_of t in
    let yes : counts_more R s worth ≡ true =
    sym (more_by R s worth (sound_came R n t h (omega arith)) (omega (arith, h.count))) ∙ le-leb worth (most_worth R) small in
    ap (λ (b : Bool). cond b (sums_of (add_record (summed s) worth (mode_place mode) (verdict_in number))) s) yes

-- # The counts of the modes

module _ (m : Modes) (k : ℕ) (h : k < 11) where
  one_raised : (i : ℕ) → i < 11 → get_or (mode_numbers (add_mode m k)) i 0 ≡ worth_if (eqb k i) 1 + get_or (mode_numbers m) i 0
  unfolding Below mode_numbers add_mode
  one_raised =
      each_below 11
      (λ i. get_or (mode_numbers (add_mode m k)) i 0 ≡ worth_if (eqb k i) 1 + get_or (mode_numbers m) i 0)
      (refl beside refl beside refl beside refl beside refl beside refl beside refl beside refl beside refl beside refl beside refl beside tt)

  -- One more of a mode is one more at its place of the list.
  set_raised : mode_numbers (add_mode m k) ≡ set (mode_numbers m) k (1 + get_or (mode_numbers m) k 0)
  unfolding mode_numbers
  set_raised =
      let l = mode_numbers m in
      ext_get_or 0 (mode_numbers (add_mode m k)) (set l k (1 + get_or l k 0)) (sym (length-set l k (1 + get_or l k 0)))
      (λ i g. one_raised i g ∙ sym (counted_at l k i h))

length_modes : (m : Modes) → length (mode_numbers m) ≡ 11
unfolding mode_numbers
length_modes m = refl

modes_named : (m : Modes) → modes_in (mode_numbers m) ≡ m
unfolding modes_in mode_numbers
modes_named m = refl

-- And one less of it undoes that.
module _ (m : Modes) (k j : ℕ) (h : k < 11) where
  abbrev numbers : List ℕ
  numbers = mode_numbers m

  abbrev grown : Bool → List ℕ
  grown b = mode_numbers (cond b (add_mode m k) m)

  one_there : get_or (mode_numbers (add_mode m k)) k 0 ≡ 1 + get_or numbers k 0
  one_there = rw (set_raised m k h) (get_or-set_same numbers k (1 + get_or numbers k 0) 0 (omega (arith, length_modes m)))

  mode_held : (b : Bool) → (b ≡ true → j ≡ k) → leb (worth_if b 1) (get_or (grown b) j 0) ≡ true
  mode_held true e = rw (e refl) (le-leb 1 (get_or (mode_numbers (add_mode m k)) k 0) (omega (arith, one_there)))
  mode_held false e = le-leb 0 (get_or numbers j 0) (omega arith)

  mode_undone : (b : Bool) → (b ≡ true → j ≡ k) → modes_in (set (grown b) j (get_or (grown b) j 0 - worth_if b 1)) ≡ m
  mode_undone true e =
      let one : get_or (mode_numbers (add_mode m k)) k 0 - 1 ≡ get_or numbers k 0 = omega (arith, one_there) in
      rw (e refl, one, set_raised m k h, set-set numbers k (1 + get_or numbers k 0) (get_or numbers k 0)) (ap modes_in (set-get_or numbers k 0) ∙ modes_named m)
  mode_undone false e =
      let none : get_or numbers j 0 - 0 ≡ get_or numbers j 0 = omega arith in
      rw none (ap modes_in (set-get_or numbers j 0) ∙ modes_named m)

-- # One record less

within : (a b : ℕ) → leb a (a + b) ≡ true
within a b = le-leb a (a + b) (omega arith)

without : (a b : ℕ) → a + b - a ≡ b
without a b = omega arith

module _ (t : Totals) (worth mode : ℕ) (v : Verdict) where
  abbrev after : Sums
  after = sums_of (add_record t worth mode v)

  brought_held : holds_tally (brought_by worth v) after.tally ≡ true
  unfolding holds_tally conjunction brought_by sums_of add_record
  brought_held =
      and_i (within (worth_if (is Credited v.class) 1) t.credited)
      (and_i (within (worth_if (is Void v.class) 1) t.voids)
      (and_i (within (worth_if (is Duplicate v.class) 1) t.duplicates)
      (and_i (within (worth_if (is Error v.class) 1) t.errors)
      (and_i (within (worth_if (is Credited v.class) worth) t.points)
      (and_i (within (worth_if v.square 1) t.squares)
      (and_i (within (worth_if v.exchange 1) t.exchanges)
      (and_i (within (worth_if v.country 1) t.countries) refl)))))))

  brought_undone : less_tally (brought_by worth v) after.tally ≡ (sums_of t).tally
  unfolding less_tally brought_by sums_of add_record
  brought_undone = λ i.
      record {
        credited = without (worth_if (is Credited v.class) 1) t.credited i;
        voids = without (worth_if (is Void v.class) 1) t.voids i;
        duplicates = without (worth_if (is Duplicate v.class) 1) t.duplicates i;
        errors = without (worth_if (is Error v.class) 1) t.errors i;
        points = without (worth_if (is Credited v.class) worth) t.points i;
        squares = without (worth_if v.square 1) t.squares i;
        exchanges = without (worth_if v.exchange 1) t.exchanges i;
        countries = without (worth_if v.country 1) t.countries i;
      }

  -- What a credited record is worth is told; of another it does not count.
  brought_same : (told : ℕ) → (is Credited v.class ≡ true → told ≡ worth) → brought_by told v ≡ brought_by worth v
  unfolding brought_by
  brought_same told e = λ i.
      record {
        credited = worth_if (is Credited v.class) 1;
        voids = worth_if (is Void v.class) 1;
        duplicates = worth_if (is Duplicate v.class) 1;
        errors = worth_if (is Error v.class) 1;
        points = by (is Credited v.class) e i;
        squares = worth_if v.square 1;
        exchanges = worth_if v.exchange 1;
        countries = worth_if v.country 1;
      }
    where
      by : (b : Bool) → (b ≡ true → told ≡ worth) → worth_if b told ≡ worth_if b worth
      by true f = f refl
      by false f = refl

  pub taken_off_lem : (d : Declared) (told place : ℕ) → mode < 11 → (is Credited v.class ≡ true → told ≡ worth) → (is Credited v.class ≡ true → place ≡ mode) →
      taken_off (record { declared = d; sums = after }) (brought_by told v) place ≡ accepted (record { declared = d; sums = sums_of t })
  unfolding taken_off holds_record less_record mode_count brought_by sums_of add_record
  taken_off_lem d told place h e f =
      let s : Session = record { declared = d; sums = after } in
      let brought = brought_by worth v in
      let counts = is Credited v.class in
      let held : holds_record s brought place ≡ true = and_i brought_held (mode_held t.modes mode place h counts f) in
      ap (λ (b : Tally). taken_off s b place) (brought_same told e)
      ∙ ap (λ (b : Bool). cond b (accepted (less_record s brought place)) (refused_by s 12 0)) held
      ∙ (λ i. accepted (record { declared = d; sums = record { tally = brought_undone i; modes = mode_undone t.modes mode place h counts f i } }))
