-- Laws of sums that a caller keeps: what sound ones are like, and that one record more can be added to them.
-- Assumes nothing.
use Prim.Native.Nat.{ℕ, zero, suc, ◌+◌, ◌-◌, ◌*◌, ◌/◌, ◌%◌, ◌≤◌, ◌<◌}
use native.Mathlib.Omega.{arith}
use native.Mathlib.Nat.{mul-le-mul_right, add-zero, zero-add}
use mathlib.Core.Path.{◌≡◌, refl, sym, ap, ◌∙◌}
use mathlib.Core.Bool.{Bool, true, false, cond, ◌&&◌, ◌||◌}
use mathlib.Core.List.{List}
use lib.Dec.{eqb, leb, ltb}
use lib.ListN.{get_or, get_or-eq_default}
use borrow.Author.Tests.{lt-ltb, le-ltb, le-leb, eqb-true, eqb-false, eq-eqb, ne_eqb, ltb-true, ltb-false}
use Rattle.rules.specs.declared.Class.{Class}
use Rattle.rules.specs.declared.Class.TheVariants.{Credited}
use Rattle.rules.specs.Rules.{Rules}
use Rattle.rules.specs.declared.Modes.{Modes}
use Rattle.rules.specs.Judging.{is, mode_numbers, modes_together, zero_modes, zero_totals}
use Rattle.rules.specs.Demands.{AddUp}
use Rattle.rules.specs.Log.{conjunction}
use Rattle.rules.specs.Session.{declared_rule}
use Rattle.rules.proofs.Tests.{fails}
use Rattle.rules.proofs.ValidLogs.{test_at, at_most}
use Rattle.rules.proofs.SessionLaws.{in_range}
use Rattle.places.specs.declared.Declared.{Declared}
use Rattle.judge.specs.Bounds.{most_worth, Counts, Countable, Small, Closable}
use Rattle.judge.specs.declared.Sums.{Sums}
use Rattle.judge.specs.declared.Tally.{Tally}
use Rattle.judge.specs.Count.{mode_place, modes_in, tallied, add_record, closing, as_declared}
use Rattle.judge.specs.Said.{verdict_by}
use Rattle.judge.specs.Sums.{records_counted, summed, sums_of, sound_tests, sound_sums, class_in, verdict_in, more_tests, counts_more, more_sums, totals_kept}
use Rattle.judge.proofs.CountLaws.{counts_fewer}
use Rattle.judge.proofs.ModeLaws.{place_most}

-- # Tests one behind the other

pub last_test : (b : Bool) → b ≡ (b && true)
last_test true = refl
last_test false = refl

pub untrue : {b : Bool} → (b ≡ true → ⊥) → false ≡ b
untrue {b} f = sym (fails b f)

-- # The counts of the modes together

-- So many numbers of a list, from a place on.
unfoldable pub together : List ℕ → ℕ → ℕ → ℕ
together l zero k = 0
together l (suc n) k = get_or l k 0 + together l n (k + 1)

pub all_together : (m : Modes) → modes_together m ≡ together (mode_numbers m) 11 0
unfolding together modes_together mode_numbers
all_together m = omega arith

-- Each is at most all of them.
one_of : (l : List ℕ) (n k j : ℕ) → j < n → get_or l (k + j) 0 ≤ together l n k
unfolding together
one_of l zero k j h = absurd (omega arith)
one_of l (suc n) k zero h = let e : get_or l (k + 0) 0 ≡ get_or l k 0 = ap (λ (x : ℕ). get_or l x 0) (add-zero k) in omega arith
one_of l (suc n) k (suc j) h =
    let e : get_or l (k + suc j) 0 ≡ get_or l (k + 1 + j) 0 = ap (λ (x : ℕ). get_or l x 0) (omega arith) in
    omega (arith, one_of l n (k + 1) j (omega arith))

mode_most : (m : Modes) (k : ℕ) → get_or (mode_numbers m) k 0 ≤ modes_together m
unfolding mode_numbers
mode_most m k = by (ltb k 11) refl
  where
    one_at : k < 11 → get_or (mode_numbers m) k 0 ≤ together (mode_numbers m) 11 0
    one_at h = ap_le (zero-add k) (one_of (mode_numbers m) 11 0 k h)
      where
        ap_le : {j : ℕ} → j ≡ k → get_or (mode_numbers m) j 0 ≤ together (mode_numbers m) 11 0 → get_or (mode_numbers m) k 0 ≤ together (mode_numbers m) 11 0
        ap_le e g = rw e at g

    by : (b : Bool) → ltb k 11 ≡ b → get_or (mode_numbers m) k 0 ≤ modes_together m
    by true e = omega (arith, one_at (ltb-true k 11 e), all_together m)
    by false e = rw (get_or-eq_default (mode_numbers m) 0 (ltb-false k 11 e)) (omega arith)

-- # Sound sums

pub record Sound (R : Rules) (s : Sums) : Type 0 where
  pub few : records_counted s.tally ≤ R.most_records
  pub least : s.tally.credited ≤ s.tally.points
  pub most : s.tally.points ≤ s.tally.credited * most_worth R
  pub squares : s.tally.squares ≤ s.tally.credited
  pub exchanges : s.tally.exchanges ≤ s.tally.credited
  pub countries : s.tally.countries ≤ s.tally.credited
  pub modes_all : modes_together s.modes ≡ s.tally.credited
  pub repeats : (eqb s.tally.duplicates 0 || leb 1 s.tally.credited) ≡ true

-- What is not credited bears no mark.
pub unmarked : (class : Class) (x : Bool) → is Credited class ≡ false → (is Credited class && x) ≡ false
unmarked class x e = rw e

module _ (R : Rules) (s : Sums) where
  abbrev t : Tally
  t = s.tally

  pub sound_facts : sound_sums R s ≡ true → Sound R s
  unfolding sound_sums
  sound_facts e =
      let test : (n : ℕ) → get_or (sound_tests R s) n true ≡ true = λ n. test_at (sound_tests R s) n e in
      record {
        few = at_most (test 0);
        least = at_most (test 1);
        most = at_most (test 2);
        squares = at_most (test 3);
        exchanges = at_most (test 4);
        countries = at_most (test 5);
        modes_all = eqb-true (modes_together s.modes) t.credited (test 6);
        repeats = test 7;
      }

  pub not_sound : (Sound R s → ⊥) → false ≡ sound_sums R s
  not_sound f = untrue (λ e. f (sound_facts e))

  -- All but the last test hold.
  pub record Nearly : Type 0 where
    pub few : leb (records_counted t) R.most_records ≡ true
    pub least : t.credited ≤ t.points
    pub most : t.points ≤ t.credited * most_worth R
    pub squares : t.squares ≤ t.credited
    pub exchanges : t.exchanges ≤ t.credited
    pub countries : t.countries ≤ t.credited
    pub modes_all : eqb (modes_together s.modes) t.credited ≡ true

  nearly : Nearly → (eqb t.duplicates 0 || leb 1 t.credited) ≡ sound_sums R s
  unfolding sound_sums conjunction
  nearly h =
      rw (
        h.few,
        le-leb t.credited t.points h.least,
        le-leb t.points (t.credited * most_worth R) h.most,
        le-leb t.squares t.credited h.squares,
        le-leb t.exchanges t.credited h.exchanges,
        le-leb t.countries t.credited h.countries,
        h.modes_all,
      )
      (last_test (eqb t.duplicates 0 || leb 1 t.credited))

  pub sound_without : Nearly → t.duplicates ≡ 0 → true ≡ sound_sums R s
  sound_without h e = ap (λ (b : Bool). b || leb 1 t.credited) (sym (eq-eqb t.duplicates 0 e)) ∙ nearly h

  pub sound_with : Nearly → (t.duplicates ≡ 0 → ⊥) → leb 1 t.credited ≡ sound_sums R s
  sound_with h e = ap (λ (b : Bool). b || leb 1 t.credited) (sym (ne_eqb t.duplicates 0 e)) ∙ nearly h

  -- So many records come to them.
  pub sound_counts : Sound R s → Counts R (records_counted t) (summed s)
  sound_counts h =
      record {
        credited = omega arith;
        voids = omega arith;
        duplicates = omega arith;
        errors = omega arith;
        points = let fewer : t.credited ≤ records_counted t = omega arith in omega (arith, h.most, mul-le-mul_right (most_worth R) fewer);
        squares = omega (arith, h.squares);
        exchanges = omega (arith, h.exchanges);
        countries = omega (arith, h.countries);
      }

  pub sound_closable : Sound R s → (d : Declared) → Small R d → Closable R t (mode_numbers s.modes) d
  sound_closable h d small = record { few = counts_fewer R (records_counted t) R.most_records (summed s) h.few (sound_counts h); small = small }

  -- One record more can be counted by them.
  pub more_countable : (worth mode number : ℕ) → counts_more R s worth ≡ true → Countable R t (mode_numbers s.modes) worth (mode_place mode) (verdict_in number)
  unfolding counts_more verdict_in verdict_by mode_numbers
  more_countable worth mode number e =
      let tests = more_tests R s worth in
      let h = sound_facts (test_at tests 0 e) in
      let class = class_in (number % 4) in
      record {
        n = records_counted t;
        few = sound_counts h;
        long = refl;
        few_modes = λ k. omega (arith, mode_most s.modes k, h.modes_all);
        room = ltb-true (records_counted t) R.most_records (test_at tests 1 e);
        small = at_most (test_at tests 2 e);
        place = λ c. place_most mode;
        exchange = unmarked class (eqb (number / 16 % 2) 1);
        square = unmarked class (eqb (number / 32 % 2) 1);
        country = unmarked class (eqb (number / 64 % 2) 1);
      }

-- # What is declared

module _ (R : Rules) (d : Declared) where
  pub declared_small : declared_rule R (as_declared d) ≡ true → Small R d
  unfolding as_declared
  declared_small e =
      let range = in_range R (as_declared d) e in
      record {
        squarebonus = range.0.0;
        squaremultiplier = range.0.2;
        exchangebonus = range.1.0;
        exchangemultiplier = range.1.2;
        countrybonus = range.2.0;
        countrymultiplier = range.2.2;
      }

-- # The counts of a list, taken off one by one

pub come_begun : (m : Modes) (l : List ℕ) (n : ℕ) → l ≡ mode_numbers m → eqb (modes_together m) n ≡ eqb (together l 11 0) n
come_begun m l n e = ap (λ (x : ℕ). eqb x n) (all_together m ∙ ap (λ (x : List ℕ). together x 11 0) (sym e))

module _ (l : List ℕ) (n k left : ℕ) where
  left_over : k < n → together l (n - k) k ≡ get_or l k 0 + together l (n - (k + 1)) (k + 1)
  unfolding together
  left_over h = let e : n - k ≡ suc (n - (k + 1)) = omega arith in rw e

  pub come_over : k < n → left < get_or l k 0 → false ≡ eqb (together l (n - k) k) left
  come_over h g = sym (ne_eqb (together l (n - k) k) left (λ e. omega (arith, left_over h)))

  pub come_on : k < n → get_or l k 0 ≤ left → eqb (together l (n - k) k) left ≡ eqb (together l (n - (k + 1)) (k + 1)) (left - get_or l k 0)
  come_on h g = by (eqb (together l (n - (k + 1)) (k + 1)) (left - get_or l k 0)) refl
    where
      by : (b : Bool) → eqb (together l (n - (k + 1)) (k + 1)) (left - get_or l k 0) ≡ b → eqb (together l (n - k) k) left ≡ b
      by true e = eq-eqb (together l (n - k) k) left (omega (arith, left_over h, eqb-true (together l (n - (k + 1)) (k + 1)) (left - get_or l k 0) e))
      by false e = ne_eqb (together l (n - k) k) left (λ x. eqb-false (together l (n - (k + 1)) (k + 1)) (left - get_or l k 0) e (omega (arith, left_over h)))

  pub come_all : n ≤ k → eqb left 0 ≡ eqb (together l (n - k) k) left
  unfolding together
  come_all h = let e : n - k ≡ 0 = omega arith in rw e (by (eqb 0 left) refl)
    where
      by : (b : Bool) → eqb 0 left ≡ b → eqb left 0 ≡ b
      by true e = eq-eqb left 0 (sym (eqb-true 0 left e))
      by false e = ne_eqb left 0 (λ x. eqb-false 0 left e (sym x))

-- # One record more, and the totals

module _ (R : Rules) (s : Sums) (worth : ℕ) where
  pub not_more : sound_sums R s ≡ false → false ≡ counts_more R s worth
  unfolding counts_more conjunction
  not_more e = rw e

  pub more_full : sound_sums R s ≡ true → R.most_records ≤ records_counted s.tally → false ≡ counts_more R s worth
  unfolding counts_more conjunction
  more_full e h = rw (e, le-ltb (records_counted s.tally) R.most_records h)

  pub more_by : sound_sums R s ≡ true → records_counted s.tally < R.most_records → leb worth (most_worth R) ≡ counts_more R s worth
  unfolding counts_more conjunction
  more_by e h = rw (e, lt-ltb (records_counted s.tally) R.most_records h) (last_test (leb worth (most_worth R)))

  pub more_none : (mode number : ℕ) → counts_more R s worth ≡ false → s ≡ more_sums R s worth mode number
  unfolding more_sums
  more_none mode number e = rw e

  pub more_one : (mode number : ℕ) (list : List ℕ) {t : Tally} {m : Modes} → counts_more R s worth ≡ true → tallied t list ≡ add_record (summed s) worth (mode_place mode) (verdict_in number) → m ≡ modes_in list → ◌≡◌ {A = Sums} (record { tally = t; modes = m }) (more_sums R s worth mode number)
  unfolding more_sums sums_of
  more_one mode number list {t} {m} e f g = rw (e, g) (ap sums_of f)

module _ (R : Rules) (s : Sums) (d : Declared) where
  pub totals_unsound : sound_sums R s ≡ false → zero_totals ≡ totals_kept R s d
  unfolding totals_kept
  totals_unsound e = rw e

  pub totals_undeclared : sound_sums R s ≡ true → declared_rule R (as_declared d) ≡ false → zero_totals ≡ totals_kept R s d
  unfolding totals_kept
  totals_undeclared e f = rw (e, f)

  pub totals_closed : sound_sums R s ≡ true → declared_rule R (as_declared d) ≡ true → closing (summed s) d ≡ totals_kept R s d
  unfolding totals_kept
  totals_closed e f = rw (e, f)

  -- W4: whatever the sums are, sound ones have as many modes as credited records, and all others come to nothing.
  pub kept_add_up_lem : AddUp (totals_kept R s d)
  unfolding totals_kept closing modes_in mode_numbers zero_totals zero_modes modes_together
  kept_add_up_lem = by (sound_sums R s) (declared_rule R (as_declared d)) refl
    where
      by : (a b : Bool) → sound_sums R s ≡ a → AddUp (cond (a && b) (closing (summed s) d) zero_totals)
      by true true e = (sound_facts R s e).modes_all
      by true false e = refl
      by false b e = refl
