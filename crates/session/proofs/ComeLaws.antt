-- What records that keep their rules come to: the sums are sound, and tell how many records there are.
-- Assumes nothing.
use Prim.Native.Nat.{ℕ, zero, suc, ◌+◌, ◌*◌, ◌≤◌, ◌<◌}
use native.Mathlib.Omega.{arith}
use native.Mathlib.Nat.{add-mul, zero-add}
use mathlib.Core.Path.{◌≡◌, refl, sym, ap, ◌∙◌}
use mathlib.Core.Logic.{⊎_elim}
use mathlib.Core.Bool.{Bool, true, false, cond, not, ◌&&◌, ◌||◌}
use mathlib.Core.List.{List, [], ◌∷◌}
use lib.Dec.{eqb, leb}
use lib.ListN.{length, get_or}
use borrow.Author.Tests.{not-true, eqb-true, eqb-false, eq-eqb, le-leb}
use Rattle.rules.specs.declared.Class.{Class}
use Rattle.rules.specs.declared.Class.TheVariants.{Credited, Void, Duplicate, Error}
use Rattle.rules.specs.declared.Modes.{Modes}
use Rattle.rules.specs.declared.Totals.{Totals}
use Rattle.rules.specs.Text.{bytes, same, value, number_of, semicolon}
use Rattle.rules.specs.Rules.{Rules}
use Rattle.rules.specs.Fields.{Qso, is_error, points_rule, field_rules}
use Rattle.rules.specs.Log.{conjunction, record_rules}
use Rattle.rules.specs.Judging.{class_number, is, some, same_call, claims_points, worked, may_repeat, class_of, square, exchange_of, is_new, claims_country, verdict_of, credited_after, verdicts_after, verdicts, modes_together, zero_modes, zero_totals}
use Rattle.rules.proofs.Tests.{◌beside◌, so, holds, and_l, and_r, and_i, or_l, or_r, either, never}
use Rattle.rules.proofs.NumberLaws.{number_below}
use Rattle.rules.proofs.ValidLogs.{points_ruled}
use Rattle.rules.proofs.Classes.{by_credited, by_duplicate}
use Rattle.judge.specs.Bounds.{most_worth}
use Rattle.judge.specs.Count.{worth_if, mode_of, add_mode, add_record, add_records}
use Rattle.judge.specs.Said.{verdict_by}
use Rattle.judge.specs.Sums.{sums_of, sound_sums}
use Rattle.judge.proofs.CountLaws.{worth_most}
use Rattle.judge.proofs.ModeLaws.{place_most}
use Rattle.judge.proofs.SaidLaws.{verdict_said}

-- # One more of a mode

-- What holds of each number below a limit holds of all of them.
unfoldable pub Below : ℕ → (ℕ → Type 0) → Type 0
Below zero P = Unit {0}
Below (suc n) P = P 0 × Below n (λ k. P (suc k))

pub each_below : (n : ℕ) (P : ℕ → Type 0) → Below n P → (k : ℕ) → k < n → P k
unfolding Below
each_below zero P h k l = absurd (omega arith)
each_below (suc n) P h zero l = h.0
each_below (suc n) P h (suc k) l = each_below n (λ j. P (suc j)) h.1 k (omega arith)

-- A place is one of the eleven.
abbrev placed : ℕ → ℕ → ℕ
placed k place = worth_if (eqb k place) 1

one_place : (k : ℕ) → k < 11 → placed k 0 + placed k 1 + placed k 2 + placed k 3 + placed k 4 + placed k 5 + placed k 6 + placed k 7 + placed k 8 + placed k 9 + placed k 10 ≡ 1
unfolding Below
one_place =
    each_below 11
    (λ k. placed k 0 + placed k 1 + placed k 2 + placed k 3 + placed k 4 + placed k 5 + placed k 6 + placed k 7 + placed k 8 + placed k 9 + placed k 10 ≡ 1)
    (refl beside refl beside refl beside refl beside refl beside refl beside refl beside refl beside refl beside refl beside refl beside tt)

mode_together : (m : Modes) (k : ℕ) → k < 11 → modes_together (add_mode m k) ≡ 1 + modes_together m
unfolding modes_together add_mode
mode_together m k h = omega (arith, one_place k h)

module _ (R : Rules) where
  -- So many records come to these totals.
  pub record Comes (n : ℕ) (t : Totals) : Type 0 where
    pub count : t.credited + t.voids + t.duplicates + t.errors ≡ n
    pub least : t.credited ≤ t.points
    pub most : t.points ≤ t.credited * most_worth R
    pub squares : t.squares ≤ t.credited
    pub exchanges : t.exchanges ≤ t.credited
    pub countries : t.countries ≤ t.credited
    pub modes_all : modes_together t.modes ≡ t.credited
    pub repeats : t.credited ≡ 0 → t.duplicates ≡ 0

  -- # One record more

  -- One that is not credited changes the counts of the classes alone.
  comes_beside : (n : ℕ) (t : Totals) (worth mode : ℕ) (class : Class) (x s c : Bool) →
      is Credited class ≡ false →
      worth_if (is Void class) 1 + worth_if (is Duplicate class) 1 + worth_if (is Error class) 1 ≡ 1 →
      (t.credited ≡ 0 → worth_if (is Duplicate class) 1 ≡ 0) →
      Comes n t →
      Comes (n + 1) (add_record t worth mode (verdict_by class x s c))
  unfolding add_record verdict_by
  comes_beside n t worth mode class x s c e one repeats h =
      rw e
      (record {
        count = omega (arith, h.count, one);
        least = omega (arith, h.least);
        most = omega (arith, h.most, add-mul 0 t.credited (most_worth R));
        squares = omega (arith, h.squares);
        exchanges = omega (arith, h.exchanges);
        countries = omega (arith, h.countries);
        modes_all = omega (arith, h.modes_all);
        repeats = λ z. omega (arith, h.repeats (omega arith), repeats (omega arith));
      })

  comes_more : (n : ℕ) (t : Totals) (worth mode : ℕ) (class : Class) (x s c : Bool) →
      worth ≤ most_worth R →
      mode < 11 →
      (is Credited class ≡ true → 1 ≤ worth) →
      (is Duplicate class ≡ true → 1 ≤ t.credited) →
      Comes n t →
      Comes (n + 1) (add_record t worth mode (verdict_by class x s c))
  unfolding add_record verdict_by is class_number
  comes_more n t worth mode Credited x s c small place claims repeats h =
      let one : (b : Bool) → worth_if b 1 ≤ 1 = λ b. worth_most b 1 in
      record {
        count = omega (arith, h.count);
        least = omega (arith, h.least, claims refl);
        most = omega (arith, h.most, small, add-mul 1 t.credited (most_worth R));
        squares = omega (arith, h.squares, one s);
        exchanges = omega (arith, h.exchanges, one x);
        countries = omega (arith, h.countries, one c);
        modes_all = mode_together t.modes mode place ∙ ap (λ (m : ℕ). 1 + m) h.modes_all;
        repeats = λ z. absurd (omega arith);
      }
  comes_more n t worth mode Void x s c small place claims repeats h = comes_beside n t worth mode Void x s c refl refl (λ z. refl) h
  comes_more n t worth mode Duplicate x s c small place claims repeats h =
      comes_beside n t worth mode Duplicate x s c refl refl (λ z. absurd (omega (arith, repeats refl))) h
  comes_more n t worth mode Error x s c small place claims repeats h = comes_beside n t worth mode Error x s c refl refl (λ z. refl) h

  -- What a record is worth at most.
  pub worth_within : (q : Qso) → conjunction (field_rules R q) ≡ true → value q.points ≤ most_worth R
  unfolding points_rule
  worth_within q rules =
      let n = number_of R.points_digits q.points in
      let e = and_l n (not (is_error q) || same q.points (bytes "0")) (so (points_rule R q) (points_ruled R q (holds rules))) in
      omega (arith, number_below R.points_digits q.points e)

  pub mode_placed : (q : Qso) → mode_of q < 11
  unfolding mode_of
  mode_placed q = place_most (get_or q.mode 0 semicolon)

  module _ (credited : List Qso) (q : Qso) where
    abbrev class : Class
    class = class_of R credited q

    -- A credited record claims points, and a duplicate repeats a credited one.
    claims_points_lem : is Credited class ≡ true → 1 ≤ value q.points
    unfolding class_of claims_points
    claims_points_lem e =
        let wrong = is_error q in
        let repeats = may_repeat q && worked R credited q in
        let claims = claims_points q in
        let h = and_r (not repeats) claims (and_r (not wrong) (not repeats && claims) (sym (by_credited wrong repeats claims) ∙ e)) in
        omega (arith, eqb-false (value q.points) 0 (not-true (eqb (value q.points) 0) h))

    repeats_one : is Duplicate class ≡ true → 1 ≤ length credited
    unfolding class_of worked some
    repeats_one e =
        let wrong = is_error q in
        let found = worked R credited q in
        by credited (and_r (may_repeat q) found (and_r (not wrong) (may_repeat q && found) (sym (by_duplicate wrong (may_repeat q && found) (claims_points q)) ∙ e)))
      where
        by : (l : List Qso) → some (λ p. same_call R p.call q.call) l ≡ true → 1 ≤ length l
        by [] e = never e
        by (p ∷ l) e = omega arith

    pub comes_next : (n : ℕ) (t : Totals) → conjunction (field_rules R q) ≡ true → length credited ≡ t.credited → Comes n t → Comes (n + 1) (add_record t (value q.points) (mode_of q) (verdict_of R credited q))
    comes_next n t rules e h =
        rw (← verdict_said R credited q)
        (comes_more n t (value q.points) (mode_of q) class (is_new (exchange_of R) credited q) (is_new square credited q) (claims_country q)
        (worth_within q rules) (mode_placed q) claims_points_lem (λ d. omega (arith, repeats_one d)) h)

    length_after : (t : Totals) → length credited ≡ t.credited → length (credited_after class q credited) ≡ (add_record t (value q.points) (mode_of q) (verdict_of R credited q)).credited
    unfolding credited_after add_record verdict_of
    length_after t e = by (is Credited class)
      where
        by : (b : Bool) → length (cond b (q ∷ credited) credited) ≡ worth_if b 1 + t.credited
        by true = omega arith
        by false = omega arith

  -- # All the records

  comes_after : (credited qs : List Qso) (n : ℕ) (t : Totals) → record_rules R qs ≡ true → length credited ≡ t.credited → Comes n t → Comes (length qs + n) (add_records t qs (verdicts_after R credited qs))
  unfolding record_rules verdicts_after add_records
  comes_after credited [] n t h e k = rw (zero-add n) k
  comes_after credited (q ∷ qs) n t h e k =
      let rules = conjunction (field_rules R q) in
      let v = verdict_of R credited q in
      let next = add_record t (value q.points) (mode_of q) v in
      let z : length qs + (n + 1) ≡ length (q ∷ qs) + n = omega arith in
      rw z at (comes_after (credited_after v.class q credited) qs (n + 1) next (and_r rules (record_rules R qs) h) (length_after credited q t e) (comes_next credited q n t (and_l rules (record_rules R qs) h) e k))

  -- What these records come to.
  unfoldable pub came_to : List Qso → Totals
  unfolding add_records verdicts zero_totals
  came_to qs = add_records zero_totals qs (verdicts R qs)

  pub comes_all : (qs : List Qso) → record_rules R qs ≡ true → Comes (length qs) (came_to qs)
  unfolding came_to verdicts zero_totals modes_together zero_modes
  comes_all qs h =
      let none : Comes 0 zero_totals =
      record {
        count = refl;
        least = omega arith;
        most = omega arith;
        squares = omega arith;
        exchanges = omega arith;
        countries = omega arith;
        modes_all = refl;
        repeats = λ z. refl;
      } in
      let z : length qs + 0 ≡ length qs = omega arith in
      rw z at (comes_after [] qs 0 zero_totals h refl none)

  -- # So the sums are sound

  pub sound_came : (n : ℕ) (t : Totals) → Comes n t → n ≤ R.most_records → sound_sums R (sums_of t) ≡ true
  unfolding sound_sums conjunction sums_of
  sound_came n t h k =
      and_i (le-leb (t.credited + t.voids + t.duplicates + t.errors) R.most_records (omega (arith, h.count)))
      (and_i (le-leb t.credited t.points h.least)
      (and_i (le-leb t.points (t.credited * most_worth R) h.most)
      (and_i (le-leb t.squares t.credited h.squares)
      (and_i (le-leb t.exchanges t.credited h.exchanges)
      (and_i (le-leb t.countries t.credited h.countries)
      (and_i (eq-eqb (modes_together t.modes) t.credited h.modes_all)
      (and_i repeating refl)))))))
    where
      repeating : (eqb t.duplicates 0 || leb 1 t.credited) ≡ true
      repeating =
          ⊎_elim
          (λ z. or_l (leb 1 t.credited) (eq-eqb t.duplicates 0 (h.repeats (eqb-true t.credited 0 z))))
          (λ z. or_r (eqb t.duplicates 0) (le-leb 1 t.credited (omega (arith, eqb-false t.credited 0 z))))
          (either (eqb t.credited 0))
