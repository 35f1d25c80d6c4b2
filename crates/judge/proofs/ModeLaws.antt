-- Laws of the modes: one more is counted at its place, and in the end each count is that of document 02.
-- Assumes nothing.
use Prim.Native.Nat.{ℕ, zero, suc, ◌+◌, ◌-◌, ◌≤◌, ◌<◌}
use native.Mathlib.Omega.{arith}
use native.Mathlib.Nat.{add-zero}
use mathlib.Core.Path.{◌≡◌, refl, sym, ap, ◌∙◌}
use mathlib.Core.Bool.{Bool, true, false, cond, ◌&&◌}
use mathlib.Core.List.{List, [], ◌∷◌}
use lib.Dec.{T, eqb, leb}
use lib.ListN.{length, get_or, set, length-set}
use lib.Seq.{get_or-set_same, get_or-set_other}
use borrow.Author.Tests.{leb-true, eqb-true, eqb-false, eq-eqb, ne_eqb}
use Rattle.rules.specs.declared.Class.TheVariants.{Credited}
use Rattle.rules.specs.declared.Verdict.{Verdict}
use Rattle.rules.specs.declared.Modes.{Modes}
use Rattle.rules.specs.declared.Totals.{Totals}
use Rattle.rules.specs.Text.{Text, digit, semicolon, same, value}
use Rattle.rules.specs.Rules.{Rules}
use Rattle.rules.specs.Fields.{Qso, mode, field_rules}
use Rattle.rules.specs.Log.{conjunction, record_rules}
use Rattle.rules.specs.Judging.{is, credited_sum, credited_in, modes_of, zero_modes, zero_totals}
use Rattle.rules.proofs.Tests.{so, and_l}
use Rattle.rules.proofs.Passing.{first, second}
use Rattle.rules.proofs.ModeLaws.{one_digit}
use Rattle.rules.proofs.ValidLogs.{mode_ruled}
use Rattle.judge.specs.Count.{worth_if, mode_place, mode_of, modes_in, add_mode, modes_after, add_record, add_records}

-- # One more

-- At its place of a list stands one more, and at the others what stood there.
pub counted_at : (l : List ℕ) (place k : ℕ) → place < length l → get_or (set l place (1 + get_or l place 0)) k 0 ≡ worth_if (eqb place k) 1 + get_or l k 0
counted_at l place k h = by (eqb place k) refl
  where
    by : (b : Bool) → eqb place k ≡ b → get_or (set l place (1 + get_or l place 0)) k 0 ≡ worth_if b 1 + get_or l k 0
    by true e = rw (← eqb-true place k e) (get_or-set_same l place (1 + get_or l place 0) 0 h)
    by false e = get_or-set_other l place k (1 + get_or l place 0) 0 (λ x. eqb-false place k e (sym x)) ∙ omega arith

-- None grows by more than one.
one_most : (l : List ℕ) (place k : ℕ) → get_or (set l place (1 + get_or l place 0)) k 0 ≤ 1 + get_or l k 0
one_most [] place k = omega arith
one_most (x ∷ l) zero zero = omega arith
one_most (x ∷ l) zero (suc k) = omega arith
one_most (x ∷ l) (suc place) zero = omega arith
one_most (x ∷ l) (suc place) (suc k) = one_most l place k

pub grown : (l : List ℕ) (place : ℕ) (v : Verdict) (k : ℕ) → get_or (modes_after l place v) k 0 ≤ 1 + get_or l k 0
grown l place v k = by (is Credited v.class)
  where
    by : (b : Bool) → get_or (cond b (set l place (1 + get_or l place 0)) l) k 0 ≤ 1 + get_or l k 0
    by true = one_most l place k
    by false = omega arith

pub as_long : (l : List ℕ) (place : ℕ) (v : Verdict) → length (modes_after l place v) ≡ length l
as_long l place v = by (is Credited v.class)
  where
    by : (b : Bool) → length (cond b (set l place (1 + get_or l place 0)) l) ≡ length l
    by true = length-set l place (1 + get_or l place 0)
    by false = refl

pub one_counted : (l : List ℕ) (place : ℕ) → place < length l → modes_in (set l place (1 + get_or l place 0)) ≡ add_mode (modes_in l) place
unfolding modes_in add_mode
one_counted l place h = λ i.
    record {
      code0 = counted_at l place 0 h i;
      code1 = counted_at l place 1 h i;
      code2 = counted_at l place 2 h i;
      code3 = counted_at l place 3 h i;
      code4 = counted_at l place 4 h i;
      code5 = counted_at l place 5 h i;
      code6 = counted_at l place 6 h i;
      code7 = counted_at l place 7 h i;
      code8 = counted_at l place 8 h i;
      code9 = counted_at l place 9 h i;
      blank = counted_at l place 10 h i;
    }

-- A digit has its own number for its place, and every other character the last.
pub digit_least : (c : ℕ) → digit c ≡ true → 48 ≤ c
digit_least c e = leb-true 48 c (and_l (leb 48 c) (leb c 57) e)

-- Every character has its place among the eleven.
pub place_most : (c : ℕ) → mode_place c < 11
place_most c = by (digit c) refl
  where
    by : (b : Bool) → digit c ≡ b → cond b (c - 48) 10 < 11
    by true e = let h = leb-true c 57 (so (leb c 57) (second (leb 48 c) (leb c 57) (rw e tt))) in omega arith
    by false e = omega arith

-- # A mode that keeps its rule

-- It is a code exactly where it is counted at the code's number, and blank exactly where it is counted last.
is_code : (k : ℕ) → k < 10 → (t : Text) → T (mode t) → same t ((48 + k) ∷ []) ≡ eqb (mode_place (get_or t 0 semicolon)) k
unfolding same
is_code k l [] h = sym (ne_eqb 10 k (omega arith))
is_code k l (c ∷ t) h =
    let o = one_digit c t h in
    rw (o.alone, o.code) (by (eqb c (48 + k)) refl o.least)
  where
    by : (b : Bool) → eqb c (48 + k) ≡ b → 48 ≤ c → (b && true) ≡ eqb (c - 48) k
    by true e m = sym (eq-eqb (c - 48) k (omega (arith, eqb-true c (48 + k) e)))
    by false e m = sym (ne_eqb (c - 48) k (λ (x : c - 48 ≡ k). eqb-false c (48 + k) e (omega arith)))

is_blank : (t : Text) → T (mode t) → same t [] ≡ eqb (mode_place (get_or t 0 semicolon)) 10
unfolding same
is_blank [] h = refl
is_blank (c ∷ t) h =
    let o = one_digit c t h in
    rw o.code (sym (ne_eqb (c - 48) 10 (omega (arith, o.most))))

-- # All the records

-- One of the counts, at its place, and the mode that it counts.
module _ (R : Rules) (count : Modes → ℕ) (place : ℕ) (text : Text)
    (adds : (m : Modes) (k : ℕ) → count (add_mode m k) ≡ worth_if (eqb k place) 1 + count m)
    (counts : (t : Text) → T (mode t) → same t text ≡ eqb (mode_place (get_or t 0 semicolon)) place) where
  one_more : (b : Bool) (m : Modes) (q : Qso) → T (mode q.mode) →
      count (cond b (add_mode m (mode_of q)) m) ≡ cond b (cond (same q.mode text) 1 0) 0 + count m
  unfolding mode_of
  one_more true m q h = adds m (mode_of q) ∙ ap (λ (x : Bool). worth_if x 1 + count m) (sym (counts q.mode h))
  one_more false m q h = omega arith

  all_more : (t : Totals) (qs : List Qso) (vs : List Verdict) → length vs ≡ length qs → T (record_rules R qs) →
      count (add_records t qs vs).modes ≡ credited_in text qs vs + count t.modes
  unfolding add_records add_record credited_sum record_rules
  all_more t [] [] e r = omega arith
  all_more t [] (v ∷ vs) e r = absurd (omega arith)
  all_more t (q ∷ qs) [] e r = absurd (omega arith)
  all_more t (q ∷ qs) (v ∷ vs) e r =
      let rules = conjunction (field_rules R q) in
      omega (
        arith,
        all_more (add_record t (value q.points) (mode_of q) v) qs vs (omega arith) (second rules (record_rules R qs) r),
        one_more (is Credited v.class) t.modes q (mode_ruled R q (first rules (record_rules R qs) r)),
      )

-- Where nothing was counted before, the counts are those of document 02.
pub modes_counted : (R : Rules) (qs : List Qso) (vs : List Verdict) → length vs ≡ length qs → T (record_rules R qs) → (add_records zero_totals qs vs).modes ≡ modes_of qs vs
unfolding modes_of zero_totals zero_modes add_mode
modes_counted R qs vs e r =
    let code : (count : Modes → ℕ) (k : ℕ) → k < 10 → ((m : Modes) (p : ℕ) → count (add_mode m p) ≡ worth_if (eqb p k) 1 + count m) → count zero_modes ≡ 0 →
    count (add_records zero_totals qs vs).modes ≡ credited_in ((48 + k) ∷ []) qs vs =
    λ count k h adds z. all_more R count k ((48 + k) ∷ []) adds (is_code k h) zero_totals qs vs e r ∙ omega (arith, z) in
    λ i.
    record {
      code0 = code (λ m. m.code0) 0 (omega arith) (λ m p. refl) refl i;
      code1 = code (λ m. m.code1) 1 (omega arith) (λ m p. refl) refl i;
      code2 = code (λ m. m.code2) 2 (omega arith) (λ m p. refl) refl i;
      code3 = code (λ m. m.code3) 3 (omega arith) (λ m p. refl) refl i;
      code4 = code (λ m. m.code4) 4 (omega arith) (λ m p. refl) refl i;
      code5 = code (λ m. m.code5) 5 (omega arith) (λ m p. refl) refl i;
      code6 = code (λ m. m.code6) 6 (omega arith) (λ m p. refl) refl i;
      code7 = code (λ m. m.code7) 7 (omega arith) (λ m p. refl) refl i;
      code8 = code (λ m. m.code8) 8 (omega arith) (λ m p. refl) refl i;
      code9 = code (λ m. m.code9) 9 (omega arith) (λ m p. refl) refl i;
      blank = (all_more R (λ m. m.blank) 10 [] (λ m p. refl) is_blank zero_totals qs vs e r ∙ add-zero (credited_in [] qs vs)) i;
    }
