-- Each class and each mark is the one that the document defines, and the four counts add up to the number of records.
-- Assumes nothing.
use Prim.Native.Nat.{ℕ, zero, suc, ◌+◌, ◌<◌, zero-le, suc-le-suc}
use native.Mathlib.Nat.{le_of_suc-le-suc, not-suc-le-zero}
use native.Mathlib.Omega.{arith}
use mathlib.Core.Path.{◌≡◌, refl, sym, ap, ◌∙◌}
use mathlib.Core.Logic.{◌⊎◌, inl, inr, ⊎_elim, ◌↔◌}
use mathlib.Core.Bool.{Bool, true, false, cond, not, ◌&&◌, ◌||◌}
use mathlib.Core.List.{List, [], ◌∷◌}
use lib.Dec.{T}
use lib.ListN.{length, get_or}
use Rattle.rules.specs.declared.Class.{Class}
use Rattle.rules.specs.declared.Class.TheVariants.{Credited, Void, Duplicate, Error}
use Rattle.rules.specs.declared.Verdict.{Verdict}
use Rattle.rules.specs.Rules.{Rules, base}
use Rattle.rules.specs.Text.{Text, same, empty}
use Rattle.rules.specs.Fields.{Qso, is_error}
use Rattle.rules.specs.Judging.{class_number, is, some, claims_points, claims_duplicate, worked, may_repeat, class_of, square, is_new, claims_country, count_of, verdict_of, credited_after, verdicts_after, verdicts, totals_of, totals, totals_of_log}
use Rattle.rules.specs.Demands.{FourCountsAddUp, CallsAreComparedByteForByte, ClassesAndMarksAsDefined, AsTheDocumentDefines, SomeEarlierCredited, same_call_as, qso_at, verdict_at, class_at}
use Rattle.rules.proofs.Passing.{both, first, second, one_of, left, right, failed, decided, same→equal, equal→same}

-- A class is one of the four.
one_class : (c : Class) → cond (is Credited c) 1 0 + cond (is Void c) 1 0 + cond (is Duplicate c) 1 0 + cond (is Error c) 1 0 ≡ 1
unfolding is
one_class Credited = refl
one_class Void = refl
one_class Duplicate = refl
one_class Error = refl

-- The number of verdicts with a class.
abbrev pub of_class : Class → List Verdict → ℕ
of_class class vs = count_of (λ v. is class v.class) vs

pub counts_add_up : (vs : List Verdict) → of_class Credited vs + of_class Void vs + of_class Duplicate vs + of_class Error vs ≡ length vs
unfolding count_of
counts_add_up [] = refl
counts_add_up (v ∷ vs) = omega (arith, one_class v.class, counts_add_up vs)

module _ (R : Rules) where
  -- There is a verdict for each record.
  pub length_verdicts_after : (credited qs : List Qso) → length (verdicts_after R credited qs) ≡ length qs
  unfolding verdicts_after
  length_verdicts_after credited [] = refl
  length_verdicts_after credited (q ∷ qs) = ap suc (length_verdicts_after (credited_after (verdict_of R credited q).class q credited) qs)

  pub length_verdicts : (qs : List Qso) → length (verdicts R qs) ≡ length qs
  unfolding verdicts
  length_verdicts qs = length_verdicts_after [] qs

  pub four_counts : FourCountsAddUp R
  unfolding totals_of_log totals totals_of
  four_counts log = counts_add_up (verdicts R log.records) ∙ length_verdicts log.records

-- A class is another exactly when the test says so.
pub is→equal : (a b : Class) → T (is a b) → b ≡ a
unfolding is class_number
is→equal Credited Credited t = refl
is→equal Void Void t = refl
is→equal Duplicate Duplicate t = refl
is→equal Error Error t = refl
is→equal Credited Void t = elim t [ ]
is→equal Credited Duplicate t = elim t [ ]
is→equal Credited Error t = elim t [ ]
is→equal Void Credited t = elim t [ ]
is→equal Void Duplicate t = elim t [ ]
is→equal Void Error t = elim t [ ]
is→equal Duplicate Credited t = elim t [ ]
is→equal Duplicate Void t = elim t [ ]
is→equal Duplicate Error t = elim t [ ]
is→equal Error Credited t = elim t [ ]
is→equal Error Void t = elim t [ ]
is→equal Error Duplicate t = elim t [ ]

pub is_self : (a : Class) → T (is a a)
unfolding is class_number
is_self Credited = tt
is_self Void = tt
is_self Duplicate = tt
is_self Error = tt

pub equal→is : (a b : Class) → b ≡ a → T (is a b)
equal→is a b e = rw e (is_self a)

-- What the class is, by the three tests.
module _ (e d p : Bool) where
  abbrev pub class_by : Class
  class_by = cond e Error (cond d Duplicate (cond p Credited Void))

pub by_error : (e d p : Bool) → is Error (class_by e d p) ≡ e
unfolding is class_number
by_error true d p = refl
by_error false true p = refl
by_error false false true = refl
by_error false false false = refl

pub by_duplicate : (e d p : Bool) → is Duplicate (class_by e d p) ≡ (not e && d)
unfolding is class_number
by_duplicate true d p = refl
by_duplicate false true p = refl
by_duplicate false false true = refl
by_duplicate false false false = refl

pub by_void : (e d p : Bool) → is Void (class_by e d p) ≡ (not e && (not d && not p))
unfolding is class_number
by_void true d p = refl
by_void false true p = refl
by_void false false true = refl
by_void false false false = refl

pub by_credited : (e d p : Bool) → is Credited (class_by e d p) ≡ (not e && (not d && p))
unfolding is class_number
by_credited true d p = refl
by_credited false true p = refl
by_credited false false true = refl
by_credited false false false = refl

module _ (R : Rules) where
  -- The credited records that stand before a place.
  unfoldable pub credited_before : List Qso → List Qso → ℕ → List Qso
  credited_before credited qs zero = credited
  credited_before credited [] (suc j) = credited
  credited_before credited (q ∷ qs) (suc j) =
      credited_before (credited_after (verdict_of R credited q).class q credited) qs j

  -- A record is judged by them.
  pub judged_by_earlier : (credited qs : List Qso) (j : ℕ) (v : Verdict) (e : Qso) →
      j < length qs →
      get_or (verdicts_after R credited qs) j v ≡ verdict_of R (credited_before credited qs j) (get_or qs j e)
  unfolding verdicts_after credited_before
  judged_by_earlier credited [] j v e h = absurd (not-suc-le-zero h)
  judged_by_earlier credited (q ∷ qs) zero v e h = refl
  judged_by_earlier credited (q ∷ qs) (suc j) v e h =
      judged_by_earlier (credited_after (verdict_of R credited q).class q credited) qs j v e (le_of_suc-le-suc h)

  -- Some credited record passes a test: one of those kept, or one of the list before a place.
  abbrev Found : List Qso → List Qso → (Qso → Bool) → ℕ → Verdict → Qso → Type 0
  Found credited qs f j v e =
      T (some f credited)
      ⊎ ((i : ℕ) × (i < j) × ((get_or (verdicts_after R credited qs) i v).class ≡ Credited) × T (f (get_or qs i e)))

  -- One more record, which is kept exactly where it is credited.
  some_after : (f : Qso → Bool) (c : Class) (q : Qso) (credited : List Qso) →
      T (some f (credited_after c q credited)) ↔ (T (some f credited) ⊎ ((c ≡ Credited) × T (f q)))
  unfolding some credited_after is class_number
  some_after f Credited q credited = (
    λ t. ⊎_elim (λ u. inr (refl, u)) inl (one_of (f q) (some f credited) t),
    ⊎_elim (right (f q) (some f credited)) (λ u. left (f q) (some f credited) u.1),
  )
  some_after f Void q credited = (inl, ⊎_elim (λ t. t) (λ u. absurd (equal→is Credited Void u.0)))
  some_after f Duplicate q credited = (inl, ⊎_elim (λ t. t) (λ u. absurd (equal→is Credited Duplicate u.0)))
  some_after f Error q credited = (inl, ⊎_elim (λ t. t) (λ u. absurd (equal→is Credited Error u.0)))

  module _ (f : Qso → Bool) (v : Verdict) (e : Qso) where
    kept→found : (credited qs : List Qso) (j : ℕ) →
        j < length qs →
        T (some f (credited_before credited qs j)) →
        Found credited qs f j v e
    unfolding credited_before verdicts_after
    kept→found credited [] j h t = absurd (not-suc-le-zero h)
    kept→found credited (q ∷ qs) zero h t = inl t
    kept→found credited (q ∷ qs) (suc j) h t =
        let class = (verdict_of R credited q).class in
        ⊎_elim
        (λ s. ⊎_elim inl (λ u. inr (zero, suc-le-suc zero-le, u.0, u.1)) ((some_after f class q credited).0 s))
        (λ w. inr (suc w.0, suc-le-suc w.1, w.2, w.3))
        (kept→found (credited_after class q credited) qs j (le_of_suc-le-suc h) t)

    already→kept : (credited qs : List Qso) (j : ℕ) → T (some f credited) → T (some f (credited_before credited qs j))
    unfolding credited_before
    already→kept credited [] zero t = t
    already→kept credited (q ∷ qs) zero t = t
    already→kept credited [] (suc j) t = t
    already→kept credited (q ∷ qs) (suc j) t =
        let class = (verdict_of R credited q).class in
        already→kept (credited_after class q credited) qs j ((some_after f class q credited).1 (inl t))

    found→kept : (credited qs : List Qso) (j i : ℕ) →
        j < length qs →
        i < j →
        (get_or (verdicts_after R credited qs) i v).class ≡ Credited →
        T (f (get_or qs i e)) →
        T (some f (credited_before credited qs j))
    unfolding credited_before verdicts_after
    found→kept credited [] j i h k c t = absurd (not-suc-le-zero h)
    found→kept credited (q ∷ qs) zero i h k c t = absurd (not-suc-le-zero k)
    found→kept credited (q ∷ qs) (suc j) zero h k c t =
        let class = (verdict_of R credited q).class in
        already→kept (credited_after class q credited) qs j ((some_after f class q credited).1 (inr (c, t)))
    found→kept credited (q ∷ qs) (suc j) (suc i) h k c t =
        let class = (verdict_of R credited q).class in
        found→kept (credited_after class q credited) qs j i (le_of_suc-le-suc h) (le_of_suc-le-suc k) c t

  module _ (qs : List Qso) (j : ℕ) (h : j < length qs) where
    -- The credited records before the place.
    abbrev earlier : List Qso
    earlier = credited_before [] qs j

    pub some_earlier : (f : Qso → Qso → Bool) → T (some (λ e. f e (qso_at qs j)) earlier) ↔ SomeEarlierCredited R qs f j
    unfolding verdicts some
    some_earlier f = (
      λ t. ⊎_elim (λ u. absurd u) (λ w. w) (kept→found (λ e. f e (qso_at qs j)) _ _ [] qs j h t),
      λ w. found→kept (λ e. f e (qso_at qs j)) _ _ [] qs j w.0 h w.1 w.2 w.3,
    )

    no_earlier : (f : Qso → Qso → Bool) →
        T (not (some (λ e. f e (qso_at qs j)) earlier)) ↔ (SomeEarlierCredited R qs f j → ⊥)
    no_earlier f =
        let test = some (λ e. f e (qso_at qs j)) earlier in
        (λ t w. (failed test).0 t ((some_earlier f).1 w), λ n. (failed test).1 (λ t. n ((some_earlier f).0 t)))

    pub verdict_there : verdict_at R qs j ≡ verdict_of R earlier (qso_at qs j)
    unfolding verdicts
    verdict_there = judged_by_earlier [] qs j _ _ h

    -- The three tests that tell the class.
    abbrev wrong : Bool
    wrong = is_error (qso_at qs j)

    abbrev repeats : Bool
    repeats = may_repeat (qso_at qs j) && worked R earlier (qso_at qs j)

    abbrev claims : Bool
    claims = claims_points (qso_at qs j)

    class_there : class_at R qs j ≡ class_by wrong repeats claims
    unfolding verdict_of class_of
    class_there = ap (λ (v : Verdict). v.class) verdict_there

    -- A record that repeats claims points or a D, and some earlier credited record has its call.
    abbrev marked : Bool
    marked = claims_duplicate (qso_at qs j)

    is_repeat : T repeats ↔ ((T claims ⊎ T marked) × SomeEarlierCredited R qs (same_call_as R) j)
    unfolding may_repeat worked
    is_repeat =
        let found = worked R earlier (qso_at qs j) in (
          λ t.
              (one_of claims marked (first (claims || marked) found t), (some_earlier (same_call_as R)).0 (second (claims || marked) found t)),
          λ w.
              both (claims || marked) found (⊎_elim (left claims marked) (right claims marked) w.0) ((some_earlier (same_call_as R)).1 w.1),
        )

    told : (class : Class) {b : Bool} →
        is class (class_by wrong repeats claims) ≡ b →
        (class_at R qs j ≡ class) ↔ T b
    told class e = (
      λ c. rw e at (equal→is class (class_by wrong repeats claims) (sym class_there ∙ c)),
      λ t. class_there ∙ is→equal class (class_by wrong repeats claims) (rw e t),
    )

    is_error_lem : (class_at R qs j ≡ Error) ↔ T wrong
    is_error_lem = told Error (by_error wrong repeats claims)

    is_duplicate :
        (class_at R qs j ≡ Duplicate)
        ↔ (T (not wrong) × (T claims ⊎ T marked) × SomeEarlierCredited R qs (same_call_as R) j)
    is_duplicate =
        let by = told Duplicate (by_duplicate wrong repeats claims) in (
          λ c.
              let w = is_repeat.0 (second (not wrong) repeats (by.0 c)) in
              (first (not wrong) repeats (by.0 c), w.0, w.1),
          λ w. by.1 (both (not wrong) repeats w.0 (is_repeat.1 (w.1, w.2))),
        )

    -- No error and no repeat: what is left is told by one test.
    is_other : (class : Class) (b : Bool) →
        is class (class_by wrong repeats claims) ≡ (not wrong && (not repeats && b)) →
        (class_at R qs j ≡ class) ↔ (T (not wrong) × (T repeats → ⊥) × T b)
    is_other class b e =
        let by = told class e in
        let rest = not repeats && b in (
          λ c.
              let t = second (not wrong) rest (by.0 c) in
              (first (not wrong) rest (by.0 c), (failed repeats).0 (first (not repeats) b t), second (not repeats) b t),
          λ w. by.1 (both (not wrong) rest w.0 (both (not repeats) b ((failed repeats).1 w.1) w.2)),
        )

    -- Without points it is no repeat if it claims no D, or if no earlier credited record has its call.
    is_void :
        (class_at R qs j ≡ Void)
        ↔ (T (not wrong) × T (not claims) × (T (not marked) ⊎ (SomeEarlierCredited R qs (same_call_as R) j → ⊥)))
    is_void =
        let by = is_other Void (not claims) (by_void wrong repeats claims) in (
          λ c.
              let w = by.0 c in
              (w.0, w.2, ⊎_elim (λ m. inr (λ e. w.1 (is_repeat.1 (inr m, e)))) inl (decided marked)),
          λ w.
              by.1 (
                w.0,
                λ t.
                    ⊎_elim (λ m. ⊎_elim ((failed claims).0 w.1) ((failed marked).0 m) (is_repeat.0 t).0) (λ n. n (is_repeat.0 t).1) w.2,
                w.1,
              ),
        )

    -- With points it is no repeat exactly if no earlier credited record has its call.
    is_credited :
        (class_at R qs j ≡ Credited)
        ↔ (T (not wrong) × (SomeEarlierCredited R qs (same_call_as R) j → ⊥) × T claims)
    is_credited =
        let by = is_other Credited claims (by_credited wrong repeats claims) in (
          λ c. let w = by.0 c in (w.0, λ e. w.1 (is_repeat.1 (inl w.2, e)), w.2),
          λ w. by.1 (w.0, λ t. w.1 (is_repeat.0 t).1, w.2),
        )

    -- What a mark that is new of a credited record says.
    is_new_lem : (of : Qso → Text) →
        T (is Credited (class_by wrong repeats claims) && is_new of earlier (qso_at qs j))
        ↔ ((class_at R qs j ≡ Credited)
        × T (not (empty (of (qso_at qs j))))
        × (SomeEarlierCredited R qs (λ e q. same (of e) (of q)) j → ⊥))
    unfolding is_new
    is_new_lem of =
        let by = told Credited refl in
        let counts = is Credited (class_by wrong repeats claims) in
        let full = not (empty (of (qso_at qs j))) in
        let fresh = not (some (λ e. same (of e) (of (qso_at qs j))) earlier) in (
          λ t.
              let u = second counts (full && fresh) t in
              (by.1 (first counts (full && fresh) t), first full fresh u, (no_earlier (λ e q. same (of e) (of q))).0 (second full fresh u)),
          λ w.
              both counts (full && fresh) (by.0 w.0) (both full fresh w.1 ((no_earlier (λ e q. same (of e) (of q))).1 w.2)),
        )

    is_country :
        T (is Credited (class_by wrong repeats claims) && claims_country (qso_at qs j))
        ↔ ((class_at R qs j ≡ Credited) × T (claims_country (qso_at qs j)))
    is_country =
        let by = told Credited refl in
        let counts = is Credited (class_by wrong repeats claims) in
        let claimed = claims_country (qso_at qs j) in
        (λ t. (by.1 (first counts claimed t), second counts claimed t), λ w. both counts claimed (by.0 w.0) w.1)

    pub as_defined : AsTheDocumentDefines R qs j
    unfolding verdict_of class_of
    as_defined =
        record {
          error = is_error_lem;
          duplicate = is_duplicate;
          void = is_void;
          credited = is_credited;
          new_square = rw verdict_there (is_new_lem square);
          new_exchange = rw verdict_there (is_new_lem (λ e. e.exchange));
          new_country = rw verdict_there is_country;
        }

    -- A record that is no error and claims points is credited, or repeats an earlier one.
    pub credited_or_repeats :
        T (not wrong) → T claims → (class_at R qs j ≡ Credited) ⊎ SomeEarlierCredited R qs (same_call_as R) j
    unfolding worked
    credited_or_repeats n c =
        ⊎_elim
        (λ t. inr ((some_earlier (same_call_as R)).0 t))
        (λ t. inl (as_defined.credited.1 (n, (no_earlier (same_call_as R)).0 t, c)))
        (decided (worked R earlier (qso_at qs j)))

pub calls_byte_for_byte : CallsAreComparedByteForByte
unfolding base
calls_byte_for_byte call other = (same→equal call other, equal→same call other)

pub classes_as_defined : (R : Rules) → ClassesAndMarksAsDefined R
classes_as_defined R = as_defined R
