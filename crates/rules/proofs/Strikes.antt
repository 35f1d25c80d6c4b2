-- Striking, record by record: what is still credited and what becomes credited, over any sameness of calls.
-- Assumes nothing.
use Prim.Native.Nat.{ℕ, ◌<◌}
use native.Mathlib.Omega.{arith}
use mathlib.Core.Path.{◌≡◌, refl, sym, ap, ◌∙◌}
use mathlib.Core.Logic.{inl, inr, ⊎_elim, ◌↔◌}
use mathlib.Core.Bool.{Bool, true, false, cond, not}
use mathlib.Core.List.{List}
use lib.Dec.{T}
use lib.ListN.{length}
use Rattle.rules.specs.declared.Class.{Class}
use Rattle.rules.specs.declared.Class.TheVariants.{Credited, Void, Duplicate, Error}
use Rattle.rules.specs.Text.{Text}
use Rattle.rules.specs.Rules.{Rules}
use Rattle.rules.specs.Fields.{Qso, is_error}
use Rattle.rules.specs.Log.{Log, valid}
use Rattle.rules.specs.Judging.{claims_points, same_call}
use Rattle.rules.specs.Striking.{Places, kept, strike, place_after}
use Rattle.rules.specs.Demands.{SomeEarlierCredited, same_call_as, qso_at, class_at, AsTheDocumentDefines, StrikesRightly}
use Rattle.rules.specs.StrikingDemands.{EachClassAfter}
use Rattle.rules.proofs.Tests.{so, holds, clash}
use Rattle.rules.proofs.Passing.{failed, decided, same→equal, equal→same}
use Rattle.rules.proofs.ValidLogs.{rules_of, points_ruled, error_claims_nothing, records_valid}
use Rattle.rules.proofs.Classes.{as_defined, credited_or_repeats}
use Rattle.rules.proofs.KeptPlaces.{kept_at, kept_fits, places_ordered, origin}

module _ (R : Rules) where
  module _ (qs : List Qso) (struck : Places) (j : ℕ) (h : j < length qs) (n : T (not (struck j))) where
    -- The records that are left, and the new place.
    abbrev left : List Qso
    left = kept struck qs

    abbrev place : ℕ
    place = place_after struck j

    same_record : qso_at left place ≡ qso_at qs j
    same_record = kept_at _ struck qs j h n

    fits : place < length left
    fits = kept_fits (qso_at qs j) struck qs j h n

    -- A credited record that is left before the place was there before, is no error and claims points.
    abbrev Claimant : ℕ → Type 0
    Claimant i =
        (i < j)
        × T (not (struck i))
        × T (not (is_error (qso_at qs i)))
        × T (claims_points (qso_at qs i))
        × T (same_call_as R (qso_at qs i) (qso_at qs j))

    claimant : SomeEarlierCredited R left (same_call_as R) place → (i : ℕ) × Claimant i
    claimant w =
        let o = origin struck j w.0 w.1 in
        let i = o.0 in
        let e : qso_at left w.0 ≡ qso_at qs i =
        ap (λ (k : ℕ). qso_at left k) (sym o.3) ∙ kept_at _ struck qs i (omega (arith, o.1, h)) o.2 in
        let c = (as_defined R left w.0 (omega (arith, fits, w.1))).credited.0 w.2 in
        (i, (o.1, o.2, rw e at c.0, rw e at c.2, rw (e, same_record) at w.3))

    -- What is left at the new place is credited if the record claims points, is no error, and no claimant is left.
    pub credited_left :
        T (not (is_error (qso_at qs j))) →
        T (claims_points (qso_at qs j)) →
        ((i : ℕ) → Claimant i → ⊥) →
        class_at R left place ≡ Credited
    credited_left e c f =
        (as_defined R left place fits).credited.1
        (rw same_record e, λ w. f (claimant w).0 (claimant w).1, rw same_record c)

    -- Of a log before striking in which no duplicate claims points, nothing becomes credited.
    pub nothing_promoted_lem :
        (class_at R qs j ≡ Duplicate → T (not (claims_points (qso_at qs j)))) →
        class_at R left place ≡ Credited →
        class_at R qs j ≡ Credited
    nothing_promoted_lem none p =
        let d = (as_defined R left place fits).credited.0 p in
        let right : T (not (is_error (qso_at qs j))) = rw same_record at d.0 in
        let claims : T (claims_points (qso_at qs j)) = rw same_record at d.2 in
        ⊎_elim
        (λ c. c)
        (λ w. absurd ((failed (claims_points (qso_at qs j))).0 (none ((as_defined R qs j h).duplicate.1 (right, inl claims, w))) claims))
        (credited_or_repeats R qs j h right claims)

  errors_claim_nothing : (log : Log) →
      T (valid R log) →
      (i : ℕ) →
      i < length log.records →
      T (claims_points (qso_at log.records i)) →
      T (not (is_error (qso_at log.records i)))
  errors_claim_nothing log v i h c =
      let q = qso_at log.records i in
      let ruled = points_ruled R q (rules_of R log.records i _ h (records_valid R log v)) in
      (failed (is_error q)).1 (λ e. error_claims_nothing R q ruled e c)

  -- Sameness passes on, since it is that of two texts.
  passes : (a b c : Text) → T (same_call R a b) → T (same_call R b c) → T (same_call R a c)
  passes a b c s t =
      equal→same (R.home a) (R.home c) (same→equal (R.home a) (R.home b) s ∙ same→equal (R.home b) (R.home c) t)

  -- A record that is no error and claims points bars the later ones of its call: it is credited, or an earlier one of its call is.
  bars : (qs : List Qso) (i j : ℕ) →
      i < j →
      j < length qs →
      T (not (is_error (qso_at qs i))) →
      T (claims_points (qso_at qs i)) →
      T (same_call_as R (qso_at qs i) (qso_at qs j)) →
      SomeEarlierCredited R qs (same_call_as R) j
  bars qs i j h k n c t =
      ⊎_elim
      (λ e. (i, h, e, t))
      (λ w. (w.0, omega arith, w.2, passes _ _ _ w.3 t))
      (credited_or_repeats R qs i (omega arith) n c)

  module _ (qs : List Qso) (struck : Places) (j : ℕ) (h : j < length qs) (n : T (not (struck j))) where
    pub still_credited_lem : class_at R qs j ≡ Credited → class_at R (kept struck qs) (place_after struck j) ≡ Credited
    still_credited_lem c =
        let d = (as_defined R qs j h).credited.0 c in
        credited_left qs struck j h n d.0 d.2 (λ i w. d.1 (bars qs i j w.0 h w.2 w.3 w.4))

    -- No error claims points.
    abbrev ErrorsClaimNothing : Type 0
    ErrorsClaimNothing = (i : ℕ) → i < length qs → T (claims_points (qso_at qs i)) → T (not (is_error (qso_at qs i)))

    pub promoted_exactly : ErrorsClaimNothing →
        class_at R qs j ≡ Duplicate →
        (class_at R (kept struck qs) (place_after struck j) ≡ Credited)
        ↔ (T (claims_points (qso_at qs j))
        × ((i : ℕ) → i < j → T (same_call_as R (qso_at qs i) (qso_at qs j)) → T (claims_points (qso_at qs i)) → T (struck i)))
    promoted_exactly errors c = (
      λ p.
          let left = kept struck qs in
          let place = place_after struck j in
          let same = same_record qs struck j h n in
          let there = fits qs struck j h n in
          let d = (as_defined R left place there).credited.0 p in (
            rw same at d.2,
            λ i k t u.
                ⊎_elim (λ s. s) (λ m.
                let e : qso_at left (place_after struck i) ≡ qso_at qs i = kept_at _ struck qs i (omega arith) m in
                absurd (d.1 (bars left (place_after struck i) place (places_ordered struck i j k m) there
                (rw e (errors i (omega arith) u)) (rw e u) (rw (e, same) t)))) (decided (struck i)),
          ),
      λ w.
          credited_left qs struck j h n ((as_defined R qs j h).duplicate.0 c).0 w.0
          (λ i v. (failed (struck i)).0 v.1 (w.1 i v.0 v.4 v.3)),
    )

  -- # Every class

  module _ (qs : List Qso) (struck : Places) (j : ℕ) (h : j < length qs) (n : T (not (struck j))) where
    abbrev after : Class
    after = class_at R (kept struck qs) (place_after struck j)

    abbrev defined : AsTheDocumentDefines R (kept struck qs) (place_after struck j)
    defined = as_defined R (kept struck qs) (place_after struck j) (fits qs struck j h n)

    same : qso_at (kept struck qs) (place_after struck j) ≡ qso_at qs j
    same = same_record qs struck j h n

    -- A record that repeats one which is left repeated one before.
    repeats_before : SomeEarlierCredited R (kept struck qs) (same_call_as R) (place_after struck j) → SomeEarlierCredited R qs (same_call_as R) j
    repeats_before w =
        let (i, c) = claimant qs struck j h n w in
        bars qs i j c.0 h c.2 c.3 c.4

    error_stays : class_at R qs j ≡ Error → after ≡ Error
    error_stays e = defined.error.1 (rw same ((as_defined R qs j h).error.0 e))

    void_stays : class_at R qs j ≡ Void → after ≡ Void
    void_stays e =
        let d = (as_defined R qs j h).void.0 e in
        defined.void.1
        (rw same d.0, rw same d.1, ⊎_elim (λ none. inl (rw same none)) (λ none. inr (λ w. none (repeats_before w))) d.2)

    pub other_stays : (class_at R qs j ≡ Duplicate → ⊥) → after ≡ class_at R qs j
    other_stays other = by (class_at R qs j) refl
      where
        by : (c : Class) → class_at R qs j ≡ c → after ≡ class_at R qs j
        by Credited e = still_credited_lem qs struck j h n e ∙ sym e
        by Void e = void_stays e ∙ sym e
        by Duplicate e = absurd (other e)
        by Error e = error_stays e ∙ sym e

    -- A duplicate that repeats nothing any more.
    pub freed : class_at R qs j ≡ Duplicate → ((i : ℕ) → Claimant qs struck j h n i → ⊥) → after ≡ cond (claims_points (qso_at qs j)) Credited Void
    freed e none = by (claims_points (qso_at qs j)) refl
      where
        right : T (not (is_error (qso_at qs j)))
        right = ((as_defined R qs j h).duplicate.0 e).0

        by : (b : Bool) → claims_points (qso_at qs j) ≡ b → after ≡ cond b Credited Void
        by true c = credited_left qs struck j h n right (holds c) none
        by false c =
            defined.void.1
            (rw same right, rw same ((failed (claims_points (qso_at qs j))).1 (λ t. clash (so (claims_points (qso_at qs j)) t) c)), inr (λ w. none (claimant qs struck j h n w).0 (claimant qs struck j h n w).1))

    -- One that repeats a record which is left.
    pub stays_repeat : (i : ℕ) → i < j → T (not (struck i)) → T (not (is_error (qso_at qs i))) → T (claims_points (qso_at qs i)) → T (same_call_as R (qso_at qs i) (qso_at qs j)) → class_at R qs j ≡ Duplicate → after ≡ Duplicate
    stays_repeat i k m right u t e =
        let d = (as_defined R qs j h).duplicate.0 e in
        let there : qso_at (kept struck qs) (place_after struck i) ≡ qso_at qs i = kept_at _ struck qs i (omega arith) m in
        let w =
        bars (kept struck qs) (place_after struck i) (place_after struck j) (places_ordered struck i j k m) (fits qs struck j h n)
        (rw there right) (rw there u) (rw (there, same) t) in
        defined.duplicate.1 (rw same d.0, rw same d.1, w)

  module _ (log : Log) (struck : Places) where
    pub strikes_rightly : T (valid R log) → StrikesRightly R log struck
    unfolding strike
    strikes_rightly v =
        record {
          still_credited = λ j h n c. still_credited_lem log.records struck j h n c;
          promoted = λ j h n c. promoted_exactly log.records struck j h n (errors_claim_nothing log v) c;
        }

    pub each_class_after_lem : T (valid R log) → EachClassAfter R log struck
    unfolding strike
    each_class_after_lem v =
        let qs = log.records in
        record {
          others_stay = λ j h n other. other_stays qs struck j h n other;
          duplicates_stay = λ i j k h m n t u e.
              stays_repeat qs struck j h n i k m (errors_claim_nothing log v i (omega arith) u) u t e;
          duplicates_freed = λ j h n all e.
              freed qs struck j h n e (λ i c. (failed (struck i)).0 c.1 (all i c.0 c.4 c.3));
        }
