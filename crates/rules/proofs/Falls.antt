-- Striking, in sum: where no duplicate claims points the total does not rise, and falls by no more than what is struck is worth.
-- Assumes nothing.
use Prim.Native.Nat.{ℕ, suc, ◌+◌, ◌*◌, ◌≤◌, ◌<◌, suc-le-suc, zero-le}
use native.Mathlib.Nat.{add-mul, mul-le-mul_right}
use native.Mathlib.Omega.{arith}
use mathlib.Core.Path.{◌≡◌, refl, sym, ap, ◌∙◌}
use mathlib.Core.Logic.{⊎_elim}
use mathlib.Core.Bool.{Bool, true, false, cond, not, ◌&&◌, ◌||◌, and-false}
use mathlib.Core.List.{List, [], ◌∷◌, map}
use lib.Dec.{T}
use lib.ListN.{length, get_or}
use Rattle.rules.specs.declared.Class.{Class}
use Rattle.rules.specs.declared.Class.TheVariants.{Credited, Void, Duplicate}
use Rattle.rules.specs.declared.Verdict.{Verdict}
use Rattle.rules.specs.Text.{Text, same, value}
use Rattle.rules.specs.Rules.{Rules}
use Rattle.rules.specs.Fields.{Qso, is_error}
use Rattle.rules.specs.Arguments.{among}
use Rattle.rules.specs.Log.{Log}
use Rattle.rules.specs.Judging.{Declared, declared, multipliers, is, some, same_call, worked, claims_duplicate, may_repeat, class_of, claims_points, square, is_new, claims_country, verdict_of, credited_after, verdicts_after, verdicts, verdicts_of_log, count_of, credited_sum, credited_points, totals_of, totals, totals_of_log}
use Rattle.rules.specs.Striking.{Places, later, kept, strike, struck_worth}
use Rattle.rules.specs.Demands.{DuplicatesClaimNothing, StrikesCheaply, StrikingRule}
use Rattle.rules.proofs.Passing.{both, first, second, left, right, one_of, failed, equal_tests}
use Rattle.rules.proofs.Classes.{is→equal, by_duplicate, by_credited}
use Rattle.rules.proofs.Distinct.{tally, fresh, news, lost, news_fall, news_kept}
use Rattle.rules.proofs.Strikes.{nothing_promoted_lem, strikes_rightly}

-- A record that is no error and claims points.
unfoldable pub worthy : Qso → Bool
unfolding is_error claims_points
worthy q = not (is_error q) && claims_points q

module _ (R : Rules) where
  -- Every record that is worthy is credited, and no other.
  abbrev Clean : List Qso → List Qso → Type 0
  Clean credited [] = Unit {0}
  Clean credited (q ∷ qs) =
      (is Credited (class_of R credited q) ≡ worthy q) × Clean (credited_after (class_of R credited q) q credited) qs

  -- What a class is credited for: with points the D is not asked.
  credited_when : (credited : List Qso) (q : Qso) →
      is Credited (class_of R credited q) ≡ (not (is_error q) && (not (worked R credited q) && claims_points q))
  unfolding class_of may_repeat
  credited_when credited q =
      by_credited (is_error q) (may_repeat q && worked R credited q) (claims_points q)
      ∙ ap (λ (b : Bool). not (is_error q) && b) (by (claims_points q) (claims_duplicate q) (worked R credited q))
    where
      by : (p m d : Bool) → (not ((p || m) && d) && p) ≡ (not d && p)
      by true m d = refl
      by false m d = and-false (not ((false || m) && d)) ∙ sym (and-false (not d))

  duplicate_when : (credited : List Qso) (q : Qso) →
      is Duplicate (class_of R credited q) ≡ (not (is_error q) && (may_repeat q && worked R credited q))
  unfolding class_of
  duplicate_when credited q = by_duplicate (is_error q) (may_repeat q && worked R credited q) (claims_points q)

  -- A worthy record is credited if it does not repeat.
  worthy_credited : (credited : List Qso) (q : Qso) →
      (T (worthy q) → T (worked R credited q) → ⊥) →
      is Credited (class_of R credited q) ≡ worthy q
  unfolding worthy
  worthy_credited credited q f =
      let e = is_error q in
      let d = worked R credited q in
      let p = claims_points q in
      credited_when credited q
      ∙ equal_tests (not e && (not d && p)) (not e && p)
      (λ t.
      both (not e) p (first (not e) (not d && p) t) (second (not d) p (second (not e) (not d && p) t)))
      (λ t.
      both (not e) (not d && p) (first (not e) p t) (both (not d) p ((failed d).1 (f t)) (second (not e) p t)))

  credited_fresh : (credited : List Qso) (q : Qso) →
      is Credited (class_of R credited q) ≡ worthy q →
      T (worthy q) →
      T (worked R credited q) →
      ⊥
  credited_fresh credited q e w t =
      let c : T (not (is_error q) && (not (worked R credited q) && claims_points q)) = rw (sym e ∙ credited_when credited q) at w in
      (failed (worked R credited q)).0
      (first (not (worked R credited q)) (claims_points q)
      (second (not (is_error q)) (not (worked R credited q) && claims_points q) c)) t

  -- Where no duplicate claims points the log is clean.
  clean : (credited qs : List Qso) (v : Verdict) (e : Qso) →
      ((j : ℕ) → j < length qs → (get_or (verdicts_after R credited qs) j v).class ≡ Duplicate → T (not (claims_points (get_or qs j e)))) →
      Clean credited qs
  unfolding verdicts_after verdict_of worthy may_repeat
  clean credited [] v e f = tt
  clean credited (q ∷ qs) v e f = (
    worthy_credited credited q (λ w t.
        (failed (claims_points q)).0
        (f 0 (suc-le-suc zero-le)
        (is→equal Duplicate (class_of R credited q)
        (rw (duplicate_when credited q)
        (both (not (is_error q)) (may_repeat q && worked R credited q) (first (not (is_error q)) (claims_points q) w)
        (both (may_repeat q) (worked R credited q) (left (claims_points q) (claims_duplicate q) (second (not (is_error q)) (claims_points q) w)) t)))))
        (second (not (is_error q)) (claims_points q) w)),
    clean (credited_after (class_of R credited q) q credited) qs v e (λ j h c. f (suc j) (suc-le-suc h) c),
  )

  -- One more credited record, or not, on both sides.
  more_worked : (less credited : List Qso) (q : Qso) (c b : Class) →
      ((r : Qso) → T (worked R less r) → T (worked R credited r)) →
      (T (is Credited c) → T (is Credited b)) →
      (r : Qso) →
      T (worked R (credited_after c q less) r) →
      T (worked R (credited_after b q credited) r)
  unfolding credited_after some worked same
  more_worked less credited q c b f e r = by (is Credited c) (is Credited b) e
    where
      by : (x y : Bool) → (T x → T y) → T (worked R (cond x (q ∷ less) less) r) → T (worked R (cond y (q ∷ credited) credited) r)
      by true true e t = ⊎_elim (left (same_call R q.call r.call) (worked R credited r)) (λ u. right (same_call R q.call r.call) (worked R credited r) (f r u)) (one_of (same_call R q.call r.call) (worked R less r) t)
      by true false e t = absurd (e tt)
      by false true e t = right (same_call R q.call r.call) (worked R credited r) (f r t)
      by false false e t = f r t

  skipped : (less credited : List Qso) (q : Qso) (b : Class) →
      ((r : Qso) → T (worked R less r) → T (worked R credited r)) →
      (r : Qso) →
      T (worked R less r) →
      T (worked R (credited_after b q credited) r)
  unfolding credited_after is
  skipped less credited q b f = more_worked less credited q Void b f (λ t. absurd t)

  -- What is left of a clean log is clean.
  clean_left : (struck : Places) (credited less qs : List Qso) →
      ((r : Qso) → T (worked R less r) → T (worked R credited r)) →
      Clean credited qs →
      Clean less (kept struck qs)
  unfolding kept
  clean_left struck credited less [] f c = tt
  clean_left struck credited less (q ∷ qs) f c =
      let after = credited_after (class_of R credited q) q credited in
      let here : is Credited (class_of R less q) ≡ worthy q =
      worthy_credited less q (λ w t. credited_fresh credited q c.0 w (f q t)) in
      by (struck 0)
      (clean_left (later struck) after less qs (skipped less credited q (class_of R credited q) f) c.1)
      (here, clean_left (later struck) after (credited_after (class_of R less q) q less) qs (more_worked less credited q (class_of R less q) (class_of R credited q) f (λ t. rw (here ∙ sym c.0) at t)) c.1)
    where
      by : (s : Bool) →
          Clean less (kept (later struck) qs) →
          Clean less (q ∷ kept (later struck) qs) →
          Clean less (cond s (kept (later struck) qs) (q ∷ kept (later struck) qs))
      by true g h = g
      by false g h = h

-- The sum of a weight over a list, and over what is struck of it.
module _ (weight : Qso → ℕ) where
  unfoldable pub sum_of : List Qso → ℕ
  sum_of [] = 0
  sum_of (q ∷ qs) = weight q + sum_of qs

  unfoldable pub sum_struck : Places → List Qso → ℕ
  sum_struck struck [] = 0
  sum_struck struck (q ∷ qs) = cond (struck 0) (weight q) 0 + sum_struck (later struck) qs

  pub sum_kept : (struck : Places) (qs : List Qso) → sum_of qs ≡ sum_of (kept struck qs) + sum_struck struck qs
  unfolding sum_of sum_struck kept
  sum_kept struck [] = refl
  sum_kept struck (q ∷ qs) = by (struck 0) (sum_kept (later struck) qs)
    where
      by : (s : Bool) →
          sum_of qs ≡ sum_of (kept (later struck) qs) + sum_struck (later struck) qs →
          weight q + sum_of qs
          ≡ sum_of (cond s (kept (later struck) qs) (q ∷ kept (later struck) qs)) + (cond s (weight q) 0 + sum_struck (later struck) qs)
      by true e = omega arith
      by false e = omega arith

-- What a clean log comes to.
abbrev points_of : Qso → ℕ
points_of q = cond (worthy q) (value q.points) 0

abbrev country_of : Qso → ℕ
country_of q = tally (worthy q && claims_country q)

module _ (R : Rules) where
  clean_points : (credited qs : List Qso) → Clean R credited qs → credited_points qs (verdicts_after R credited qs) ≡ sum_of points_of qs
  unfolding credited_sum verdicts_after verdict_of sum_of
  clean_points credited [] c = refl
  clean_points credited (q ∷ qs) c = rw (clean_points (credited_after (class_of R credited q) q credited) qs c.1, c.0)

  clean_countries : (credited qs : List Qso) → Clean R credited qs → count_of (λ v. v.country) (verdicts_after R credited qs) ≡ sum_of country_of qs
  unfolding count_of verdicts_after verdict_of sum_of
  clean_countries credited [] c = refl
  clean_countries credited (q ∷ qs) c = rw (clean_countries (credited_after (class_of R credited q) q credited) qs c.1, c.0)

  some_among : (of : Qso → Text) (t : Text) (credited : List Qso) → some (λ e. same (of e) t) credited ≡ among (map of credited) t
  unfolding some among
  some_among of t [] = refl
  some_among of t (q ∷ credited) = rw (some_among of t credited)

  new_fresh : (of : Qso → Text) (credited : List Qso) (q : Qso) → is_new of credited q ≡ fresh (map of credited) (of q)
  unfolding is_new fresh
  new_fresh of credited q = rw (some_among of (of q) credited)

  -- The marks of squares, or of exchanges.
  module _ (of : Qso → Text) (mark : Verdict → Bool)
      (marked : (credited : List Qso) (q : Qso) → mark (verdict_of R credited q) ≡ (is Credited (class_of R credited q) && is_new of credited q)) where
    clean_news : (credited qs : List Qso) → Clean R credited qs → count_of mark (verdicts_after R credited qs) ≡ news of worthy (map of credited) qs
    unfolding count_of verdicts_after verdict_of credited_after news
    clean_news credited [] c = refl
    clean_news credited (q ∷ qs) c =
        rw (marked credited q, clean_news (credited_after (class_of R credited q) q credited) qs c.1, c.0, new_fresh of credited q) (by (worthy q))
      where
        by : (w : Bool) →
            tally (w && fresh (map of credited) (of q)) + news of worthy (map of (cond w (q ∷ credited) credited)) qs
            ≡ cond w (tally (fresh (map of credited) (of q)) + news of worthy (of q ∷ map of credited) qs) (news of worthy (map of credited) qs)
        by true = refl
        by false = omega arith

  -- What is struck of a clean log is worth its points and so many bonuses.
  struck_worth_lem : (d : Declared) (struck : Places) (credited qs : List Qso) →
      Clean R credited qs →
      struck_worth d struck qs (verdicts_after R credited qs)
      ≡ sum_struck points_of struck qs
      + lost worthy struck qs * d.square_bonus
      + lost worthy struck qs * d.exchange_bonus
      + lost worthy struck qs * d.country_bonus
  unfolding struck_worth verdicts_after verdict_of sum_struck lost
  struck_worth_lem d struck credited [] c = omega arith
  struck_worth_lem d struck credited (q ∷ qs) c =
      rw (struck_worth_lem d (later struck) (credited_after (class_of R credited q) q credited) qs c.1, c.0) (by (struck 0) (worthy q))
    where
      n : ℕ
      n = lost worthy (later struck) qs

      by : (s w : Bool) →
          cond (s && w) (value q.points + d.square_bonus + d.exchange_bonus + d.country_bonus) 0
          + (sum_struck points_of (later struck) qs + n * d.square_bonus + n * d.exchange_bonus + n * d.country_bonus)
          ≡ cond s (cond w (value q.points) 0) 0
          + sum_struck points_of (later struck) qs
          + (tally (s && w) + n) * d.square_bonus
          + (tally (s && w) + n) * d.exchange_bonus
          + (tally (s && w) + n) * d.country_bonus
      by true true = omega (arith, add-mul 1 n d.square_bonus, add-mul 1 n d.exchange_bonus, add-mul 1 n d.country_bonus)
      by true false = omega (arith, add-mul 0 n d.square_bonus, add-mul 0 n d.exchange_bonus, add-mul 0 n d.country_bonus)
      by false w = omega (arith, add-mul 0 n d.square_bonus, add-mul 0 n d.exchange_bonus, add-mul 0 n d.country_bonus)

-- As many countries are lost, at most.
countries_lost : (struck : Places) (qs : List Qso) → sum_struck country_of struck qs ≤ lost worthy struck qs
unfolding sum_struck lost
countries_lost struck [] = omega arith
countries_lost struck (q ∷ qs) =
    let h = countries_lost (later struck) qs in
    omega (arith, by (struck 0) (worthy q) (claims_country q))
  where
    by : (s w k : Bool) → cond s (tally (w && k)) 0 ≤ tally (s && w)
    by true true true = omega arith
    by true true false = omega arith
    by true false k = omega arith
    by false w k = omega arith

-- What a clean log comes to, before its multipliers.
abbrev sum_by : Declared → List Qso → ℕ
sum_by d qs =
    sum_of points_of qs
    + news square worthy [] qs * d.square_bonus
    + news (λ q. q.exchange) worthy [] qs * d.exchange_bonus
    + sum_of country_of qs * d.country_bonus

module _ (d : Declared) (struck : Places) (qs : List Qso) where
  fewer_countries : sum_of country_of (kept struck qs) ≤ sum_of country_of qs
  fewer_countries = omega (arith, sum_kept country_of struck qs)

  sum_does_not_rise : sum_by d (kept struck qs) ≤ sum_by d qs
  sum_does_not_rise =
      omega (
        arith,
        sum_kept points_of struck qs,
        mul-le-mul_right d.square_bonus (news_fall square worthy struck [] qs),
        mul-le-mul_right d.exchange_bonus (news_fall (λ q. q.exchange) worthy struck [] qs),
        mul-le-mul_right d.country_bonus fewer_countries,
      )

  abbrev gone : ℕ
  gone = lost worthy struck qs

  countries_kept : sum_of country_of qs ≤ sum_of country_of (kept struck qs) + gone
  countries_kept = omega (arith, sum_kept country_of struck qs, countries_lost struck qs)

  abbrev worth_of_struck : ℕ
  worth_of_struck = sum_struck points_of struck qs + gone * d.square_bonus + gone * d.exchange_bonus + gone * d.country_bonus

  sum_fall_is_bounded : sum_by d qs ≤ sum_by d (kept struck qs) + worth_of_struck
  sum_fall_is_bounded =
      omega (
        arith,
        sum_kept points_of struck qs,
        mul-le-mul_right d.square_bonus (news_kept square worthy struck [] qs),
        add-mul (news square worthy [] (kept struck qs)) gone d.square_bonus,
        mul-le-mul_right d.exchange_bonus (news_kept (λ q. q.exchange) worthy struck [] qs),
        add-mul (news (λ q. q.exchange) worthy [] (kept struck qs)) gone d.exchange_bonus,
        mul-le-mul_right d.country_bonus countries_kept,
        add-mul (sum_of country_of (kept struck qs)) gone d.country_bonus,
      )

module _ (R : Rules) where
  -- The total of a clean log.
  total_clean : (d : Declared) (qs : List Qso) → Clean R [] qs → (totals R d qs).total ≡ sum_by d qs * multipliers d
  unfolding totals totals_of verdicts verdict_of
  total_clean d qs c =
      rw (
        clean_points R [] qs c,
        clean_news R square (λ v. v.square) (λ credited q. refl) [] qs c,
        clean_news R (λ q. q.exchange) (λ v. v.exchange) (λ credited q. refl) [] qs c,
        clean_countries R [] qs c,
      )

  module _ (log : Log) (struck : Places) (none : DuplicatesClaimNothing R log) where
    before_clean : Clean R [] log.records
    unfolding verdicts
    before_clean = clean R [] log.records _ _ none

    after_clean : Clean R [] (kept struck log.records)
    after_clean = clean_left R struck [] [] log.records (λ r t. t) before_clean

    total_before : (totals_of_log R log).total ≡ sum_by (declared log) log.records * multipliers (declared log)
    unfolding totals_of_log
    total_before = total_clean (declared log) log.records before_clean

    total_after :
        (totals_of_log R (strike struck log)).total
        ≡ sum_by (declared log) (kept struck log.records) * multipliers (declared log)
    unfolding totals_of_log strike declared
    total_after = total_clean (declared log) (kept struck log.records) after_clean

    pub strikes_cheaply : StrikesCheaply R log struck
    unfolding strike verdicts_of_log verdicts
    strikes_cheaply =
        let d = declared log in
        let qs = log.records in
        record {
          nothing_promoted = λ j h n c. nothing_promoted_lem R qs struck j h n (none j h) c;
          does_not_rise = rw (total_before, total_after) (mul-le-mul_right (multipliers d) (sum_does_not_rise d struck qs));
          fall_is_bounded =
              rw (total_before, total_after, struck_worth_lem R d struck [] qs before_clean, ← add-mul)
              (mul-le-mul_right (multipliers d) (sum_fall_is_bounded d struck qs));
        }

pub striking_rule_lem : (R : Rules) → StrikingRule R
striking_rule_lem R log struck v = (strikes_rightly R log struck v, strikes_cheaply R log struck)
