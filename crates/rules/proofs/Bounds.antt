-- The bounds of what a valid log comes to: counts, points, bonuses and the total.
-- Assumes nothing.
use Prim.Native.Nat.{ℕ, zero, suc, ◌+◌, ◌*◌, ◌-◌, ◌^◌, ◌≤◌}
use native.Mathlib.Nat.{le_trans, mul-le-mul, mul-le-mul_right, add-mul, add-le-add}
use native.Mathlib.Omega.{arith}
use mathlib.Core.Path.{◌≡◌, refl}
use mathlib.Core.Bool.{Bool, true, false, cond, not, ◌&&◌, ◌||◌}
use mathlib.Core.List.{List, [], ◌∷◌}
use lib.Dec.{T}
use lib.ListN.{length, get_or}
use Rattle.rules.specs.declared.Class.{Class}
use Rattle.rules.specs.declared.Class.TheVariants.{Credited, Void, Duplicate, Error}
use Rattle.rules.specs.declared.Verdict.{Verdict}
use Rattle.rules.specs.declared.Totals.{Totals}
use Rattle.rules.specs.Text.{Text, bytes, same, value, number_of, parts}
use Rattle.rules.specs.Rules.{Rules, base}
use Rattle.rules.specs.Fields.{Qso, is_error, points_rule, field_rules}
use Rattle.rules.specs.Arguments.{Rule, anything, count_bonus_multiplier, Entry, entries, each, count, bonus, multiplier, part, meets}
use Rattle.rules.specs.Log.{Log, argument_in, argument, argument_rules, conjunction, record_rules, valid}
use Rattle.rules.specs.Judging.{is, class_of, square, is_new, claims_country, verdict_of, credited_after, verdicts_after, verdicts, count_of, credited_sum, credited_points, Declared, declared, multipliers, totals_of, totals, totals_of_log}
use Rattle.rules.specs.Demands.{most_total, TotalIsBounded}
use Rattle.rules.proofs.Tests.{so}
use Rattle.rules.proofs.NumberLaws.{number_from_lem, number_below}
use Rattle.rules.proofs.Passing.{first, second}
use Rattle.rules.proofs.Format.{accepted_when_written}
use Rattle.rules.proofs.Classes.{of_class, length_verdicts_after}
use Rattle.rules.proofs.Distinct.{tally}
use Rattle.rules.proofs.ValidLogs.{points_ruled, arguments_valid, count_valid, records_valid}

-- Counts.
count_length : (f : Verdict → Bool) (vs : List Verdict) → count_of f vs ≤ length vs
unfolding count_of
count_length f [] = omega arith
count_length f (v ∷ vs) = by (f v) (count_length f vs)
  where
    by : (b : Bool) → count_of f vs ≤ length vs → cond b 1 0 + count_of f vs ≤ suc (length vs)
    by true h = omega arith
    by false h = omega arith

one_more_bounded : (b : Bool) (v p n most : ℕ) → v ≤ most → p ≤ n * most → cond b v 0 + p ≤ (tally b + n) * most
one_more_bounded true v p n most h k = omega (arith, add-mul 1 n most)
one_more_bounded false v p n most h k = omega (arith, add-mul 0 n most)

module _ (R : Rules) where
  abbrev credited_count : List Qso → List Qso → ℕ
  credited_count credited qs = of_class Credited (verdicts_after R credited qs)

  -- Marks are of credited records alone.
  marks_credited : (mark : Verdict → Bool) →
      ((credited : List Qso) (q : Qso) → tally (mark (verdict_of R credited q)) ≤ tally (is Credited (verdict_of R credited q).class)) →
      (credited qs : List Qso) →
      count_of mark (verdicts_after R credited qs) ≤ credited_count credited qs
  unfolding verdicts_after count_of
  marks_credited mark f credited [] = omega arith
  marks_credited mark f credited (q ∷ qs) =
      omega (arith, f credited q, marks_credited mark f (credited_after (verdict_of R credited q).class q credited) qs)

  points_below : (q : Qso) → T (points_rule R q) → value q.points ≤ 10 ^ R.points_digits - 1
  unfolding points_rule
  points_below q t =
      let number = number_of R.points_digits q.points in
      let h = number_below R.points_digits q.points (so number (first number (not (is_error q) || same q.points (bytes "0")) t)) in
      omega arith

  points_bounded : (credited qs : List Qso) →
      T (record_rules R qs) →
      credited_points qs (verdicts_after R credited qs) ≤ credited_count credited qs * (10 ^ R.points_digits - 1)
  unfolding verdicts_after count_of credited_sum record_rules
  points_bounded credited [] t = omega arith
  points_bounded credited (q ∷ qs) t =
      let class = class_of R credited q in
      let rules = conjunction (field_rules R q) in
      let ruled = points_ruled R q (first rules (record_rules R qs) t) in
      let small : value q.points ≤ 10 ^ R.points_digits - 1 = points_below q ruled in
      one_more_bounded (is Credited class) (value q.points) _ _ (10 ^ R.points_digits - 1) small
      (points_bounded (credited_after class q credited) qs (second rules (record_rules R qs) t))

-- The rule of the argument of a keyword.
rule_in : List Entry → Text → Rule
rule_in [] keyword = anything
rule_in (e ∷ es) keyword = cond (same e.keyword keyword) e.rule (rule_in es keyword)

-- A text at a place keeps the rule at that place.
pub each_at : (rules : List (Text → Bool)) (ts : List Text) (n : ℕ) → T (each rules ts) → T ((get_or rules n (λ t. true)) (get_or ts n []))
unfolding each
each_at [] [] n t = tt
each_at (rule ∷ rules) (u ∷ ts) zero t = first (rule u) (each rules ts) t
each_at (rule ∷ rules) (u ∷ ts) (suc n) t = each_at rules ts n (second (rule u) (each rules ts) t)
each_at [] (u ∷ ts) n t = elim t [ ]
each_at (rule ∷ rules) [] n t = elim t [ ]

module _ (R : Rules) where
  argument_ruled : (es : List Entry) (ts : List Text) (keyword : Text) →
      T (argument_rules R es ts) →
      T (meets R (rule_in es keyword) (argument_in es ts keyword))
  unfolding argument_rules rule_in argument_in meets
  argument_ruled [] (u ∷ ts) keyword t = elim t [ ]
  argument_ruled (e ∷ es) [] keyword t = elim t [ ]
  argument_ruled [] [] keyword t = tt
  argument_ruled (e ∷ es) (u ∷ ts) keyword t =
      by (same e.keyword keyword)
      (first (meets R e.rule u) (argument_rules R es ts) t)
      (argument_ruled es ts keyword (second (meets R e.rule u) (argument_rules R es ts) t))
    where
      by : (b : Bool) →
          T (meets R e.rule u) →
          T (meets R (rule_in es keyword) (argument_in es ts keyword)) →
          T (meets R (cond b e.rule (rule_in es keyword)) (cond b u (argument_in es ts keyword)))
      by true s k = s
      by false s k = k

  -- The second of three arguments is a bonus, the third a multiplier.
  bonus_below : (t : Text) → T (meets R count_bonus_multiplier t) → value (part 1 t) ≤ R.most_bonus
  unfolding meets part bonus
  bonus_below t m =
      (number_from_lem 0 R.most_bonus (part 1 t) (so (bonus R (part 1 t)) (each_at (count R ∷ bonus R ∷ multiplier R ∷ []) (parts t) 1 m))).high

  multiplier_below : (t : Text) → T (meets R count_bonus_multiplier t) → value (part 2 t) ≤ R.most_multiplier
  unfolding meets part multiplier
  multiplier_below t m =
      (number_from_lem 1 R.most_multiplier (part 2 t) (so (multiplier R (part 2 t)) (each_at (count R ∷ bonus R ∷ multiplier R ∷ []) (parts t) 2 m))).high

-- What the declared bonuses and multipliers are at most.
pub record DeclaredWithin (R : Rules) (d : Declared) : Type 0 where
  pub square_bonus : d.square_bonus ≤ R.most_bonus
  pub square_multiplier : d.square_multiplier ≤ R.most_multiplier
  pub exchange_bonus : d.exchange_bonus ≤ R.most_bonus
  pub exchange_multiplier : d.exchange_multiplier ≤ R.most_multiplier
  pub country_bonus : d.country_bonus ≤ R.most_bonus
  pub country_multiplier : d.country_multiplier ≤ R.most_multiplier

-- What the totals are at most.
pub record Within (R : Rules) (t : Totals) : Type 0 where
  pub credited : t.credited ≤ R.most_records
  pub voids : t.voids ≤ R.most_records
  pub duplicates : t.duplicates ≤ R.most_records
  pub errors : t.errors ≤ R.most_records
  pub points : t.points ≤ R.most_records * (10 ^ R.points_digits - 1)
  pub squares : t.squares ≤ t.credited
  pub exchanges : t.exchanges ≤ t.credited
  pub countries : t.countries ≤ t.credited
  pub squarebonus : t.squarebonus ≤ R.most_records * R.most_bonus
  pub exchangebonus : t.exchangebonus ≤ R.most_records * R.most_bonus
  pub countrybonus : t.countrybonus ≤ R.most_records * R.most_bonus
  pub total :
      t.total
      ≤ (R.most_records * (10 ^ R.points_digits - 1)
      + R.most_records * R.most_bonus
      + R.most_records * R.most_bonus
      + R.most_records * R.most_bonus)
      * (R.most_multiplier * R.most_multiplier * R.most_multiplier)

module _ (R : Rules) where
  mark_counted : (a b : Bool) → tally (a && b) ≤ tally a
  mark_counted true true = omega arith
  mark_counted true false = omega arith
  mark_counted false b = omega arith

  module _ (d : Declared) (qs : List Qso) (w : DeclaredWithin R d) (n : length qs ≤ R.most_records) (rules : T (record_rules R qs)) where
    abbrev judged : List Verdict
    judged = verdicts_after R [] qs

    few_of : (class : Class) → of_class class judged ≤ R.most_records
    few_of class = omega (arith, count_length (λ v. is class v.class) judged, length_verdicts_after R [] qs)

    few_credited : of_class Credited judged ≤ R.most_records
    few_credited = few_of Credited

    few_squares_lem : count_of (λ v. v.square) judged ≤ of_class Credited judged
    unfolding verdict_of
    few_squares_lem = marks_credited R (λ v. v.square) (λ credited q. mark_counted (is Credited (class_of R credited q)) (is_new square credited q)) [] qs

    few_exchanges_lem : count_of (λ v. v.exchange) judged ≤ of_class Credited judged
    unfolding verdict_of
    few_exchanges_lem = marks_credited R (λ v. v.exchange) (λ credited q. mark_counted (is Credited (class_of R credited q)) (is_new (λ e. e.exchange) credited q)) [] qs

    few_countries : count_of (λ v. v.country) judged ≤ of_class Credited judged
    unfolding verdict_of
    few_countries = marks_credited R (λ v. v.country) (λ credited q. mark_counted (is Credited (class_of R credited q)) (claims_country q)) [] qs

    few_points : credited_points qs judged ≤ R.most_records * (10 ^ R.points_digits - 1)
    few_points = le_trans (points_bounded R [] qs rules) (mul-le-mul_right (10 ^ R.points_digits - 1) few_credited)

    pub totals_within : Within R (totals R d qs)
    unfolding totals totals_of verdicts multipliers
    totals_within =
        let most = R.most_records in
        let forSquares = mul-le-mul (le_trans few_squares_lem few_credited) w.square_bonus in
        let forExchanges = mul-le-mul (le_trans few_exchanges_lem few_credited) w.exchange_bonus in
        let forCountries = mul-le-mul (le_trans few_countries few_credited) w.country_bonus in
        record {
          credited = few_credited;
          voids = few_of Void;
          duplicates = few_of Duplicate;
          errors = few_of Error;
          points = few_points;
          squares = few_squares_lem;
          exchanges = few_exchanges_lem;
          countries = few_countries;
          squarebonus = forSquares;
          exchangebonus = forExchanges;
          countrybonus = forCountries;
          total =
              mul-le-mul (add-le-add (add-le-add (add-le-add few_points forSquares) forExchanges) forCountries)
              (mul-le-mul (mul-le-mul w.square_multiplier w.exchange_multiplier) w.country_multiplier);
        }

  module _ (log : Log) (v : T (valid R log)) where
    three_parts : (keyword : Text) → rule_in entries keyword ≡ count_bonus_multiplier → T (meets R count_bonus_multiplier (argument log keyword))
    unfolding argument
    three_parts keyword e = rw e at (argument_ruled R entries log.arguments keyword (arguments_valid R log v))

    declared_within : DeclaredWithin R (declared log)
    unfolding declared rule_in entries same
    declared_within =
        let squares = three_parts (bytes "CWWLs") refl in
        let exchanges = three_parts (bytes "CExcs") refl in
        let countries = three_parts (bytes "CDXCs") refl in
        record {
          square_bonus = bonus_below R (argument log (bytes "CWWLs")) squares;
          square_multiplier = multiplier_below R (argument log (bytes "CWWLs")) squares;
          exchange_bonus = bonus_below R (argument log (bytes "CExcs")) exchanges;
          exchange_multiplier = multiplier_below R (argument log (bytes "CExcs")) exchanges;
          country_bonus = bonus_below R (argument log (bytes "CDXCs")) countries;
          country_multiplier = multiplier_below R (argument log (bytes "CDXCs")) countries;
        }

    pub log_within : Within R (totals_of_log R log)
    unfolding totals_of_log
    log_within = totals_within (declared log) log.records declared_within (count_valid R log v) (records_valid R log v)

pub total_is_bounded_lem : (R : Rules) → TotalIsBounded R
unfolding most_total
total_is_bounded_lem R s log e = (log_within R log ((accepted_when_written R s log).0 e).0).total

pub the_most_total_lem : most_total base ≡ 998_404_684_715_196
unfolding most_total base
the_most_total_lem = refl
