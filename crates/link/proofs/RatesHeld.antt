-- The declared bonuses and multipliers, kept as their lines come: they are those of the arguments so far, and at the end what the log declares.
-- Assumes nothing.
use Prim.Native.Nat.{ℕ, zero, suc, ◌≤◌, ◌<◌}
use native.Mathlib.Omega.{arith}
use mathlib.Core.Path.{◌≡◌, refl, sym, ap, subst, ◌∙◌}
use mathlib.Core.Bool.{Bool, true, false, cond, ◌&&◌}
use mathlib.Core.List.{List, [], ◌∷◌, ◌++◌}
use lib.Dec.{eqb, leb}
use lib.ListN.{length, drop, get_or, length-append}
use borrow.Author.Tests.{eqb-true, eqb-false, leb-true, eq-eqb, ne_eqb}
use Rattle.std.specs.Prelude.{Ok, Err}
use Rattle.rules.specs.declared.Due.{Due}
use Rattle.rules.specs.declared.Due.TheVariants.{Keyword}
use Rattle.rules.specs.Text.{Text, bytes, same, value, number, number_from, parts}
use Rattle.rules.specs.Rules.{Rules}
use Rattle.rules.specs.Arguments.{Entry, entries, meets, count_bonus_multiplier, count, bonus, multiplier, part}
use Rattle.rules.specs.Log.{Log, argument_in, argument, conjunction}
use Rattle.rules.specs.Reading.{argument_on, argument_due, has_keyword, keyword_line, keyword_due, step, with_line, fault}
use Rattle.rules.specs.Judging.{declared}
use Rattle.rules.specs.Session.{rate_rule, declared_rule}
use Rattle.rules.proofs.Tests.{so, holds, and_l, and_r, and_i, picked}
use Rattle.rules.proofs.Bounds.{each_at}
use Rattle.reader.specs.Contact.{value_by}
use Rattle.reader.proofs.DueLaws.{entries_length}
use Rattle.judge.specs.Count.{as_declared}
use Rattle.judge.specs.Narrow.{low}
use Rattle.link.specs.declared.Rated.{Rated}
use Rattle.link.specs.Link.{no_rates, declared_in, bonus_on, multiplier_on, rated_at}
use Rattle.link.specs.Keeping.{FitsLink}
use Rattle.link.proofs.LogGrows.{arguments_on}

-- A line that is taken is not refused.
pub no_stop : (number field : ℕ) (next : Due) → Err (fault number field) ≡ Ok next → ⊥
no_stop number field next e = let z : ◌≡◌ {A = ℕ} 0 1 = cc in absurd (omega arith)

-- The text at a place, with one text more behind them.
get_d_more : (ts : List Text) (x : Text) (i : ℕ) → get_or (ts ++ (x ∷ [])) i [] ≡ cond (eqb (length ts) i) x (get_or ts i [])
get_d_more [] x zero = refl
get_d_more [] x (suc i) = rw (ne_eqb 0 (suc i) (λ e. omega arith))
get_d_more (t ∷ ts) x zero = rw (ne_eqb (suc (length ts)) 0 (λ e. omega arith))
get_d_more (t ∷ ts) x (suc i) = get_d_more ts x i ∙ ap (λ (b : Bool). cond b x (get_or ts i [])) (one_less (length ts) i)
  where
    one_less : (n m : ℕ) → eqb n m ≡ eqb (suc n) (suc m)
    one_less n m = by (eqb n m) refl
      where
        by : (b : Bool) → eqb n m ≡ b → b ≡ eqb (suc n) (suc m)
        by true e = sym (eq-eqb (suc n) (suc m) (ap suc (eqb-true n m e)))
        by false e = sym (ne_eqb (suc n) (suc m) (λ s. eqb-false n m e (omega arith)))

-- # A line of three arguments

-- The second is a bonus and the third a multiplier.
pub record Rates (R : Rules) (t : Text) : Type 0 where
  pub bonus_is : bonus R (part 1 t) ≡ true
  pub multiplier_is : multiplier R (part 2 t) ≡ true

module _ (R : Rules) where
  pub rates_of : (t : Text) → meets R count_bonus_multiplier t ≡ true → Rates R t
  unfolding meets part
  rates_of t m =
      record {
        bonus_is = so (bonus R (part 1 t)) (each_at (count R ∷ bonus R ∷ multiplier R ∷ []) (parts t) 1 (holds m));
        multiplier_is = so (multiplier R (part 2 t)) (each_at (count R ∷ bonus R ∷ multiplier R ∷ []) (parts t) 2 (holds m));
      }

  -- A number within its bounds.
  number_least : (least most : ℕ) (t : Text) → number_from least most t ≡ true → leb least (value t) ≡ true
  unfolding number_from
  number_least least most t e =
      and_r (number t) (leb least (value t)) (and_l (number t && leb least (value t)) (leb (value t) most) e)

  number_most : (least most : ℕ) (t : Text) → number_from least most t ≡ true → leb (value t) most ≡ true
  unfolding number_from
  number_most least most t e = and_r (number t && leb least (value t)) (leb (value t) most) e

  module _ (F : FitsLink R) (l : Text) (r : Rates R (drop 6 l)) where
    bonus_told : low (bonus_on R l) ≡ value (part 1 (drop 6 l))
    unfolding value_by bonus
    bonus_told =
        let t = part 1 (drop 6 l) in
        let most = leb-true (value t) R.most_bonus (number_most 0 R.most_bonus t r.bonus_is) in
        rw r.bonus_is (omega (arith, most, F.bonus))

    multiplier_told : low (multiplier_on R l) ≡ value (part 2 (drop 6 l))
    unfolding value_by multiplier
    multiplier_told =
        let t = part 2 (drop 6 l) in
        let most = leb-true (value t) R.most_multiplier (number_most 1 R.most_multiplier t r.multiplier_is) in
        rw r.multiplier_is (omega (arith, most, F.multiplier))

  -- # One keyword's numbers

  -- They are those of the argument at a place, and zero as long as there is none.
  pub record RateIs (ts : List Text) (i b m : ℕ) : Type 0 where
    pub bonus_is : b ≡ value (part 1 (get_or ts i []))
    pub multiplier_is : m ≡ value (part 2 (get_or ts i []))
    pub ruled : i < length ts → Rates R (get_or ts i [])

  rate_none : (i : ℕ) → RateIs [] i 0 0
  unfolding part parts value
  rate_none i = record { bonus_is = refl; multiplier_is = refl; ruled = λ h. absurd (omega arith) }

  -- One argument more, which is that at the place or another.
  module _ (F : FitsLink R) (ts : List Text) (i b m : ℕ) (is : RateIs ts i b m) (j : ℕ) (many : length ts ≡ j) (x l : Text) (brings : j ≡ i → (x ≡ drop 6 l) × Rates R (drop 6 l)) where
    abbrev more : List Text
    more = ts ++ (x ∷ [])

    there : (c : Bool) → eqb j i ≡ c → get_or more i [] ≡ cond c x (get_or ts i [])
    there c e = get_d_more ts x i ∙ (λ k. cond (((λ n. eqb (many n) i) ∙ e) k) x (get_or ts i []))

    rate_more : RateIs more i (cond (eqb j i) (low (bonus_on R l)) b) (cond (eqb j i) (low (multiplier_on R l)) m)
    rate_more = by (eqb j i) refl
      where
        by : (c : Bool) → eqb j i ≡ c → RateIs more i (cond c (low (bonus_on R l)) b) (cond c (low (multiplier_on R l)) m)
        by true e =
            let is-it = brings (eqb-true j i e) in
            let at : get_or more i [] ≡ drop 6 l = there true e ∙ is-it.0 in
            record {
              bonus_is = bonus_told F l is-it.1 ∙ ap (λ (t : Text). value (part 1 t)) (sym at);
              multiplier_is = multiplier_told F l is-it.1 ∙ ap (λ (t : Text). value (part 2 t)) (sym at);
              ruled = λ h. subst (Rates R) (sym at) is-it.1;
            }
        by false e =
            let at = there false e in
            record {
              bonus_is = is.bonus_is ∙ ap (λ (t : Text). value (part 1 t)) (sym at);
              multiplier_is = is.multiplier_is ∙ ap (λ (t : Text). value (part 2 t)) (sym at);
              ruled = λ h. subst (Rates R) (sym at) (is.ruled (omega (arith, h, length-append ts (x ∷ []), many, eqb-false j i e)));
            }

  -- # All three

  pub record Declares (ts : List Text) (r : Rated) : Type 0 where
    pub squares : RateIs ts 28 r.squarebonus r.squaremultiplier
    pub exchanges : RateIs ts 30 r.exchangebonus r.exchangemultiplier
    pub countries : RateIs ts 32 r.countrybonus r.countrymultiplier

  pub declares_none : Declares [] no_rates
  unfolding no_rates
  declares_none = record { squares = rate_none 28; exchanges = rate_none 30; countries = rate_none 32 }

  -- A keyword line that is taken keeps its rule.
  pub keyword_taken : (e : Entry) (l : Text) (due next : Due) → keyword_line R e l due ≡ Ok next → (meets R e.rule (argument_on e l) ≡ true) × (due ≡ next)
  unfolding keyword_line
  keyword_taken e l due next g =
      let has = picked (has_keyword e l) g (no_stop 3 0 next) in
      let met = picked (meets R e.rule (argument_on e l)) has.1 (no_stop 4 0 next) in
      let then : due ≡ next = cc in
      (met.0, then)

  -- Of the three keywords it brings the numbers, and of another it leaves them.
  module _ (F : FitsLink R) (ts : List Text) (r : Rated) (is : Declares ts r) (j : ℕ) (many : length ts ≡ j) (l : Text) (next : Due) (taken : step R (Keyword j) l ≡ Ok next) where
    abbrev brought : Text
    brought = argument_due (drop j entries) l

    -- Such a keyword's argument begins behind six characters, and keeps its rule.
    three_at : (i : ℕ) (e : Entry) (due : Due) → e.rule ≡ count_bonus_multiplier → argument_on e l ≡ drop 6 l → argument_due (drop i entries) l ≡ argument_on e l → step R (Keyword i) l ≡ keyword_line R e l due → j ≡ i → (brought ≡ drop 6 l) × Rates R (drop 6 l)
    three_at i e due rule six of line g =
        let met = keyword_taken e l due next (sym line ∙ ap (λ (n : ℕ). step R (Keyword n) l) (sym g) ∙ taken) in
        (ap (λ (n : ℕ). argument_due (drop n entries) l) g ∙ of ∙ six, rates_of (drop 6 l) ((λ k. meets R (sym rule k) (sym six k)) ∙ met.0))

    pub declares_more : Declares (ts ++ arguments_on (Keyword j) l) (rated_at R j l r)
    unfolding rated_at arguments_on with_line step keyword_due entries argument_due argument_on
    declares_more =
        record {
          squares = rate_more F ts 28 r.squarebonus r.squaremultiplier is.squares j many brought l (three_at 28 (get_or entries 28 (record { keyword = []; rule = count_bonus_multiplier })) (Keyword 29) refl refl refl refl);
          exchanges = rate_more F ts 30 r.exchangebonus r.exchangemultiplier is.exchanges j many brought l (three_at 30 (get_or entries 30 (record { keyword = []; rule = count_bonus_multiplier })) (Keyword 31) refl refl refl refl);
          countries = rate_more F ts 32 r.countrybonus r.countrymultiplier is.countries j many brought l (three_at 32 (get_or entries 32 (record { keyword = []; rule = count_bonus_multiplier })) (Keyword 33) refl refl refl refl);
        }

-- # At the end

-- The place of a keyword in a table.
unfoldable place_in : List Entry → Text → ℕ
unfolding same
place_in [] keyword = 0
place_in (e ∷ es) keyword =
    let later = suc (place_in es keyword) in
    cond (same e.keyword keyword) 0 later

argument_placed : (es : List Entry) (ts : List Text) (keyword : Text) → length ts ≤ length es → argument_in es ts keyword ≡ get_or ts (place_in es keyword) []
unfolding argument_in place_in
argument_placed [] [] keyword h = refl
argument_placed [] (t ∷ ts) keyword h = absurd (omega arith)
argument_placed (e ∷ es) [] keyword h = refl
argument_placed (e ∷ es) (t ∷ ts) keyword h = by (same e.keyword keyword) (argument_placed es ts keyword (omega arith))
  where
    by : (b : Bool) → argument_in es ts keyword ≡ get_or ts (place_in es keyword) [] → cond b t (argument_in es ts keyword) ≡ get_or (t ∷ ts) (cond b 0 (suc (place_in es keyword))) []
    by true later = refl
    by false later = later

module _ (R : Rules) (log : Log) (r : Rated) (is : Declares R log.arguments r) (many : length log.arguments ≡ 36) where
  abbrev ts : List Text
  ts = log.arguments

  placed : (keyword : Text) → argument log keyword ≡ get_or ts (place_in entries keyword) []
  unfolding argument
  placed keyword = argument_placed entries ts keyword (omega (arith, many, entries_length))

  pub declared_is : as_declared (declared_in r) ≡ declared log
  unfolding as_declared declared_in declared place_in same entries
  declared_is = λ k.
      record {
        square_bonus = (is.squares.bonus_is ∙ ap (λ (t : Text). value (part 1 t)) (sym (placed (bytes "CWWLs")))) k;
        square_multiplier = (is.squares.multiplier_is ∙ ap (λ (t : Text). value (part 2 t)) (sym (placed (bytes "CWWLs")))) k;
        exchange_bonus = (is.exchanges.bonus_is ∙ ap (λ (t : Text). value (part 1 t)) (sym (placed (bytes "CExcs")))) k;
        exchange_multiplier = (is.exchanges.multiplier_is ∙ ap (λ (t : Text). value (part 2 t)) (sym (placed (bytes "CExcs")))) k;
        country_bonus = (is.countries.bonus_is ∙ ap (λ (t : Text). value (part 1 t)) (sym (placed (bytes "CDXCs")))) k;
        country_multiplier = (is.countries.multiplier_is ∙ ap (λ (t : Text). value (part 2 t)) (sym (placed (bytes "CDXCs")))) k;
      }

  rate_ruled : (i b m : ℕ) → i < 36 → RateIs R ts i b m → rate_rule R b m ≡ true
  unfolding rate_rule conjunction bonus multiplier
  rate_ruled i b m h e =
      let rates = e.ruled (omega (arith, h, many)) in
      let t = get_or ts i [] in
      rw (e.bonus_is, e.multiplier_is)
      (and_i (number_most R 0 R.most_bonus (part 1 t) rates.bonus_is)
      (and_i (number_least R 1 R.most_multiplier (part 2 t) rates.multiplier_is)
      (and_i (number_most R 1 R.most_multiplier (part 2 t) rates.multiplier_is) refl)))

  pub declared_ruled : declared_rule R (as_declared (declared_in r)) ≡ true
  unfolding declared_rule conjunction as_declared declared_in
  declared_ruled =
      and_i (rate_ruled 28 r.squarebonus r.squaremultiplier (omega arith) is.squares)
      (and_i (rate_ruled 30 r.exchangebonus r.exchangemultiplier (omega arith) is.exchanges)
      (and_i (rate_ruled 32 r.countrybonus r.countrymultiplier (omega arith) is.countries) refl))
