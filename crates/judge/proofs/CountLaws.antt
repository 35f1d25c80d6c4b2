-- Laws of the totals as they grow: they come to those of document 01, and no sum runs over.
-- Assumes nothing.
use Prim.Native.Nat.{ℕ, ◌+◌, ◌*◌, ◌≤◌, ◌<◌}
use native.Mathlib.Omega.{arith}
use native.Mathlib.Nat.{mul-le-mul, mul-le-mul_right, add-mul, add-zero}
use mathlib.Core.Path.{◌≡◌, refl, sym, ap, ◌∙◌}
use mathlib.Core.Bool.{Bool, true, false, cond}
use mathlib.Core.List.{List, [], ◌∷◌}
use lib.Dec.{T}
use lib.ListN.{length, get_or, set}
use mir.Val.{bool_byte}
use Rattle.rules.specs.declared.Class.{Class}
use Rattle.rules.specs.declared.Class.TheVariants.{Credited, Void, Duplicate, Error}
use Rattle.rules.specs.declared.Verdict.{Verdict}
use Rattle.rules.specs.declared.Modes.{Modes}
use Rattle.rules.specs.declared.Totals.{Totals}
use Rattle.rules.specs.Text.{value}
use Rattle.rules.specs.Rules.{Rules, base}
use Rattle.rules.specs.Fields.{Qso}
use Rattle.rules.specs.Log.{record_rules}
use Rattle.rules.specs.Judging.{class_number, is, count_of, credited_sum, credited_points, multipliers, totals_of, zero_totals}
use Rattle.places.specs.declared.Declared.{Declared}
use Rattle.judge.specs.Bounds.{most_worth, Counts, Addable, Countable, Closable}
use Rattle.judge.specs.declared.Tally.{Tally}
use Rattle.judge.specs.Count.{worth_if, as_declared, mode_of, add_mode, modes_after, add_record, add_records, closing}
use Rattle.judge.proofs.ModeLaws.{modes_counted}

-- # What the limits of document 01 come to

-- So no number runs over with one record more.
pub countable_addable : {t : Tally} {modes : List ℕ} {worth mode : ℕ} {v : Verdict} → Countable base t modes worth mode v → Addable t modes worth mode v
unfolding base
countable_addable h =
    let few = h.few in
    let room = h.room in
    let small = h.small in
    let points = few.points in
    record {
      credited = omega (arith, few.credited);
      voids = omega (arith, few.voids);
      duplicates = omega (arith, few.duplicates);
      errors = omega (arith, few.errors);
      squares = omega (arith, few.squares);
      exchanges = omega (arith, few.exchanges);
      countries = omega (arith, few.countries);
      points = omega arith;
      long = h.long;
      modes_small = λ k. omega (arith, h.few_modes k);
      worth_small = omega arith;
      place = h.place;
      exchange = h.exchange;
      square = h.square;
      country = h.country;
    }

-- The mode of a credited record is one of the eleven.
pub mode_placed : {t : Tally} {modes : List ℕ} {worth mode : ℕ} {v : Verdict} → Addable t modes worth mode v → v.class ≡ Credited → mode < 11
unfolding is class_number
mode_placed h e = h.place (ap (is Credited) e)

-- What the declared bonuses and multipliers make of the totals.
pub record Closes (t : Tally) (d : Declared) : Type 0 where
  pub squares : t.squares * d.squarebonus < 16_777_216
  pub exchanges : t.exchanges * d.exchangebonus < 16_777_216
  pub countries : t.countries * d.countrybonus < 16_777_216
  pub points : t.points < 1_073_741_824
  pub two : d.squaremultiplier * d.exchangemultiplier < 16_384
  pub three : d.squaremultiplier * d.exchangemultiplier * d.countrymultiplier < 1_048_576
  pub total :
      (t.points + t.squares * d.squarebonus + t.exchanges * d.exchangebonus + t.countries * d.countrybonus)
      * (d.squaremultiplier * d.exchangemultiplier * d.countrymultiplier)
      ≤ 2_251_799_813_685_248

pub closes : (t : Tally) (modes : List ℕ) (d : Declared) → Closable base t modes d → Closes t d
unfolding base
closes t modes d h =
    let squares : t.squares * d.squarebonus ≤ base.most_records * base.most_bonus = mul-le-mul h.few.squares h.small.squarebonus in
    let exchanges : t.exchanges * d.exchangebonus ≤ base.most_records * base.most_bonus = mul-le-mul h.few.exchanges h.small.exchangebonus in
    let countries : t.countries * d.countrybonus ≤ base.most_records * base.most_bonus = mul-le-mul h.few.countries h.small.countrybonus in
    let points : t.points ≤ base.most_records * most_worth base = h.few.points in
    let two : d.squaremultiplier * d.exchangemultiplier ≤ base.most_multiplier * base.most_multiplier = mul-le-mul h.small.squaremultiplier h.small.exchangemultiplier in
    let three : d.squaremultiplier * d.exchangemultiplier * d.countrymultiplier ≤ base.most_multiplier * base.most_multiplier * base.most_multiplier = mul-le-mul two h.small.countrymultiplier in
    let sum : t.points + t.squares * d.squarebonus + t.exchanges * d.exchangebonus + t.countries * d.countrybonus ≤ 2_147_483_648 = omega arith in
    let most : d.squaremultiplier * d.exchangemultiplier * d.countrymultiplier ≤ 1_048_576 = omega arith in
    record {
      squares = omega arith;
      exchanges = omega arith;
      countries = omega arith;
      points = omega arith;
      two = omega arith;
      three = omega arith;
      total = mul-le-mul sum most;
    }

-- # One record more

pub worth_most : (b : Bool) (w : ℕ) → worth_if b w ≤ w
worth_most true w = omega arith
worth_most false w = omega arith

-- A test as a number is what it adds to a count.
pub bit_worth : (b : Bool) → bool_byte b ≡ worth_if b 1
bit_worth true = refl
bit_worth false = refl

pub raised_by : {b : Bool} (w s : ℕ) → b ≡ true → w + s ≡ worth_if b w + s
raised_by w s e = rw e

pub raised_not : {b : Bool} (w s : ℕ) → b ≡ false → s ≡ worth_if b w + s
raised_not w s e = rw e (omega arith)

pub class_number_most : (class : Class) → class_number class ≤ 3
unfolding class_number
class_number_most Credited = omega arith
class_number_most Void = omega arith
class_number_most Duplicate = omega arith
class_number_most Error = omega arith

-- The sums after a record, each by its own test.
counted_all : (t : Totals) (worth mode : ℕ) (v : Verdict) {a b c d p s x y : ℕ} {m : Modes} →
    a ≡ worth_if (is Credited v.class) 1 + t.credited →
    b ≡ worth_if (is Void v.class) 1 + t.voids →
    c ≡ worth_if (is Duplicate v.class) 1 + t.duplicates →
    d ≡ worth_if (is Error v.class) 1 + t.errors →
    p ≡ worth_if (is Credited v.class) worth + t.points →
    s ≡ worth_if v.square 1 + t.squares →
    x ≡ worth_if v.exchange 1 + t.exchanges →
    y ≡ worth_if v.country 1 + t.countries →
    m ≡ cond (is Credited v.class) (add_mode t.modes mode) t.modes →
    ◌≡◌ {A = Totals}
    (record {
      credited = a;
      voids = b;
      duplicates = c;
      errors = d;
      points = p;
      squares = s;
      exchanges = x;
      countries = y;
      squarebonus = t.squarebonus;
      exchangebonus = t.exchangebonus;
      countrybonus = t.countrybonus;
      total = t.total;
      modes = m;
    })
    (add_record t worth mode v)
unfolding add_record
counted_all t worth mode v ea eb ec ed ep es ex ey em = λ i.
    record {
      credited = ea i;
      voids = eb i;
      duplicates = ec i;
      errors = ed i;
      points = ep i;
      squares = es i;
      exchanges = ex i;
      countries = ey i;
      squarebonus = t.squarebonus;
      exchangebonus = t.exchangebonus;
      countrybonus = t.countrybonus;
      total = t.total;
      modes = em i;
    }

-- The totals with one of the counts of classes, the marks and the modes replaced.
abbrev with_sums : Totals → (credited voids duplicates errors points squares exchanges countries : ℕ) → Modes → Totals
with_sums t a b c d p s x y m =
    record {
      credited = a;
      voids = b;
      duplicates = c;
      errors = d;
      points = p;
      squares = s;
      exchanges = x;
      countries = y;
      squarebonus = t.squarebonus;
      exchangebonus = t.exchangebonus;
      countrybonus = t.countrybonus;
      total = t.total;
      modes = m;
    }

-- In the list one more stands at the place of a credited record's mode, and nothing changes with another.
module _ (l : List ℕ) (mode : ℕ) (v : Verdict) where
  pub credited_list : v.class ≡ Credited → set l mode (1 + get_or l mode 0) ≡ modes_after l mode v
  unfolding is class_number
  credited_list e = ap (λ (c : Class). cond (is Credited c) (set l mode (1 + get_or l mode 0)) l) (sym e)

  pub other_list : {c : Class} → v.class ≡ c → is Credited c ≡ false → l ≡ modes_after l mode v
  other_list e n = ap (λ (b : Bool). cond b (set l mode (1 + get_or l mode 0)) l) (sym (ap (is Credited) e ∙ n))

module _ (t : Totals) (worth mode : ℕ) (v : Verdict) where
  pub credited_sums : {s x y : ℕ} {m : Modes} → v.class ≡ Credited → s ≡ worth_if v.square 1 → x ≡ worth_if v.exchange 1 → y ≡ worth_if v.country 1 → m ≡ add_mode t.modes mode →
      with_sums t (1 + t.credited) t.voids t.duplicates t.errors (worth + t.points) (s + t.squares) (x + t.exchanges) (y + t.countries) m ≡ add_record t worth mode v
  unfolding is class_number
  credited_sums e es ex ey em =
      counted_all t worth mode v
      (raised_by 1 t.credited (ap (is Credited) e))
      (raised_not 1 t.voids (ap (is Void) e))
      (raised_not 1 t.duplicates (ap (is Duplicate) e))
      (raised_not 1 t.errors (ap (is Error) e))
      (raised_by worth t.points (ap (is Credited) e))
      (ap (λ (n : ℕ). n + t.squares) es)
      (ap (λ (n : ℕ). n + t.exchanges) ex)
      (ap (λ (n : ℕ). n + t.countries) ey)
      (em ∙ ap (λ (b : Bool). cond b (add_mode t.modes mode) t.modes) (sym (ap (is Credited) e)))

  -- A record that is not credited bears no mark.
  module _ (nx : is Credited v.class ≡ false → v.exchange ≡ false) (ns : is Credited v.class ≡ false → v.square ≡ false) (nc : is Credited v.class ≡ false → v.country ≡ false) where
    other_sums : {b c d : ℕ} → is Credited v.class ≡ false →
        b ≡ worth_if (is Void v.class) 1 + t.voids →
        c ≡ worth_if (is Duplicate v.class) 1 + t.duplicates →
        d ≡ worth_if (is Error v.class) 1 + t.errors →
        with_sums t t.credited b c d t.points t.squares t.exchanges t.countries t.modes ≡ add_record t worth mode v
    other_sums n eb ec ed =
        counted_all t worth mode v
        (raised_not 1 t.credited n)
        eb
        ec
        ed
        (raised_not worth t.points n)
        (raised_not 1 t.squares (ns n))
        (raised_not 1 t.exchanges (nx n))
        (raised_not 1 t.countries (nc n))
        (ap (λ (b : Bool). cond b (add_mode t.modes mode) t.modes) (sym n))

    pub void_sums : v.class ≡ Void → with_sums t t.credited (1 + t.voids) t.duplicates t.errors t.points t.squares t.exchanges t.countries t.modes ≡ add_record t worth mode v
    unfolding is class_number
    void_sums e =
        other_sums (ap (is Credited) e) (raised_by 1 t.voids (ap (is Void) e)) (raised_not 1 t.duplicates (ap (is Duplicate) e)) (raised_not 1 t.errors (ap (is Error) e))

    pub duplicate_sums : v.class ≡ Duplicate → with_sums t t.credited t.voids (1 + t.duplicates) t.errors t.points t.squares t.exchanges t.countries t.modes ≡ add_record t worth mode v
    unfolding is class_number
    duplicate_sums e =
        other_sums (ap (is Credited) e) (raised_not 1 t.voids (ap (is Void) e)) (raised_by 1 t.duplicates (ap (is Duplicate) e)) (raised_not 1 t.errors (ap (is Error) e))

    pub error_sums : v.class ≡ Error → with_sums t t.credited t.voids t.duplicates (1 + t.errors) t.points t.squares t.exchanges t.countries t.modes ≡ add_record t worth mode v
    unfolding is class_number
    error_sums e =
        other_sums (ap (is Credited) e) (raised_not 1 t.voids (ap (is Void) e)) (raised_not 1 t.duplicates (ap (is Duplicate) e)) (raised_by 1 t.errors (ap (is Error) e))

-- What is not credited brings nothing, whatever it is worth and by whatever mode.
pub brings : (t : Totals) (worth mode : ℕ) (v : Verdict) {told : ℕ} → (is Credited v.class ≡ true → told ≡ mode) → add_record t (worth_if (is Credited v.class) worth) told v ≡ add_record t worth mode v
unfolding add_record
brings t worth mode v {told} h = λ i.
    record {
      credited = worth_if (is Credited v.class) 1 + t.credited;
      voids = worth_if (is Void v.class) 1 + t.voids;
      duplicates = worth_if (is Duplicate v.class) 1 + t.duplicates;
      errors = worth_if (is Error v.class) 1 + t.errors;
      points = twice (is Credited v.class) worth i + t.points;
      squares = worth_if v.square 1 + t.squares;
      exchanges = worth_if v.exchange 1 + t.exchanges;
      countries = worth_if v.country 1 + t.countries;
      squarebonus = t.squarebonus;
      exchangebonus = t.exchangebonus;
      countrybonus = t.countrybonus;
      total = t.total;
      modes = counted (is Credited v.class) h i;
    }
  where
    twice : (b : Bool) (w : ℕ) → worth_if b (worth_if b w) ≡ worth_if b w
    twice true w = refl
    twice false w = refl

    counted : (b : Bool) → (b ≡ true → told ≡ mode) → cond b (add_mode t.modes told) t.modes ≡ cond b (add_mode t.modes mode) t.modes
    counted true f = ap (add_mode t.modes) (f refl)
    counted false f = refl

pub counts_more_lem : (R : Rules) (n : ℕ) (t : Totals) (worth mode : ℕ) (v : Verdict) → Counts R n t → worth ≤ most_worth R → Counts R (n + 1) (add_record t worth mode v)
unfolding add_record
counts_more_lem R n t worth mode v h small =
    let one : (b : Bool) → worth_if b 1 ≤ 1 = λ b. worth_most b 1 in
    record {
      credited = omega (arith, one (is Credited v.class), h.credited);
      voids = omega (arith, one (is Void v.class), h.voids);
      duplicates = omega (arith, one (is Duplicate v.class), h.duplicates);
      errors = omega (arith, one (is Error v.class), h.errors);
      points = omega (arith, worth_most (is Credited v.class) worth, h.points, add-mul n 1 (most_worth R));
      squares = omega (arith, one v.square, h.squares);
      exchanges = omega (arith, one v.exchange, h.exchanges);
      countries = omega (arith, one v.country, h.countries);
    }

-- The counts of fewer records are those of more.
pub counts_fewer : (R : Rules) (n m : ℕ) (t : Totals) → n ≤ m → Counts R n t → Counts R m t
counts_fewer R n m t k h =
    record {
      credited = omega (arith, h.credited);
      voids = omega (arith, h.voids);
      duplicates = omega (arith, h.duplicates);
      errors = omega (arith, h.errors);
      points = omega (arith, h.points, mul-le-mul_right (most_worth R) k);
      squares = omega (arith, h.squares);
      exchanges = omega (arith, h.exchanges);
      countries = omega (arith, h.countries);
    }

-- # All the records

-- The sums of so many verdicts are added to those that are there.
module _ (t : Totals) (qs : List Qso) (vs : List Verdict) where
  abbrev all : Totals
  all = add_records t qs vs

  pub record Sums : Type 0 where
    pub credited : all.credited ≡ count_of (λ v. is Credited v.class) vs + t.credited
    pub voids : all.voids ≡ count_of (λ v. is Void v.class) vs + t.voids
    pub duplicates : all.duplicates ≡ count_of (λ v. is Duplicate v.class) vs + t.duplicates
    pub errors : all.errors ≡ count_of (λ v. is Error v.class) vs + t.errors
    pub points : all.points ≡ credited_points qs vs + t.points
    pub squares : all.squares ≡ count_of (λ v. v.square) vs + t.squares
    pub exchanges : all.exchanges ≡ count_of (λ v. v.exchange) vs + t.exchanges
    pub countries : all.countries ≡ count_of (λ v. v.country) vs + t.countries

pub sums : (t : Totals) (qs : List Qso) (vs : List Verdict) → length vs ≡ length qs → Sums t qs vs
unfolding add_records add_record count_of credited_sum
sums t [] [] e = omega arith
sums t [] (v ∷ vs) e = absurd (omega arith)
sums t (q ∷ qs) [] e = absurd (omega arith)
sums t (q ∷ qs) (v ∷ vs) e =
    let h = sums (add_record t (value q.points) (mode_of q) v) qs vs (omega arith) in
    record {
      credited = omega (arith, h.credited);
      voids = omega (arith, h.voids);
      duplicates = omega (arith, h.duplicates);
      errors = omega (arith, h.errors);
      points = omega (arith, h.points);
      squares = omega (arith, h.squares);
      exchanges = omega (arith, h.exchanges);
      countries = omega (arith, h.countries);
    }

-- Closed with what is declared, they are the totals of document 01.
pub closed_totals : (R : Rules) (d : Declared) (qs : List Qso) (vs : List Verdict) → length vs ≡ length qs → T (record_rules R qs) → closing (add_records zero_totals qs vs) d ≡ totals_of R (as_declared d) qs vs
unfolding closing totals_of as_declared multipliers zero_totals
closed_totals R d qs vs e rules =
    let h = sums zero_totals qs vs e in
    let credited = h.credited ∙ add-zero (count_of (λ v. is Credited v.class) vs) in
    let voids = h.voids ∙ add-zero (count_of (λ v. is Void v.class) vs) in
    let duplicates = h.duplicates ∙ add-zero (count_of (λ v. is Duplicate v.class) vs) in
    let errors = h.errors ∙ add-zero (count_of (λ v. is Error v.class) vs) in
    let points = h.points ∙ add-zero (credited_points qs vs) in
    let squares = h.squares ∙ add-zero (count_of (λ v. v.square) vs) in
    let exchanges = h.exchanges ∙ add-zero (count_of (λ v. v.exchange) vs) in
    let countries = h.countries ∙ add-zero (count_of (λ v. v.country) vs) in
    λ i.
    record {
      credited = credited i;
      voids = voids i;
      duplicates = duplicates i;
      errors = errors i;
      points = points i;
      squares = squares i;
      exchanges = exchanges i;
      countries = countries i;
      squarebonus = squares i * d.squarebonus;
      exchangebonus = exchanges i * d.exchangebonus;
      countrybonus = countries i * d.countrybonus;
      total =
          (points i + squares i * d.squarebonus + exchanges i * d.exchangebonus + countries i * d.countrybonus)
          * (d.squaremultiplier * d.exchangemultiplier * d.countrymultiplier);
      modes = modes_counted R qs vs e rules i;
    }
