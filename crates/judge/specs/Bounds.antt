-- What keeps the sums small.
-- Assumes nothing.
use Rattle.std.specs.Prelude.{ℕ, ◌*◌, ◌-◌, ◌^◌, ◌≤◌, ◌<◌, ◌≡◌, true, false, List, length, get_or}
use Rattle.rules.specs.declared.Class.TheVariants.{Credited}
use Rattle.rules.specs.declared.Verdict.{Verdict}
use Rattle.rules.specs.declared.Totals.{Totals}
use Rattle.rules.specs.Rules.{Rules}
use Rattle.rules.specs.Judging.{is}
use Rattle.places.specs.declared.Declared.{Declared}
use Rattle.judge.specs.declared.Tally.{Tally}
use Rattle.judge.specs.Count.{tallied}

-- The most that a record is worth.
abbrev pub most_worth : Rules → ℕ
most_worth R = 10 ^ R.points_digits - 1

-- The totals of so many records at most.
pub record Counts (R : Rules) (n : ℕ) (t : Totals) : Type 0 where
  pub credited : t.credited ≤ n
  pub voids : t.voids ≤ n
  pub duplicates : t.duplicates ≤ n
  pub errors : t.errors ≤ n
  pub points : t.points ≤ n * most_worth R
  pub squares : t.squares ≤ n
  pub exchanges : t.exchanges ≤ n
  pub countries : t.countries ≤ n

-- One more record may be added to these sums: no number runs over, its mode is one of the eleven, and it bears no mark unless it is credited.
pub record Addable (t : Tally) (modes : List ℕ) (worth mode : ℕ) (v : Verdict) : Type 0 where
  pub credited : t.credited < 4_294_967_296
  pub voids : t.voids < 4_294_967_296
  pub duplicates : t.duplicates < 4_294_967_296
  pub errors : t.errors < 4_294_967_296
  pub squares : t.squares < 4_294_967_296
  pub exchanges : t.exchanges < 4_294_967_296
  pub countries : t.countries < 4_294_967_296
  pub points : t.points < 4_611_686_018_427_387_904
  pub long : length modes ≡ 11
  pub modes_small : (k : ℕ) → get_or modes k 0 < 4_294_967_296
  pub worth_small : worth < 4_294_967_296
  pub place : is Credited v.class ≡ true → mode < 11
  pub exchange : is Credited v.class ≡ false → v.exchange ≡ false
  pub square : is Credited v.class ≡ false → v.square ≡ false
  pub country : is Credited v.class ≡ false → v.country ≡ false

-- One more record may be added: there are fewer yet than there may be, by each mode too, it is worth no more than it may be, its mode is one of the
-- eleven, and it bears no mark unless it is credited.
pub record Countable (R : Rules) (t : Tally) (modes : List ℕ) (worth mode : ℕ) (v : Verdict) : Type 0 where
  pub n : ℕ
  pub few : Counts R n (tallied t modes)
  pub long : length modes ≡ 11
  pub few_modes : (k : ℕ) → get_or modes k 0 ≤ n
  pub room : n < R.most_records
  pub small : worth ≤ most_worth R
  pub place : is Credited v.class ≡ true → mode < 11
  pub exchange : is Credited v.class ≡ false → v.exchange ≡ false
  pub square : is Credited v.class ≡ false → v.square ≡ false
  pub country : is Credited v.class ≡ false → v.country ≡ false

-- The declared bonuses and multipliers keep their rules.
pub record Small (R : Rules) (d : Declared) : Type 0 where
  pub squarebonus : d.squarebonus ≤ R.most_bonus
  pub squaremultiplier : d.squaremultiplier ≤ R.most_multiplier
  pub exchangebonus : d.exchangebonus ≤ R.most_bonus
  pub exchangemultiplier : d.exchangemultiplier ≤ R.most_multiplier
  pub countrybonus : d.countrybonus ≤ R.most_bonus
  pub countrymultiplier : d.countrymultiplier ≤ R.most_multiplier

pub record Closable (R : Rules) (t : Tally) (modes : List ℕ) (d : Declared) : Type 0 where
  pub few : Counts R R.most_records (tallied t modes)
  pub small : Small R d
