-- Sums that a caller keeps in few bytes: two for each count, four for the points.
-- Assumes nothing.
use Rattle.std.specs.Prelude.{ℕ, ◌%◌, ◌<◌, List, [], ◌∷◌, get_or}
use Rattle.rules.specs.declared.Totals.{Totals}
use Rattle.judge.specs.declared.Counted.{Counted}
use Rattle.judge.specs.declared.Counts.{Counts}
use Rattle.judge.specs.declared.Sums.{Sums}
use Rattle.judge.specs.declared.Tally.{Tally}
use Rattle.judge.specs.Count.{tallied, modes_in, mode_place, add_record}
use Rattle.judge.specs.Sums.{verdict_in}

unfoldable pub no_counts : Counts
no_counts =
    record {
      credited = 0;
      voids = 0;
      duplicates = 0;
      errors = 0;
      squares = 0;
      exchanges = 0;
      countries = 0;
      code0 = 0;
      code1 = 0;
      code2 = 0;
      code3 = 0;
      code4 = 0;
      code5 = 0;
      code6 = 0;
      code7 = 0;
      code8 = 0;
      code9 = 0;
      blank = 0;
    }

-- The last two bytes of a number, and the last four: all of one that fits.
abbrev pub low : ℕ → ℕ
low n = n % 65_536

abbrev pub low_four : ℕ → ℕ
low_four n = n % 4_294_967_296

-- What the records come to, as the judge has it: their counts, and their modes in a list.
unfoldable pub tally_in : ℕ → Counts → Tally
tally_in points c =
    record {
      credited = c.credited;
      voids = c.voids;
      duplicates = c.duplicates;
      errors = c.errors;
      points = points;
      squares = c.squares;
      exchanges = c.exchanges;
      countries = c.countries;
    }

unfoldable pub modes_of : Counts → List ℕ
modes_of c =
    c.code0
    ∷ c.code1
    ∷ c.code2
    ∷ c.code3
    ∷ c.code4
    ∷ c.code5
    ∷ c.code6
    ∷ c.code7
    ∷ c.code8
    ∷ c.code9
    ∷ c.blank
    ∷ []

unfoldable pub sums_in : ℕ → Counts → Sums
unfolding tally_in modes_in modes_of
sums_in points c = record { tally = tally_in points c; modes = modes_in (modes_of c) }

unfoldable pub totals_in : ℕ → Counts → Totals
unfolding tally_in modes_of
totals_in points c = tallied (tally_in points c) (modes_of c)

unfoldable pub counts_of : Totals → Counts
counts_of t =
    record {
      credited = low t.credited;
      voids = low t.voids;
      duplicates = low t.duplicates;
      errors = low t.errors;
      squares = low t.squares;
      exchanges = low t.exchanges;
      countries = low t.countries;
      code0 = low t.modes.code0;
      code1 = low t.modes.code1;
      code2 = low t.modes.code2;
      code3 = low t.modes.code3;
      code4 = low t.modes.code4;
      code5 = low t.modes.code5;
      code6 = low t.modes.code6;
      code7 = low t.modes.code7;
      code8 = low t.modes.code8;
      code9 = low t.modes.code9;
      blank = low t.modes.blank;
    }

-- One record more, by what it is worth, the first character of its mode and the number of its verdict.
unfoldable pub counted_more : ℕ → Counts → ℕ → ℕ → ℕ → Counted
unfolding totals_in add_record verdict_in counts_of
counted_more points c worth mode number =
    let t = add_record (totals_in points c) worth (mode_place mode) (verdict_in number) in
    record { points = low_four t.points; counts = counts_of t }

-- What two bytes hold, and four.
pub record SmallTally (t : Tally) : Type 0 where
  pub credited : t.credited < 65_536
  pub voids : t.voids < 65_536
  pub duplicates : t.duplicates < 65_536
  pub errors : t.errors < 65_536
  pub points : t.points < 4_294_967_296
  pub squares : t.squares < 65_536
  pub exchanges : t.exchanges < 65_536
  pub countries : t.countries < 65_536

pub record SmallModes (l : List ℕ) : Type 0 where
  pub each : (k : ℕ) → get_or l k 0 < 65_536
