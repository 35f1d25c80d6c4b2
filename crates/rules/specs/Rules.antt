-- The limits, the names and the home part of a call that a set of rules fixes, and the one set that document 01 fixes.
-- Assumes nothing.
use Rattle.std.specs.Prelude.{ℕ, List, [], ◌∷◌}
use Rattle.rules.specs.Text.{Text, bytes}

pub record Rules : Type 0 where
  -- the most bytes of a log, and the most characters of a line
  pub longest_log : ℕ
  pub longest_line : ℕ
  -- the largest N, count, bonus and multiplier
  pub most_records : ℕ
  pub most_count : ℕ
  pub most_bonus : ℕ
  pub most_multiplier : ℕ
  -- the most characters of an exchange
  pub longest_exchange : ℕ
  -- the most digits: of a record's points, of a distance, and of the claims CQSOP; CWWLB, CExcB, CDXCB; CToSc
  pub points_digits : ℕ
  pub distance_digits : ℕ
  pub claimed_points_digits : ℕ
  pub claimed_bonus_digits : ℕ
  pub claimed_total_digits : ℕ
  -- the names of the bands
  pub bands : List Text
  -- the home part of a call: two calls are the same if their home parts are
  pub home : Text → Text

-- "one of the fifteen names in the table of 001"
unfoldable pub band_names : List Text
band_names =
    bytes "50 MHz"
    ∷ bytes "70 MHz"
    ∷ bytes "144 MHz"
    ∷ bytes "432 MHz"
    ∷ bytes "1,3 GHz"
    ∷ bytes "2,3 GHz"
    ∷ bytes "3,4 GHz"
    ∷ bytes "5,7 GHz"
    ∷ bytes "10 GHz"
    ∷ bytes "24 GHz"
    ∷ bytes "47 GHz"
    ∷ bytes "76 GHz"
    ∷ bytes "120 GHz"
    ∷ bytes "144 GHz"
    ∷ bytes "248 GHz"
    ∷ []

unfoldable pub base : Rules
unfolding band_names
base =
    record {
      longest_log = 65535;
      longest_line = 75;
      most_records = 999;
      most_count = 9999;
      most_bonus = 9999;
      most_multiplier = 99;
      longest_exchange = 6;
      points_digits = 6;
      distance_digits = 6;
      claimed_points_digits = 9;
      claimed_bonus_digits = 7;
      claimed_total_digits = 15;
      bands = band_names;
      home = λ call. call;
    }
