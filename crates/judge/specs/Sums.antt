-- Sums that a caller keeps between calls: whether they can be those of some records, and one record more.
-- Assumes nothing.
use Rattle.std.specs.Prelude.{ℕ, ◌+◌, ◌*◌, ◌%◌, ◌/◌, Bool, cond, ◌&&◌, ◌||◌, List, [], ◌∷◌, eqb, leb, ltb}
use Rattle.rules.specs.declared.Class.{Class}
use Rattle.rules.specs.declared.Class.TheVariants.{Credited, Void, Duplicate, Error}
use Rattle.rules.specs.declared.Verdict.{Verdict}
use Rattle.rules.specs.declared.Totals.{Totals}
use Rattle.rules.specs.Rules.{Rules}
use Rattle.rules.specs.Log.{conjunction}
use Rattle.rules.specs.Judging.{mode_numbers, modes_together, zero_modes, zero_totals}
use Rattle.rules.specs.Session.{declared_rule}
use Rattle.places.specs.declared.Declared.{Declared}
use Rattle.judge.specs.declared.Sums.{Sums}
use Rattle.judge.specs.declared.Tally.{Tally}
use Rattle.judge.specs.Bounds.{most_worth}
use Rattle.judge.specs.Count.{mode_place, no_tally, tallied, add_record, closing, as_declared}
use Rattle.judge.specs.Said.{verdict_by}

-- How many records these are.
abbrev pub records_counted : Tally → ℕ
records_counted t = t.credited + t.voids + t.duplicates + t.errors

-- The sums of no record.
unfoldable pub no_sums : Sums
unfolding no_tally zero_modes
no_sums = record { tally = no_tally; modes = zero_modes }

-- The totals that such sums are of, before anything is made of what is declared.
abbrev pub summed : Sums → Totals
summed s = tallied s.tally (mode_numbers s.modes)

-- Some records come to these sums: there are no more than there may be; each credited one is worth 1 to 999,999 points, brings at most one square,
-- one exchange and one country, and has one mode; and a duplicate repeats a credited one.
abbrev pub sound_tests : Rules → Sums → List Bool
sound_tests R s =
    let t = s.tally in
    leb (records_counted t) R.most_records
    ∷ leb t.credited t.points
    ∷ leb t.points (t.credited * most_worth R)
    ∷ leb t.squares t.credited
    ∷ leb t.exchanges t.credited
    ∷ leb t.countries t.credited
    ∷ eqb (modes_together s.modes) t.credited
    ∷ (eqb t.duplicates 0 || leb 1 t.credited)
    ∷ []

unfoldable pub sound_sums : Rules → Sums → Bool
unfolding conjunction modes_together
sound_sums R s = conjunction (sound_tests R s)

-- The verdict of which a number tells: the class by its last two bits, and the marks, which are of credited records alone.
unfoldable pub class_in : ℕ → Class
class_in n = cond (eqb n 0) Credited (cond (eqb n 1) Void (cond (eqb n 2) Duplicate Error))

unfoldable pub verdict_in : ℕ → Verdict
unfolding class_in verdict_by
verdict_in n =
    verdict_by (class_in (n % 4)) (eqb (n / 16 % 2) 1) (eqb (n / 32 % 2) 1) (eqb (n / 64 % 2) 1)

-- One record more can be counted, worth so much.
abbrev pub more_tests : Rules → Sums → ℕ → List Bool
more_tests R s worth =
    sound_sums R s ∷ ltb (records_counted s.tally) R.most_records ∷ leb worth (most_worth R) ∷ []

unfoldable pub counts_more : Rules → Sums → ℕ → Bool
unfolding conjunction sound_sums
counts_more R s worth = conjunction (more_tests R s worth)

-- The sums of totals, as a caller keeps them.
unfoldable pub sums_of : Totals → Sums
sums_of t =
    record {
      tally = record {
        credited = t.credited;
        voids = t.voids;
        duplicates = t.duplicates;
        errors = t.errors;
        points = t.points;
        squares = t.squares;
        exchanges = t.exchanges;
        countries = t.countries;
      };
      modes = t.modes;
    }

-- The sums after one record more, by what it is worth, the first character of its mode and the number of its verdict; where it cannot be counted,
-- what they were.
unfoldable pub more_sums : Rules → Sums → ℕ → ℕ → ℕ → Sums
unfolding counts_more sums_of mode_numbers add_record verdict_in
more_sums R s worth mode number =
    cond (counts_more R s worth) (sums_of (add_record (summed s) worth (mode_place mode) (verdict_in number))) s

-- The totals of such sums, with what was declared; zero where there can be no such records, or nothing like it be declared.
unfoldable pub totals_kept : Rules → Sums → Declared → Totals
unfolding sound_sums declared_rule as_declared mode_numbers closing zero_totals
totals_kept R s d =
    cond (sound_sums R s && declared_rule R (as_declared d)) (closing (summed s) d) zero_totals
