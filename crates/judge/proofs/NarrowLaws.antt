-- Sums in few bytes: no number runs over where one record more is added.
-- Assumes nothing.
use Prim.Native.Nat.{ℕ, zero, suc, ◌%◌, ◌/◌, ◌<◌}
use native.Mathlib.Omega.{arith}
use mathlib.Core.Path.{refl}
use mathlib.Core.List.{List, [], ◌∷◌}
use lib.Dec.{eqb}
use lib.ListN.{get_or}
use Rattle.judge.specs.declared.Counts.{Counts}
use Rattle.judge.specs.Bounds.{Addable}
use Rattle.judge.specs.Count.{mode_place}
use Rattle.judge.specs.Said.{verdict_by}
use Rattle.judge.specs.Sums.{class_in, verdict_in}
use Rattle.judge.specs.Narrow.{SmallTally, SmallModes, tally_in, modes_of}
use Rattle.judge.proofs.ModeLaws.{place_most}
use Rattle.judge.proofs.SumLaws.{unmarked}

pub small_cons : {a : ℕ} {l : List ℕ} → a < 65_536 → SmallModes l → SmallModes (a ∷ l)
small_cons {a} {l} h more = record { each = by }
  where
    by : (k : ℕ) → get_or (a ∷ l) k 0 < 65_536
    by zero = h
    by (suc k) = more.each k

pub small_none : SmallModes []
small_none = record { each = λ k. omega arith }

module _ (points : ℕ) (c : Counts) (small : SmallTally (tally_in points c)) (modes : SmallModes (modes_of c)) where
  pub narrow_addable : (worth mode number : ℕ) → worth < 4_294_967_296 → Addable (tally_in points c) (modes_of c) worth (mode_place mode) (verdict_in number)
  unfolding verdict_in verdict_by
  narrow_addable worth mode number h =
      let class = class_in (number % 4) in
      record {
        credited = omega (arith, small.credited);
        voids = omega (arith, small.voids);
        duplicates = omega (arith, small.duplicates);
        errors = omega (arith, small.errors);
        squares = omega (arith, small.squares);
        exchanges = omega (arith, small.exchanges);
        countries = omega (arith, small.countries);
        points = omega (arith, small.points);
        long = unfold modes_of in refl;
        modes_small = λ k. omega (arith, modes.each k);
        worth_small = h;
        place = λ e. place_most mode;
        exchange = unmarked class (eqb (number / 16 % 2) 1);
        square = unmarked class (eqb (number / 32 % 2) 1);
        country = unmarked class (eqb (number / 64 % 2) 1);
      }
