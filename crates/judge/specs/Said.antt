-- What is said of a record, by a few answers; how these are found is another matter.
-- Assumes nothing.
use Rattle.std.specs.Prelude.{Bool, cond, ◌&&◌}
use Rattle.rules.specs.declared.Class.{Class}
use Rattle.rules.specs.declared.Class.TheVariants.{Credited, Void, Duplicate, Error}
use Rattle.rules.specs.declared.Verdict.{Verdict}
use Rattle.rules.specs.Judging.{is}

-- "Error: the call is ERROR. Duplicate: otherwise", if it repeats a credited record. "Void: otherwise, if points are 0. Credited: otherwise."
unfoldable pub class_by : Bool → Bool → Bool → Class
class_by error repeats claims = cond error Error (cond repeats Duplicate (cond claims Credited Void))

-- Marks are of credited records alone.
unfoldable pub verdict_by : Class → Bool → Bool → Bool → Verdict
unfolding is
verdict_by class exchange square country =
    let counts = is Credited class in
    record {
      class = class;
      exchange = counts && exchange;
      square = counts && square;
      country = counts && country;
    }
