-- Some accepted log has a total that rises by a strike: a duplicate that claims points is promoted, and brings a square of its own.
-- Assumes nothing.
use Prim.Native.Nat.{zero, suc}
use mathlib.Core.Path.{◌≡◌, refl}
use mathlib.Core.Bool.{true, false}
use mathlib.Core.List.{[]}
use lib.Dec.{lit<}
use Rattle.rules.specs.Rules.{base}
use Rattle.rules.specs.Log.{Log}
use Rattle.rules.specs.Judging.{totals_of_log}
use Rattle.rules.specs.Reading.{Reading, accepted, refused, read}
use Rattle.rules.specs.Striking.{Places, strike}
use Rattle.rules.specs.Demands.{PremiseIsNeeded}
use Rattle.rules.specs.TableLogs.{promoted}

-- The log that is read; nothing where the text is refused.
log_of : Reading → Log
log_of (accepted log) = log
log_of (refused r) = record { keywords = []; arguments = []; remarks = []; records = [] }

the_log : Log
the_log = log_of (read base promoted)

-- The second record alone.
second : Places
second zero = false
second (suc zero) = true
second (suc (suc n)) = false

is_accepted : read base promoted ≡ accepted the_log
unfolding the_log log_of read base promoted
is_accepted = refl

before : (totals_of_log base the_log).total ≡ 700
unfolding the_log log_of read base promoted totals_of_log
before = refl

after : (totals_of_log base (strike second the_log)).total ≡ 1200
unfolding the_log log_of read base promoted totals_of_log strike second
after = refl

pub premise_is_needed_lem : PremiseIsNeeded
premise_is_needed_lem = (promoted, the_log, second, is_accepted, rw (before, after) (lit< tt))
