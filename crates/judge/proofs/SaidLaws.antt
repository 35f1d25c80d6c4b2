-- What is said of a record by the right answers is what document 01 says of it.
-- Assumes nothing.
use mathlib.Core.Path.{◌≡◌, refl}
use mathlib.Core.Bool.{◌&&◌}
use mathlib.Core.List.{List}
use Rattle.rules.specs.Rules.{Rules}
use Rattle.rules.specs.Fields.{Qso, is_error}
use Rattle.rules.specs.Judging.{claims_points, worked, may_repeat, class_of, square, is_new, claims_country, verdict_of}
use Rattle.judge.specs.Said.{class_by, verdict_by}

-- # The right answers

module _ (R : Rules) (credited : List Qso) (q : Qso) where
  pub class_said : class_by (is_error q) (may_repeat q && worked R credited q) (claims_points q) ≡ class_of R credited q
  unfolding class_by class_of
  class_said = refl

  pub verdict_said : verdict_by (class_of R credited q) (is_new (λ e. e.exchange) credited q) (is_new square credited q) (claims_country q) ≡ verdict_of R credited q
  unfolding verdict_by verdict_of
  verdict_said = refl
