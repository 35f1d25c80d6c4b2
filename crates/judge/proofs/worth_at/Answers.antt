-- The points are read as the reader reads them.
use mathlib.Core.Path.{ap, ◌∙◌}
use Rattle.figures.specs.Figure.{value_told}
use Rattle.reader.proofs.PlaceLaws.{value_is}
use Rattle.judge.proofs.worth_at.Goals as goal

pub returns : goal.returns
returns c = c.value_of.ensures ∙ ap value_told c.points.ensures ∙ value_is c.args.s.now _ c.args.at
