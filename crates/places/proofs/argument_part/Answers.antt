-- The argument begins behind six characters of its line.
use Rattle.std.proofs.Common.{arith, ap, ◌∙◌}
use Rattle.places.specs.Places.{part_seen}
use Rattle.places.proofs.ViewLaws.{part_told, run_within}
use Rattle.places.proofs.argument_part.Goals as goal

pub slice_bounds-is_listed-end : goal.slice_bounds-is_listed-end
slice_bounds-is_listed-end c =
    omega (arith, c.allowed_run-end.ensures, c.line_start-at.ensures, run_within c.args.log.now c.line_start-at.result (omega (arith, c.line_start-at.ensures)))

pub returns : goal.returns
returns c =
    part_told _ _ _ c.allowed_run-end.ensures _ c.saturating_sub.ensures c.is_listed-listed.ensures ∙ ap (part_seen c.args.k c.args.log.now) c.line_start-at.ensures
