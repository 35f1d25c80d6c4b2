-- The rates on the line at a place are those of its text.
use borrow.Author.Rules.{rules}
use native.Mathlib.Omega.{arith}
use Prim.Native.Nat.{◌≤◌}
use mathlib.Core.Path.{ap, ◌∙◌}
use lib.ListN.{length, drop}
use Rattle.rules.specs.Arguments.{part, bonus, multiplier}
use Rattle.rules.specs.Rules.{base}
use Rattle.rules.specs.Text.{Text, allowed}
use Rattle.reader.proofs.PlaceLaws.{run_within}
use Rattle.reader.specs.Contact.{value_by}
use Rattle.places.proofs.LineStarts.{line_by_end}
use Rattle.places.proofs.rates_at.Statement.{statement}
use Rattle.places.proofs.rates_at.Tie as tie

allowed_run_requires : tie.Need-allowed_run-end-requires
allowed_run_requires c κs = search rules

sub_rates_of : tie.Need-slice_bounds-rates_of-count
sub_rates_of c = search rules

part_rates_of_start : tie.Need-slice_bounds-rates_of-start
part_rates_of_start c = search rules

part_rates_of_end : tie.Need-slice_bounds-rates_of-end
part_rates_of_end c =
    let s = c.args.s.now in
    let h : c.allowed_run-end.result ≤ length s = omega (arith, run_within s allowed c.args.at) in
    h

rates_of_requires : tie.Need-rates_of-requires
rates_of_requires c κs = search rules

returns : tie.Need-returns
returns c =
    let line = line_by_end _ _ c.allowed_run-end.ensures in (
      c.rates_of.ensures.0 ∙ ap (λ (t : Text). value_by (bonus base) (part 1 (drop 6 t))) line,
      c.rates_of.ensures.1 ∙ ap (λ (t : Text). value_by (multiplier base) (part 2 (drop 6 t))) line,
    )

pub rates_at_spec : {M : Type 1} → statement M
rates_at_spec =
    tie.close
    (tie.spec
    allowed_run_requires
    sub_rates_of
    part_rates_of_start
    part_rates_of_end
    rates_of_requires
    returns)
