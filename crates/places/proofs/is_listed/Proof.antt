-- The line is compared with the keyword of the table.
use borrow.Author.Rules.{rules}
use mathlib.Core.Path.{ap, ◌∙◌}
use Rattle.rules.specs.Text.{Text, begins}
use Rattle.places.proofs.is_listed.Statement.{statement}
use Rattle.places.proofs.is_listed.Tie as tie

listed_requires : tie.Need-listed-word-requires
listed_requires c κs = search rules

slice_aggregate_begins_with : tie.Need-slice_bounds-begins_with-end
slice_aggregate_begins_with c = search rules

begins_with_requires : tie.Need-begins_with-requires
begins_with_requires c κs = search rules

returns : tie.Need-returns
returns c =
    c.begins_with.ensures ∙ ap (λ (word : Text). begins word c.args.line.now) c.listed-word.ensures

pub is_listed_spec : {M : Type 1} → statement M
is_listed_spec =
    tie.close (tie.spec listed_requires slice_aggregate_begins_with begins_with_requires returns)
