-- What stands in front of the first dash is read as a number.
use mathlib.Core.Path.{sym, ap, ◌∙◌}
use lib.Seq.{length-take-le}
use borrow.Author.Rules.{rules}
use Rattle.rules.specs.Rules.{base}
use Rattle.rules.specs.Text.{Text}
use Rattle.words.specs.Words.{number_named}
use Rattle.words.proofs.NumberLaws.{dash_within, first_text}
use Rattle.words.proofs.first_number.Statement.{statement}
use Rattle.words.proofs.first_number.Tie as tie

run_requires : tie.Need-run-end-requires
run_requires c κs = search rules

slice_aggregate_record_number : tie.Need-slice_bounds-record_number-end
slice_aggregate_record_number c =
    sym (length-take-le c.run-end.result _ (dash_within _ c.run-end.ensures))

record_number_requires : tie.Need-record_number-requires
record_number_requires c κs = tt

returns : tie.Need-returns
returns c =
    c.record_number.ensures
    ∙ ap (λ (t : Text). number_named base c.args.room t) (first_text _ c.run-end.ensures)

pub first_number_spec : {M : Type 1} → statement M
first_number_spec =
    tie.close
    (tie.spec run_requires slice_aggregate_record_number record_number_requires returns)
