-- What stands behind the first dash is read as a number, and the whole word where there is none.
use mathlib.Core.Path.{ap, ◌∙◌}
use borrow.Author.Rules.{rules}
use Rattle.rules.specs.Rules.{base}
use Rattle.rules.specs.Text.{Text}
use Rattle.words.specs.Words.{number_named}
use Rattle.words.proofs.NumberLaws.{last_same, last_behind}
use Rattle.words.proofs.last_number.Statement.{statement}
use Rattle.words.proofs.last_number.Tie as tie

run_requires : tie.Need-run-end-requires
run_requires c κs = search rules

record_number_requires : tie.Need-record_number-requires
record_number_requires c κs = tt

returns : tie.Need-returns-then-word-end
returns c =
    c.record_number.ensures
    ∙ ap (λ (t : Text). number_named base c.args.room t)
    (last_same _ c.run-end.ensures c.if-word-end.true)

add_record_number : tie.Need-overflow_add-end
add_record_number c = search rules

sub_record_number : tie.Need-slice_bounds-record_number-count
sub_record_number c = search rules

part_record_number_start : tie.Need-slice_bounds-record_number-start
part_record_number_start c = search rules

part_record_number_end : tie.Need-slice_bounds-record_number-end
part_record_number_end c = search rules

record_number_requires_2 : tie.Need-record_number-requires-2
record_number_requires_2 c κs = tt

returns_2 : tie.Need-returns
returns_2 c =
    c.record_number-2.ensures
    ∙ ap (λ (t : Text). number_named base c.args.room t)
    (last_behind _ c.run-end.ensures c.if-word-end.false)

pub last_number_spec : {M : Type 1} → statement M
last_number_spec =
    tie.close
    (tie.spec
    run_requires
    record_number_requires
    returns
    add_record_number
    sub_record_number
    part_record_number_start
    part_record_number_end
    record_number_requires_2
    returns_2)
