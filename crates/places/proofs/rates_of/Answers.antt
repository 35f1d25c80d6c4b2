-- The second and the third part of an argument are found behind its semicolons.
use native.Mathlib.Omega.{arith}
use Prim.Native.Nat.{◌+◌}
use mathlib.Core.Path.{sym, ap, ◌∙◌}
use Rattle.rules.specs.Arguments.{bonus, multiplier}
use Rattle.rules.specs.Rules.{base}
use Rattle.fields.specs.Field.{in_field}
use Rattle.figures.specs.Figure.{value_told}
use Rattle.reader.proofs.PlaceLaws.{run_within, value_is}
use Rattle.reader.specs.Contact.{value_by}
use Rattle.places.proofs.LineStarts.{second_part, third_part}
use Rattle.places.proofs.rates_of.Goals as goal

pub overflow_add-second : goal.overflow_add-second
overflow_add-second c = omega (arith, run_within c.args.line.now in_field 6)

pub overflow_add-third : goal.overflow_add-third
overflow_add-third c =
    let line = c.args.line.now in
    omega (arith, run_within line in_field 6, run_within line in_field (c.field_end-second.result + 1))

pub returns : goal.returns
returns c =
    let line = c.args.line.now in
    let first = c.field_end-second.ensures in
    record {
      bonus =
          c.value_of.ensures
          ∙ ap value_told c.bonus_of.ensures
          ∙ value_is line (bonus base) _
          ∙ ap (value_by (bonus base)) (sym (second_part line 6 first));
      multiplier =
          c.value_of-2.ensures
          ∙ ap value_told c.multiplier_of.ensures
          ∙ value_is line (multiplier base) _
          ∙ ap (value_by (multiplier base)) (sym (third_part line 6 first c.field_end-third.ensures));
    }
