-- What a credited record adds: one to the credited ones and to those of its mode, its points, and one for each of its marks.
use native.Mathlib.Omega.{arith}
use mathlib.Core.Path.{◌∙◌}
use borrow.Author.Rules.{rules}
use Rattle.judge.specs.Count.{tallied}
use Rattle.judge.proofs.CountLaws.{mode_placed, worth_most, bit_worth, credited_sums, credited_list}
use Rattle.judge.proofs.ModeLaws.{one_counted}
use Rattle.judge.proofs.credited_more.Statement.{statement}
use Rattle.judge.proofs.credited_more.Tie as tie

-- Where the code begins, from where the mode is known and from where the squares are raised.
abbrev placed : tie.After-struct_known-1 → tie.Start
placed c = c.before.before.before

abbrev squared : tie.After-struct_known-3-1 → tie.Start
squared c = placed c.before.before.before

mul_modes : tie.Need-offset_bounds-modes-mode
mul_modes c = omega (arith, mode_placed c.requires.0 c.requires.1)

element_copy_out_modes : tie.Need-bounds-modes-mode
element_copy_out_modes c = mode_placed c.requires.0 c.requires.1

add_modes : tie.Need-overflow_add-modes
add_modes c = let start = c in omega (arith, start.requires.0.modes_small start.args.mode)

mul_modes_2 : tie.Need-offset_bounds-modes-mode-2
mul_modes_2 c = omega (arith, mode_placed c.requires.0 c.requires.1)

element_write_modes : tie.Need-bounds-modes-mode-2
element_write_modes c = mode_placed c.requires.0 c.requires.1

add_sums : tie.Need-overflow_add-sums
add_sums c = omega (arith, (placed c).requires.0.credited)

add_sums_2 : tie.Need-overflow_add-sums-2
add_sums_2 c = let start = placed c.before in omega (arith, start.requires.0.points, start.requires.0.worth_small)

from_requires : tie.Need-from-requires
from_requires c κs = search rules

add_sums_3 : tie.Need-overflow_add-sums-3
add_sums_3 c = let start = squared c in omega (arith, start.requires.0.squares, (c.from.ensures ∙ bit_worth _), worth_most start.args.v.square 1)

from_requires_2 : tie.Need-from-requires-2
from_requires_2 c κs = search rules

add_sums_4 : tie.Need-overflow_add-sums-4
add_sums_4 c = let start = squared c.before.before in omega (arith, start.requires.0.exchanges, (c.from-2.ensures ∙ bit_worth _), worth_most start.args.v.exchange 1)

from_requires_3 : tie.Need-from-requires-3
from_requires_3 c κs = search rules

add_sums_5 : tie.Need-overflow_add-sums-5
add_sums_5 c = let start = squared c.before.before.before.before in omega (arith, start.requires.0.countries, (c.from-3.ensures ∙ bit_worth _), worth_most start.args.v.country 1)

returns : tie.Need-returns
returns c =
    let start = squared c.before.before.before.before in
    let modes = start.args.modes.now in
    let mode = start.args.mode in (
      credited_sums (tallied start.args.t modes) start.args.worth mode start.args.v start.requires.1 (c.from.ensures ∙ bit_worth _) (c.from-2.ensures ∙ bit_worth _) (c.from-3.ensures ∙ bit_worth _)
          (one_counted modes mode (omega (arith, start.requires.0.long, mode_placed start.requires.0 start.requires.1))),
      credited_list modes mode start.args.v start.requires.1,
    )

pub credited_more_spec : {M : Type 1} → statement M
credited_more_spec =
    tie.close
    (tie.spec
    mul_modes
    element_copy_out_modes
    add_modes
    mul_modes_2
    element_write_modes
    add_sums
    add_sums_2
    from_requires
    add_sums_3
    from_requires_2
    add_sums_4
    from_requires_3
    add_sums_5
    returns)
