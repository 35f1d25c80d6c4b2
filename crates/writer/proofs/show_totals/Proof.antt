-- `writer::show_totals` meets its contract: six lines and those of the modes, each behind what was written before it.
-- Assumes nothing.
use native.Mathlib.Omega.{arith}
use mathlib.Core.Path.{ap, ◌∙◌}
use borrow.Author.Rules.{rules}
use Rattle.rules.specs.Desk.{shown_line, shown_totals}
use Rattle.writer.specs.Shown.{mode_lines}
use Rattle.writer.proofs.ShownLaws.{modes_shown}
use Rattle.writer.proofs.WrittenLaws.{puts_as, puts_then}
use Rattle.writer.proofs.show_totals.Statement.{statement}
use Rattle.writer.proofs.show_totals.Tie as tie

-- The places of the code, each by the one before it.
abbrev first : tie.After-put_word-third → tie.After-put_word-second
first c = c.before.before.before.before

abbrev second : tie.After-put_word-fourth → tie.After-put_word-third
second c = c.before.before.before.before

abbrev third : tie.After-put_word-fifth → tie.After-put_word-fourth
third c = c.before.before.before.before

abbrev fourth : tie.After-put_word-sixth → tie.After-put_word-fifth
fourth c = c.before.before.before.before

abbrev fifth : tie.After-put_word-seventh → tie.After-put_word-sixth
fifth c = c.before.before.before.before

abbrev sixth : tie.After-put_modes-arg-2-1 → tie.After-put_word-seventh
sixth c = c.before.before.before.before

put_word_requires : tie.Need-put_word-second-requires
put_word_requires c κs = search rules

put_word_requires_2 : tie.Need-put_word-third-requires
put_word_requires_2 c κs = search rules

put_word_requires_3 : tie.Need-put_word-fourth-requires
put_word_requires_3 c κs = search rules

put_word_requires_4 : tie.Need-put_word-fifth-requires
put_word_requires_4 c κs = search rules

put_word_requires_5 : tie.Need-put_word-sixth-requires
put_word_requires_5 c κs = search rules

put_word_requires_6 : tie.Need-put_word-seventh-requires
put_word_requires_6 c κs = search rules

mode_numbers_requires : tie.Need-mode_numbers-requires
mode_numbers_requires c κs = search rules

put_modes_requires : tie.Need-put_modes-requires
put_modes_requires c κs =
    let p6 = sixth c in
    let p5 = fifth p6 in
    let p4 = fourth p5 in
    let p3 = third p4 in
    let p2 = second p3 in
    omega (
      arith,
      p6.put_word-seventh.ensures.1,
      p5.put_word-sixth.ensures.1,
      p4.put_word-fifth.ensures.1,
      p3.put_word-fourth.ensures.1,
      p2.put_word-third.ensures.1,
      (first p2).put_word-second.ensures.1,
      c.put_modes-arg-1.given,
    )

returns : tie.Need-returns
unfolding shown_line shown_totals
returns c =
    let p6 = sixth c.before in
    let p5 = fifth p6 in
    let p4 = fourth p5 in
    let p3 = third p4 in
    let p2 = second p3 in
    let two = puts_then (first p2).put_word-second.ensures.0 p2.put_word-third.ensures.0 in
    let four = puts_then (puts_then two p3.put_word-fourth.ensures.0) p4.put_word-fifth.ensures.0 in
    let six = puts_then (puts_then four p5.put_word-sixth.ensures.0) p6.put_word-seventh.ensures.0 in
    puts_then six (puts_as c.put_modes.ensures (ap mode_lines c.mode_numbers.ensures ∙ modes_shown _))

pub show_totals_spec : {M : Type 1} → statement M
show_totals_spec =
    tie.close
    (tie.spec
    put_word_requires
    put_word_requires_2
    put_word_requires_3
    put_word_requires_4
    put_word_requires_5
    put_word_requires_6
    mode_numbers_requires
    put_modes_requires
    returns)
