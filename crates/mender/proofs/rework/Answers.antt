-- The lines are counted, read and measured, and what is handed over is written in the end.
-- Assumes nothing.
use Rattle.std.proofs.Common.{◌≤◌, inl, inr, arith, refl, sym, length}
use Rattle.rules.specs.Mending.{mended_text}
use Rattle.rules.specs.Rules.{base}
use Rattle.mender.specs.Answer.{rooms_of}
use Rattle.mender.proofs.AnswerLaws.{sound_is, mend_over, mend_refused, mend_few_kinds, mend_few_lines, mend_few_bytes, mend_hands, mends_refused, mends_handed}
use Rattle.mender.proofs.rework.Goals as goal

pub returns-then-longest_log-measure : goal.returns-then-longest_log-measure
returns-then-longest_log-measure c =
    mends_refused (mend_over base _ _ c.requires (omega (arith, c.longest_log.ensures, c.measure.ensures, c.if-longest_log-measure.true))) c.refuse.ensures

pub returns-else-longest_log-measure : goal.returns-else-longest_log-measure
returns-else-longest_log-measure c =
    let fits : length (mended_text c.args.log.now) ≤ base.longest_log = omega (arith, c.longest_log.ensures, c.measure.ensures, c.if-longest_log-measure.false) in
    mends_refused (mend_refused base _ _ c.requires fits (sym c.in-Err.ensures)) refl

pub returns-then-longest_log-mended : goal.returns-then-longest_log-mended
returns-then-longest_log-mended c =
    let s = sound_is base _ (sym c.in-Ok.ensures) in
    mends_refused (mend_over base _ _ c.requires (omega (arith, s.long, c.longest_log-in-Ok.ensures, c.if-longest_log-mended.true))) c.refuse-then-longest_log-mended.ensures

pub returns-then-kinds-mended : goal.returns-then-kinds-mended
returns-then-kinds-mended c =
    let s = sound_is base _ (sym c.in-Ok.ensures) in
    let fits : length (mended_text c.args.log.now) ≤ base.longest_log = omega (arith, s.long, c.longest_log-in-Ok.ensures, c.if-longest_log-mended.false) in
    let r = rooms_of c.args.out.now c.args.kinds.now c.args.lines.now in
    mends_refused
    (elim c.then-kinds-mended.either [
      | inl few ↦ mend_few_kinds base c.args.log.now r c.requires fits s few
      | inr few ↦ mend_few_lines base c.args.log.now r c.requires fits s few.0 few.1
    ])
    c.refuse-then-kinds-mended.ensures

pub returns-then-out-mended : goal.returns-then-out-mended
returns-then-out-mended c =
    let s = sound_is base _ (sym c.in-Ok.ensures) in
    let fits : length (mended_text c.args.log.now) ≤ base.longest_log = omega (arith, s.long, c.longest_log-in-Ok.ensures, c.if-longest_log-mended.false) in
    mends_refused (mend_few_bytes base _ _ c.requires fits s c.if-kinds-mended.false c.if-lines-mended.false c.if-out-mended.true) c.refuse-then-out-mended.ensures

pub put_lines-requires-clause-s_in_bounds : goal.put_lines-requires-clause-s_in_bounds
put_lines-requires-clause-s_in_bounds c =
    let s = sound_is base _ (sym c.in-Ok.ensures) in
    (omega (arith, s.long, c.if-out-mended.false), omega (arith, s.many, c.if-kinds-mended.false), omega (arith, s.many, c.if-lines-mended.false))

pub returns-else-out-mended : goal.returns-else-out-mended
returns-else-out-mended c =
    let s = sound_is base _ (sym c.in-Ok.ensures) in
    let fits : length (mended_text c.args.log.now) ≤ base.longest_log = omega (arith, s.long, c.longest_log-in-Ok.ensures, c.if-longest_log-mended.false) in
    let hands = mend_hands base _ _ c.requires fits s c.if-kinds-mended.false c.if-lines-mended.false c.if-out-mended.false in
    let put = c.put_lines.ensures in
    mends_handed hands s.long s.many put.text put.kinds put.lines
