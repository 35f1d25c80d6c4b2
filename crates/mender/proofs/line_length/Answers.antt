-- The count line that is made, or a part of the log, and CR LF.
-- Assumes nothing.
use Rattle.std.proofs.Common.{arith, sym, ◌∙◌}
use Rattle.mender.proofs.NextLaws.{length_count, length_part}
use Rattle.mender.proofs.line_length.Goals as goal

pub returns-then-sets_count : goal.returns-then-sets_count
returns-then-sets_count c =
    let set = sym c.sets_count.ensures ∙ c.if-sets_count.true in
    (length_count c.args.s.now c.args.at c.args.follow c.args.l set c.count_length.ensures.0, omega (arith, c.count_length.ensures.1))

pub returns : goal.returns
returns c =
    let part = sym c.sets_count.ensures ∙ c.if-sets_count.false in
    (length_part c.args.s.now c.args.at c.args.follow c.args.l c.requires part, omega arith)
