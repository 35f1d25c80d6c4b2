-- What follows from a mended line: from the count line that is made, from no line, or from a part of the log.
-- Assumes nothing.
use Rattle.std.proofs.Common.{sym, ap, ◌∙◌}
use Rattle.std.specs.Prelude.{Err}
use Rattle.mender.proofs.NextLaws.{next_count, next_unclean, next_long, next_line}
use Rattle.mender.proofs.laid_next.Goals as goal
use Rattle.mender.proofs.laid_next.Goals.{then-not-l-via-then-not-l, then-not-l-via-else-not-l+then-longest_line-l}

pub returns-then-sets_count : goal.returns-then-sets_count
returns-then-sets_count c =
    let set = sym c.sets_count.ensures ∙ c.if-sets_count.true in
    next_count c.args.due c.args.s.now c.args.at c.args.follow c.args.l set c.count_next.ensures

pub returns-then-not-l : goal.returns-then-not-l
returns-then-not-l c =
    let a = c.args in
    let part = sym c.sets_count.ensures ∙ c.if-sets_count.false in
    let none = ap Err c.no_line_due.ensures in
    elim c.then-not-l.branch [
      | then-not-l-via-then-not-l w ↦ next_unclean a.due a.s.now a.at a.follow a.l part c.requires.1 w.if-not-l.true none
      | then-not-l-via-else-not-l+then-longest_line-l w ↦
          next_long a.due a.s.now a.at a.follow a.l part c.requires.1 c.requires.0 w.longest_line.ensures w.if-longest_line-l.true none
    ]

pub returns : goal.returns
returns c =
    let a = c.args in
    let part = sym c.sets_count.ensures ∙ c.if-sets_count.false in
    next_line a.due a.s.now a.at a.follow a.l part c.requires.1 c.requires.0 c.if-not-l.false c.longest_line.ensures c.if-longest_line-l.false c.step.ensures
