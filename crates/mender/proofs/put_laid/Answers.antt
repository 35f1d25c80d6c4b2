-- The text of a mended line is laid: the count line that is made, or a part of the log.
-- Assumes nothing.
use Rattle.std.proofs.Common.{◌+◌, ◌≤◌, length, sym, subst, ◌∙◌}
use Rattle.rules.specs.Text.{Text}
use Rattle.writer.proofs.WrittenLaws.{puts_as}
use Rattle.writer.proofs.TextLaid.{laid_text}
use Rattle.mender.proofs.NextLaws.{text_count, text_part}
use Rattle.mender.proofs.put_laid.Goals as goal

pub put_count-requires : goal.put_count-requires
put_count-requires c =
    let set = sym c.sets_count.ensures ∙ c.if-sets_count.true in
    subst (λ (t : Text). c.args.to + length t ≤ length c.args.out.now) (text_count c.args.s.now c.args.at c.args.follow c.args.l set) c.requires.1

pub returns-then-sets_count : goal.returns-then-sets_count
returns-then-sets_count c =
    let set = sym c.sets_count.ensures ∙ c.if-sets_count.true in
    puts_as c.put_count.ensures (sym (text_count c.args.s.now c.args.at c.args.follow c.args.l set))

pub returns : goal.returns
returns c =
    let part = sym c.sets_count.ensures ∙ c.if-sets_count.false in
    laid_text (sym (text_part c.args.s.now c.args.at c.args.follow c.args.l part)) c.requires.1 (c.put_text.ensures.answer, c.put_text.ensures.slice)
