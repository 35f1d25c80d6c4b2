-- `striker::put_line` meets its contract: a struck line is nothing, and another is laid as it stands.
-- Assumes nothing.
use borrow.Author.Rules.{rules}
use native.Mathlib.Omega.{arith}
use Rattle.writer.proofs.TextLaid.{laid_text}
use Rattle.writer.proofs.WrittenLaws.{puts_nothing}
use Rattle.striker.proofs.LineLoops.{line_gone, line_stays}
use Rattle.striker.proofs.put_line.Statement.{statement}
use Rattle.striker.proofs.put_line.Tie as tie

returns : tie.Need-returns-then-struck
returns c =
    let b = c in
    puts_nothing (line_gone b.args.log.now b.args.start b.args.next c.if-struck.true) (omega (arith, b.requires.2))

sub_put_text : tie.Need-slice_bounds-put_text-count
sub_put_text c = search rules

part_put_text_start : tie.Need-slice_bounds-put_text-start
part_put_text_start c = search rules

part_put_text_end : tie.Need-slice_bounds-put_text-end
part_put_text_end c = search rules

put_text_requires : tie.Need-put_text-requires
put_text_requires c κs = search rules

same_length : tie.Need-shape_of-out
same_length c = search rules

returns_2 : tie.Need-returns
returns_2 c =
    let p = c.before.before in
    let b = p in
    laid_text (line_stays b.args.log.now b.args.start b.args.next p.if-struck.false) b.requires.2 p.put_text.ensures

pub put_line_spec : {M : Type 1} → statement M
put_line_spec =
    tie.close
    (tie.spec
    returns
    sub_put_text
    part_put_text_start
    part_put_text_end
    put_text_requires
    same_length
    returns_2)
