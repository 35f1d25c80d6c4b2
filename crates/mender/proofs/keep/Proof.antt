-- The log is laid as it is, where there is room.
-- Assumes nothing.
use borrow.Author.Rules.{rules}
use native.Mathlib.Omega.{arith}
use mathlib.Core.Path.{refl}
use Rattle.writer.proofs.TextLaid.{laid_text}
use Rattle.mender.proofs.AnswerLaws.{keep_none, keep_laid}
use Rattle.mender.proofs.keep.Statement.{statement}
use Rattle.mender.proofs.keep.Tie as tie

refuse_requires : tie.Need-refuse-requires
refuse_requires c κs = search rules

returns : tie.Need-returns-then-out-log
returns c =
    let b = c in
    keep_none b.args.log.now b.args.out.now c.if-out-log.true c.refuse.ensures

put_text_requires : tie.Need-put_text-requires
put_text_requires c κs = search rules

same_length : tie.Need-shape_of-out
same_length c = search rules

returns_2 : tie.Need-returns
returns_2 c =
    let p = c.before.before in
    let b = p in
    let room = p.if-out-log.false in
    keep_laid b.args.log.now b.args.out.now room (laid_text refl (omega (arith, room)) p.put_text.ensures)

pub keep_spec : {M : Type 1} → statement M
keep_spec = tie.close (tie.spec refuse_requires returns put_text_requires same_length returns_2)
