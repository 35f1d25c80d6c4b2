-- The text of the line, and CR LF behind it.
-- Assumes nothing.
use borrow.Author.Rules.{rules}
use native.Mathlib.Omega.{arith}
use mathlib.Core.Path.{refl}
use lib.ListN.{length-append}
use Rattle.rules.specs.Log.{crlf}
use Rattle.rules.specs.Text.{Text}
use Rattle.writer.proofs.WrittenLaws.{puts_then, puts_room}
use Rattle.writer.proofs.TextLaid.{laid_text}
use Rattle.mender.specs.Lines.{text_laid}
use Rattle.mender.proofs.put_line.Statement.{statement}
use Rattle.mender.proofs.put_line.Tie as tie

-- The text of the line, seen from where the code begins.
abbrev text : tie.Start → Text
text b = text_laid b.args.s.now b.args.at b.args.follow b.args.l

put_laid_requires : tie.Need-put_laid-end-requires
put_laid_requires c κs =
    let b = c.before.before.before in
    (b.requires.0, omega (arith, b.requires.1, length-append (text b) crlf))

put_text_requires : tie.Need-put_text-requires
put_text_requires c κs = search rules

same_length : tie.Need-shape_of-out
same_length c = search rules

returns : tie.Need-returns
unfolding crlf
returns c =
    let p = c.before.before in
    let t = p.before.before.before.before.before in
    let b = t.before.before.before.before.before in
    let room = puts_room t.put_laid-end.ensures crlf (omega (arith, b.requires.1, length-append (text b) crlf)) in
    puts_then t.put_laid-end.ensures (laid_text refl room p.put_text.ensures)

pub put_line_spec : {M : Type 1} → statement M
put_line_spec =
    tie.close
    (tie.spec put_laid_requires put_text_requires same_length returns)
