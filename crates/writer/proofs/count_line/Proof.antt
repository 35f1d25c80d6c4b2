-- `writer::count_line` meets its contract: the word, the number and `]`, from the front of the slice on.
-- Assumes nothing.
use borrow.Author.Rules.{rules}
use Rattle.rules.specs.Log.{count_start}
use Rattle.writer.proofs.TextLaid.{count_parts}
use Rattle.writer.proofs.WrittenLaws.{puts_as, front_end, front_laid}
use Rattle.writer.proofs.count_line.Statement.{statement}
use Rattle.writer.proofs.count_line.Tie as tie

put_word_requires : tie.Need-put_word-requires
put_word_requires c κs = search rules

returns : tie.Need-returns
unfolding count_start
returns c =
    let p = puts_as c.put_word.ensures.0 (count_parts c.args.n) in
    (front_end p, front_laid p)

pub count_line_spec : {M : Type 1} → statement M
count_line_spec = tie.close (tie.spec put_word_requires returns)
