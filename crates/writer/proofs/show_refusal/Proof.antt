-- `writer::show_refusal` meets its contract: three numbers, each behind what was written before it.
-- Assumes nothing.
use borrow.Author.Rules.{rules}
use Rattle.writer.proofs.ShownLaws.{refusal_parts}
use Rattle.writer.proofs.WrittenLaws.{puts_as, puts_then}
use Rattle.writer.proofs.show_refusal.Statement.{statement}
use Rattle.writer.proofs.show_refusal.Tie as tie

-- The places of the code, each by the one before it.
abbrev begun : tie.After-put_word-line → tie.Start
begun c = c.before.before.before.before.before

abbrev first : tie.After-put_word-field → tie.After-put_word-line
first c = c.before.before.before.before.before

abbrev second : tie.After-put_word → tie.After-put_word-field
second c = c.before.before.before.before.before

cast_put_word : tie.Need-overflow_cast-r
cast_put_word c = search rules

put_word_requires : tie.Need-put_word-line-requires
put_word_requires c κs = search rules

cast_put_word_2 : tie.Need-overflow_cast-r-2
cast_put_word_2 c = search rules

put_word_requires_2 : tie.Need-put_word-field-requires
put_word_requires_2 c κs = search rules

cast_put_word_3 : tie.Need-overflow_cast-r-3
cast_put_word_3 c = search rules

put_word_requires_3 : tie.Need-put_word-requires
put_word_requires_3 c κs = search rules

returns : tie.Need-returns
returns c =
    let p2 = second c in
    let p1 = first p2 in
    let two = puts_then p1.put_word-line.ensures.0 p2.put_word-field.ensures.0 in
    puts_as (puts_then two c.put_word.ensures.0) (refusal_parts (begun p1).args.r)

pub show_refusal_spec : {M : Type 1} → statement M
show_refusal_spec =
    tie.close
    (tie.spec
    cast_put_word
    put_word_requires
    cast_put_word_2
    put_word_requires_2
    cast_put_word_3
    put_word_requires_3
    returns)
