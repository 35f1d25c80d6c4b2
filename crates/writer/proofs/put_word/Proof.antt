-- `writer::put_word` meets its contract: the word, the number behind it, which has at most twenty digits, and the byte behind that.
-- Assumes nothing.
use Prim.Native.Nat.{◌≤◌}
use native.Mathlib.Omega.{arith}
use mathlib.Core.List.{[], ◌∷◌, ◌++◌}
use lib.ListN.{length, length-append}
use borrow.Author.Rules.{rules}
use Rattle.rules.specs.Text.{Text, digits}
use Rattle.writer.specs.Written.{Puts}
use Rattle.writer.proofs.WrittenLaws.{puts_as, puts_room, puts_then, count_most, part_whole}
use Rattle.writer.proofs.put_word.Statement.{statement}
use Rattle.writer.proofs.put_word.Tie as tie

-- The places of the code, each by the one before it.
abbrev begun : tie.After-put_part-number → tie.Start
begun c = c.before.before.before.before

abbrev worded : tie.After-put_number-end → tie.After-put_part-number
worded c = c.before.before.before.before

abbrev numbered : tie.After-put_byte → tie.After-put_number-end
numbered c = c.before.before.before.before

abbrev word : tie.Start → Text
word b = b.args.word.now

few : (b : tie.Start) → length (digits b.args.n) ≤ 20
few b = count_most b.args.n b.ranges.n.fits

-- The word is written, and then the number.
upto_word : (c : tie.After-put_part-number) → let b = begun c in Puts b.args.out.now b.args.at (word b) c.put_part-number.new.out c.put_part-number.result
upto_word c = puts_as c.put_part-number.ensures (part_whole (word (begun c)))

upto_number : (c : tie.After-put_number-end)
    → let b = begun (worded c) in
    Puts b.args.out.now b.args.at (word b ++ digits b.args.n) c.put_number-end.new.out c.put_number-end.result
upto_number c = puts_then (upto_word (worded c)) c.put_number-end.ensures

put_part_requires : tie.Need-put_part-number-requires
put_part_requires c κs = search rules

put_number_requires : tie.Need-put_number-end-requires
put_number_requires c κs =
    let p = c.before.before.before in
    let b = begun p in
    puts_room (upto_word p) (digits b.args.n) (omega (arith, few b, b.requires))

put_byte_requires : tie.Need-put_byte-requires
put_byte_requires c κs =
    let p = c.before.before.before in
    let b = begun (worded p) in
    omega (arith, puts_room (upto_number p) (b.args.last ∷ []) (omega (arith, few b, length-append (word b) (digits b.args.n), b.requires)))

same_length : tie.Need-shape_of-out
same_length c = search rules

returns : tie.Need-returns
returns c =
    let p = c.before.before in
    let n = numbered p in
    let b = begun (worded n) in
    (puts_then (upto_number n) p.put_byte.ensures, omega (arith, few b, length-append (word b) (digits b.args.n), (upto_number n).place, p.put_byte.ensures.place))

pub put_word_spec : {M : Type 1} → statement M
put_word_spec =
    tie.close
    (tie.spec put_part_requires put_number_requires put_byte_requires same_length returns)
