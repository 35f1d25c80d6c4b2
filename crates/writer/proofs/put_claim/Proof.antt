-- `writer::put_claim` meets its contract: the copied part, and the number behind it.
-- Assumes nothing.
use Prim.Native.Nat.{◌-◌}
use native.Mathlib.Omega.{arith}
use mathlib.Core.Path.{◌≡◌}
use lib.ListN.{length, length-append}
use borrow.Author.Rules.{rules}
use Rattle.reader.specs.Contact.{between}
use Rattle.rules.specs.Text.{Text, digits}
use Rattle.writer.proofs.WrittenLaws.{puts_room, puts_then, part_length}
use Rattle.writer.proofs.put_claim.Statement.{statement}
use Rattle.writer.proofs.put_claim.Tie as tie

-- The place where the code begins, and what is copied.
abbrev begun : tie.After-put_part-start → tie.Start
begun c = c.before.before.before.before

abbrev part : tie.Start → Text
part c = let a = c.args in between a.s.now a.from a.to

put_part_requires : tie.Need-put_part-start-requires
put_part_requires c κs =
    let b = c.before.before.before in
    let a = b.args in
    let l : length (part b) ≡ a.to - a.from = part_length a.s.now a.from a.to b.requires.0 b.requires.1 in
    (b.requires.0, b.requires.1, omega (arith, l, length-append (part b) (digits a.n), b.requires.2))

put_number_requires : tie.Need-put_number-requires
put_number_requires c κs =
    let p = c.before.before.before in
    let b = begun p in
    puts_room p.put_part-start.ensures (digits b.args.n) (omega (arith, length-append (part b) (digits b.args.n), b.requires.2))

same_length : tie.Need-shape_of-out
same_length c = search rules

returns : tie.Need-returns
returns c = let n = c in puts_then n.put_part-start.ensures n.put_number.ensures

pub put_claim_spec : {M : Type 1} → statement M
put_claim_spec = tie.close (tie.spec put_part_requires put_number_requires same_length returns)
