-- `striker::put_head` meets its contract: three texts are laid one behind the other.
-- Assumes nothing.
use borrow.Author.Rules.{rules}
use native.Mathlib.Omega.{arith}
use mathlib.Core.List.{◌++◌}
use mathlib.Core.Path.{refl, sym}
use Prim.Native.Nat.{◌+◌, ◌≤◌}
use lib.ListN.{length, take, length-append}
use lib.Seq.{length-take-le}
use Rattle.rules.specs.Log.{crlf}
use Rattle.writer.proofs.TextLaid.{laid_text}
use Rattle.writer.proofs.WrittenLaws.{puts_then, puts_room}
use Rattle.writer.specs.Written.{Puts}
use Rattle.striker.specs.KeptText.{head_text}
use Rattle.striker.proofs.put_head.Statement.{statement}
use Rattle.striker.proofs.put_head.Tie as tie

slice_aggregate_put_text : tie.Need-slice_bounds-put_text-end
slice_aggregate_put_text c =
    let b = c in
    sym (length-take-le b.args.front b.args.log.now b.requires.0)

put_text_requires : tie.Need-put_text-count-requires
put_text_requires c κs = search rules

put_text_requires_2 : tie.Need-put_text-end-requires
put_text_requires_2 c κs = search rules

put_text_requires_3 : tie.Need-put_text-requires
put_text_requires_3 c κs = search rules

same_length : tie.Need-shape_of-out
same_length c = search rules

returns : tie.Need-returns
unfolding head_text crlf
returns c =
    let p = c.before.before in
    let q = p.before.before.before.before.before in
    let r = q.before.before.before.before in
    let b = r in
    let start = take b.args.front b.args.log.now in
    let line = b.args.line.now in
    let both = length-append start line in
    let all = length-append (start ++ line) crlf in
    let room : 0 + length start ≤ length b.args.out.now = omega (arith, b.requires.1, both, all) in
    let first : Puts b.args.out.now 0 start r.put_text-count.new.out r.put_text-count.result = laid_text {u = start} refl room r.put_text-count.ensures in
    let room2 = puts_room first line (omega (arith, b.requires.1, both, all)) in
    let second : Puts b.args.out.now 0 (start ++ line) q.put_text-end.new.out q.put_text-end.result = puts_then first (laid_text {u = line} refl room2 q.put_text-end.ensures) in
    let room3 = puts_room second crlf (omega (arith, b.requires.1, both, all)) in
    puts_then second (laid_text {u = crlf} refl room3 p.put_text.ensures)

pub put_head_spec : {M : Type 1} → statement M
put_head_spec =
    tie.close
    (tie.spec
    slice_aggregate_put_text
    put_text_requires
    put_text_requires_2
    put_text_requires_3
    same_length
    returns)
