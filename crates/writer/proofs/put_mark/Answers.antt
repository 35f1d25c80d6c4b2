-- The semicolon, and the mark behind it if there is one.
use native.Mathlib.Omega.{arith}
use mathlib.Core.List.{[], ◌∷◌}
use mathlib.Core.Path.{sym, ap}
use lib.ListN.{length}
use Rattle.writer.proofs.RecordWritten.{unmarked, marked, mark_some}
use Rattle.writer.proofs.WrittenLaws.{puts_room, puts_then, puts_as}
use Rattle.writer.proofs.put_mark.Goals as goal

pub put_byte-field-requires : goal.put_byte-field-requires
put_byte-field-requires c = omega (arith, c.requires, mark_some c.args.marked (c.args.mark ∷ []))

pub put_byte-requires : goal.put_byte-requires
put_byte-requires c =
    let both = marked (c.args.mark ∷ []) c.args.marked c.if-marked.true in
    omega (arith, puts_room c.put_byte-field.ensures (c.args.mark ∷ []) (omega (arith, c.requires, ap length both)))

pub returns-then-marked : goal.returns-then-marked
returns-then-marked c =
    puts_as (puts_then c.put_byte-field.ensures c.put_byte.ensures) (sym (marked (c.args.mark ∷ []) c.args.marked c.if-marked.true))

pub returns-else-marked : goal.returns-else-marked
returns-else-marked c = puts_as c.put_byte-field.ensures (sym (unmarked (c.args.mark ∷ []) c.args.marked c.if-marked.false))
