-- The third mark is set where it is one character, and that is the letter of a new country.
use Prim.Native.Nat.{ℕ}
use native.Mathlib.Omega.{arith}
use mathlib.Core.Path.{ap, ◌∙◌}
use borrow.Author.Tests.{ne_eqb}
use Rattle.rules.specs.Text.{same}
use Rattle.rules.specs.Fields.{new_mark}
use Rattle.fields.specs.Field.{text_at}
use Rattle.fields.proofs.PartLaws.{end_by_span}
use Rattle.reader.proofs.PlaceLaws.{no_new, new_by_byte}
use Rattle.judge.proofs.claims_country.Goals as goal

pub overflow_sub-part_end : goal.overflow_sub-part_end
overflow_sub-part_end c = omega (arith, c.part_end.ensures, end_by_span c.args.s.now c.third_mark-third.result)

pub returns-then-part_end-third-eq1 : goal.returns-then-part_end-third-eq1
returns-then-part_end-third-eq1 c =
    let s = c.args.s.now in
    new_by_byte s c.third_mark-third.result c.part_end.ensures c.if-part_end-third-eq1.true ∙ ap (λ (n : ℕ). same (text_at s n) new_mark) c.third_mark-third.ensures.0

pub returns-else-part_end-third-eq1 : goal.returns-else-part_end-third-eq1
returns-else-part_end-third-eq1 c =
    let s = c.args.s.now in
    ne_eqb _ 1 c.if-part_end-third-eq1.false ∙ no_new s c.third_mark-third.result c.part_end.ensures c.if-part_end-third-eq1.false ∙ ap (λ (n : ℕ). same (text_at s n) new_mark) c.third_mark-third.ensures.0
