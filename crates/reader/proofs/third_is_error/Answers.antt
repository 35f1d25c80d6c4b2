-- The third field begins behind two semicolons.
use native.Mathlib.Omega.{arith}
use Prim.Native.Nat.{◌+◌}
use mathlib.Core.Path.{sym, ◌∙◌}
use Rattle.reader.proofs.FirstLaws.{end_near, error_known, error_unknown, third_start}
use Rattle.reader.proofs.third_is_error.Goals as goal

pub overflow_add-first : goal.overflow_add-first
overflow_add-first c = omega (arith, end_near c.args.s.now c.args.at c.field_end-first.result c.field_end-first.ensures)

pub overflow_add-second : goal.overflow_add-second
overflow_add-second c =
    omega (
      arith,
      end_near c.args.s.now c.args.at c.field_end-first.result c.field_end-first.ensures,
      end_near c.args.s.now (c.field_end-first.result + 1) c.field_end-second.result c.field_end-second.ensures,
    )

pub returns-in_default : goal.returns-in_default
returns-in_default c =
    error_unknown _ _ 2
    (third_start _ _ _ _ c.field_end-first.ensures c.field_end-second.ensures)
    (sym c.call.ensures ∙ c.in_default.is)

pub returns : goal.returns
returns c =
    error_known _ _ 2
    (third_start _ _ _ _ c.field_end-first.ensures c.field_end-second.ensures)
    (sym c.call.ensures ∙ c.in-Some.is)
