-- The byte stands behind those that were held.
-- Assumes nothing.
use Rattle.std.proofs.Common.{◌≡◌, ◌<◌, length, arith, rules}
use Rattle.rules.specs.Rules.{base}
use Rattle.link.proofs.TakenLaws.{byte_by}
use Rattle.link.proofs.TestLaws.{log_fits, line_long, takes_byte_lem}
use Rattle.link.proofs.with_byte.Goals as goal

pub bounds-line-s : goal.bounds-line-s
bounds-line-s c = let t = takes_byte_lem base _ _ c.requires in omega (arith, line_long, t.short)

pub overflow_add-result : goal.overflow_add-result
overflow_add-result c =
    let t = takes_byte_lem base _ _ c.requires in
    omega (arith, log_fits, t.room)

pub overflow_add-result-2 : goal.overflow_add-result-2
overflow_add-result-2 c =
    let t = takes_byte_lem base _ _ c.requires in
    let small : c.args.s.held < 75 = omega (arith, line_long, t.short) in
    search rules

pub returns : goal.returns
returns c =
    let t = takes_byte_lem base _ _ c.requires in
    let long : length c.args.s.line ≡ 75 = search rules in
    byte_by c.args.s c.args.b t.plain (omega (arith, line_long, long, t.short))
