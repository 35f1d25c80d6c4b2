-- `writer::line_behind` meets its contract.
-- Assumes nothing.
use Prim.Native.Nat.{ℕ, ◌+◌}
use native.Mathlib.Omega.{arith}
use mathlib.Core.Path.{ap}
use borrow.Author.Rules.{rules}
use Rattle.reader.proofs.PlaceLaws.{run_within}
use Rattle.rules.specs.Text.{allowed}
use Rattle.writer.specs.ClaimsText.{line_behind}
use Rattle.writer.proofs.line_behind.Statement.{statement}
use Rattle.writer.proofs.line_behind.Tie as tie

allowed_run_requires : tie.Need-allowed_run-requires
allowed_run_requires c κs = search rules

add_result : tie.Need-overflow_add-result
add_result c = omega (arith, run_within c.args.s.now allowed c.args.at, c.requires)

returns : tie.Need-returns
unfolding line_behind
returns c = ap (λ (n : ℕ). n + 2) c.allowed_run.ensures

pub line_behind_spec : {M : Type 1} → statement M
line_behind_spec = tie.close (tie.spec allowed_run_requires add_result returns)
