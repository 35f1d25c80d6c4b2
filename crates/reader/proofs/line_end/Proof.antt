-- A line ends where a short run of allowed characters meets CR LF.
use borrow.Author.Rules.{rules}
use native.Mathlib.Omega.{arith}
use mathlib.Core.Path.{sym, ◌∙◌}
use Rattle.rules.specs.Rules.{base}
use Rattle.reader.proofs.LineLaws.{line_found, line_missing, line_too_long}
use Rattle.reader.proofs.line_end.Statement.{statement}
use Rattle.reader.proofs.line_end.Tie as tie

allowed_run_requires : tie.Need-allowed_run-end-requires
allowed_run_requires c κs = search rules

longest_line_requires : tie.Need-longest_line-requires
longest_line_requires c κs = search rules

sub_if1 : tie.Need-overflow_sub-end
sub_if1 c = search rules

returns : tie.Need-returns-then-longest_line-end
returns c = line_too_long base _ _ _ c.allowed_run-end.ensures (omega (arith, c.longest_line.ensures, c.if-longest_line-end.true))

line_ends_requires : tie.Need-line_ends-requires
line_ends_requires c κs = search rules

returns_2 : tie.Need-returns-then-line_ends
returns_2 c =
    line_found base _ _ _ c.allowed_run-end.ensures (omega (arith, c.longest_line.ensures, c.if-longest_line-end.false)) (sym c.line_ends.ensures ∙ c.if-line_ends.true)

returns_3 : tie.Need-returns
returns_3 c = line_missing base _ _ _ c.allowed_run-end.ensures (sym c.line_ends.ensures ∙ c.if-line_ends.false)

pub line_end_spec : {M : Type 1} → statement M
line_end_spec =
    tie.close
    (tie.spec
    allowed_run_requires
    longest_line_requires
    sub_if1
    returns
    line_ends_requires
    returns_2
    returns_3)
