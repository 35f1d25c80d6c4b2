-- A bad field is told where a line stands.
use borrow.Author.Rules.{rules}
use native.Mathlib.Omega.{arith}
use mathlib.Core.Path.{sym, ◌∙◌}
use Rattle.rules.specs.Rules.{base}
use Rattle.reader.proofs.LineLaws.{Stood, stood}
use Rattle.reader.proofs.ParseLaws.{broken_line, broken_missing, ends_there, goes_on_there}
use Rattle.reader.proofs.broken_at.Statement.{statement}
use Rattle.reader.proofs.broken_at.Tie as tie

-- The line that was found.
found : (c : tie.In-Some) → Stood base c.args.s.now c.args.at c.in-Some.end
found c = stood base _ _ (sym c.line_end.ensures ∙ c.in-Some.is)

line_end_requires : tie.Need-line_end-requires
line_end_requires c κs = search rules

enum_known_end : tie.Need-enum_known-end
enum_known_end c = search rules

enum_told : tie.Need-enum_told-1
enum_told c = search rules

returns : tie.Need-returns-then-at-s
returns c = broken_missing base _ _ _ (sym c.line_end.ensures ∙ c.in_default.is) (goes_on_there _ _ c.if-at-s.true)

returns_2 : tie.Need-returns-in_default
returns_2 c = broken_missing base _ _ _ (sym c.line_end.ensures ∙ c.in_default.is) (ends_there _ _ c.if-at-s.false)

sub_broken : tie.Need-slice_bounds-broken-count
sub_broken c = (found c).behind

part_broken_start : tie.Need-slice_bounds-broken-start
part_broken_start c = (found c).behind

part_broken_end : tie.Need-slice_bounds-broken-end
part_broken_end c = omega (arith, (found c).within)

broken_requires : tie.Need-broken-requires
broken_requires c κs = search rules

returns_3 : tie.Need-returns
returns_3 c = c.broken.ensures ∙ broken_line base _ _ _ (sym c.line_end.ensures ∙ c.in-Some.is)

pub broken_at_spec : {M : Type 1} → statement M
broken_at_spec =
    tie.close
    (tie.spec
    line_end_requires
    enum_known_end
    enum_told
    returns
    returns_2
    sub_broken
    part_broken_start
    part_broken_end
    broken_requires
    returns_3)
