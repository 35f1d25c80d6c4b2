-- A line by itself keeps the rules where its fields do and end with it.
use borrow.Author.Rules.{rules}
use mathlib.Core.Path.{sym, ap, ◌∙◌}
use Rattle.std.specs.Prelude.{Err}
use Rattle.rules.specs.Rules.{base}
use Rattle.reader.proofs.ParseLaws.{bad_alone, kept_alone, late_alone}
use Rattle.reader.proofs.record.Statement.{statement}
use Rattle.reader.proofs.record.Tie as tie

parse_requires : tie.Need-parse-requires
parse_requires c κs = search rules

enum_known_field : tie.Need-enum_known-field
enum_known_field c = search rules

broken_requires : tie.Need-broken-requires
broken_requires c κs = search rules

enum_known_c : tie.Need-enum_known-c
enum_known_c c = search rules

returns : tie.Need-returns-then-c-line
returns c = kept_alone base _ (sym c.parse.ensures ∙ c.in-Ok.is) c.if-c-line.true

broken_requires_2 : tie.Need-broken-requires-in-Ok
broken_requires_2 c κs = search rules

returns_2 : tie.Need-returns-in-Err
returns_2 c = ap Err c.broken.ensures ∙ bad_alone base _ (sym c.parse.ensures ∙ c.in-Err.is)

returns_3 : tie.Need-returns-else-c-line
returns_3 c = ap Err c.broken-in-Ok.ensures ∙ late_alone base _ (sym c.parse.ensures ∙ c.in-Ok.is) c.if-c-line.false

pub record_spec : {M : Type 1} → statement M
record_spec =
    tie.close
    (tie.spec
    parse_requires
    enum_known_field
    broken_requires
    enum_known_c
    returns
    broken_requires_2
    returns_2
    returns_3)
