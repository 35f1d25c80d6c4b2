-- A date stands there, or an ERROR record leaves it empty.
use borrow.Author.Rules.{rules}
use mathlib.Core.Path.{sym, ◌∙◌}
use Rattle.reader.proofs.FirstLaws.{date_bad, date_known, date_missed, date_missing}
use Rattle.reader.proofs.dated.Statement.{statement}
use Rattle.reader.proofs.dated.Tie as tie

date_requires : tie.Need-date-read-requires
date_requires c κs = search rules

enum_known_read : tie.Need-enum_known-read
enum_known_read c = search rules

enum_told : tie.Need-enum_told-1
enum_told c = search rules

enum_told_2 : tie.Need-enum_told-in-Empty
enum_told_2 c = search rules

third_is_error_requires : tie.Need-third_is_error-requires
third_is_error_requires c κs = search rules

returns : tie.Need-returns-then-third_is_error
returns c = date_missing _ _ (sym c.date-read.ensures ∙ c.in-Empty.is) (sym c.third_is_error.ensures ∙ c.if-third_is_error.true)

returns_2 : tie.Need-returns-in-Date
returns_2 c = date_known _ _ (sym c.date-read.ensures ∙ c.in-Date.is)

returns_3 : tie.Need-returns-in-Bad
returns_3 c = date_bad _ _ (sym c.date-read.ensures ∙ c.in-Bad.is)

returns_4 : tie.Need-returns-else-third_is_error
returns_4 c = date_missed _ _ (sym c.date-read.ensures ∙ c.in-Empty.is) (sym c.third_is_error.ensures ∙ c.if-third_is_error.false)

pub dated_spec : {M : Type 1} → statement M
dated_spec =
    tie.close
    (tie.spec
    date_requires
    enum_known_read
    enum_told
    enum_told_2
    third_is_error_requires
    returns
    returns_2
    returns_3
    returns_4)
