-- A field ends with the line, and at a semicolon.
use mathlib.Core.Path.{◌∙◌}
use borrow.Author.Tests.{le-leb}
use Rattle.fields.proofs.FieldLaws.{ends_with_line, ends_at_semicolon}
use Rattle.fields.proofs.ends.Goals as goal

pub returns-then-s-at : goal.returns-then-s-at
returns-then-s-at c = le-leb _ _ c.if-s-at.true ∙ ends_with_line _ _ c.if-s-at.true

pub returns-else-s-at : goal.returns-else-s-at
returns-else-s-at c = ends_at_semicolon _ _ c.if-s-at.false
