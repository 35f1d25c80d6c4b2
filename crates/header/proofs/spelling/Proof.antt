-- The bytes are compared, and where they differ the letters.
use mathlib.Core.Path.{sym, ◌∙◌}
use Rattle.header.proofs.TableLaws.{spelling_listed, spelling_respelt, spelling_differs}
use Rattle.header.proofs.spelling.Statement.{statement}
use Rattle.header.proofs.spelling.Tie as tie

begins_with_requires : tie.Need-begins_with-requires
begins_with_requires c κs = tt

returns : tie.Need-returns-then-begins_with
returns c = spelling_listed _ _ (sym c.begins_with.ensures ∙ c.if-begins_with.true)

begins_in_any_case_requires : tie.Need-begins_in_any_case-requires
begins_in_any_case_requires c κs = tt

returns_2 : tie.Need-returns-then-begins_in_any_case
returns_2 c =
    spelling_respelt _ _
    (sym c.begins_with.ensures ∙ c.if-begins_with.false)
    (sym c.begins_in_any_case.ensures ∙ c.if-begins_in_any_case.true)

returns_3 : tie.Need-returns
returns_3 c =
    spelling_differs _ _
    (sym c.begins_with.ensures ∙ c.if-begins_with.false)
    (sym c.begins_in_any_case.ensures ∙ c.if-begins_in_any_case.false)

pub spelling_spec : {M : Type 1} → statement M
spelling_spec =
    tie.close
    (tie.spec begins_with_requires returns begins_in_any_case_requires returns_2 returns_3)
