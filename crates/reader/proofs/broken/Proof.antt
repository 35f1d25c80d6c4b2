-- A bad field is told where there are fourteen semicolons.
use borrow.Author.Rules.{rules}
use Rattle.reader.proofs.CountLaws.{right_count, wrong_count}
use Rattle.reader.proofs.broken.Statement.{statement}
use Rattle.reader.proofs.broken.Tie as tie

semicolons_requires : tie.Need-semicolons-requires
semicolons_requires c κs = search rules

returns : tie.Need-returns-then-semicolons-eq14
returns c = right_count _ _ c.semicolons.ensures c.if-semicolons-eq14.true

returns_2 : tie.Need-returns
returns_2 c = wrong_count _ _ c.semicolons.ensures c.if-semicolons-eq14.false

pub broken_spec : {M : Type 1} → statement M
broken_spec = tie.close (tie.spec semicolons_requires returns returns_2)
