-- The three lines that declare bonuses and multipliers are found two lines apart.
use borrow.Author.Rules.{rules}
use mathlib.Core.Path.{◌∙◌}
use Rattle.rules.specs.Rules.{base}
use Rattle.places.proofs.LineStarts.{line_next_lem, line_on_lem, declared_told}
use Rattle.places.proofs.declared_at.Statement.{statement}
use Rattle.places.proofs.declared_at.Tie as tie

next_line_requires : tie.Need-next_line-requires
next_line_requires c κs = search rules

next_line_requires_2 : tie.Need-next_line-squares-requires
next_line_requires_2 c κs = search rules

next_line_requires_3 : tie.Need-next_line-requires-2
next_line_requires_3 c κs = search rules

next_line_requires_4 : tie.Need-next_line-exchanges-requires
next_line_requires_4 c κs = search rules

next_line_requires_5 : tie.Need-next_line-requires-3
next_line_requires_5 c κs = search rules

next_line_requires_6 : tie.Need-next_line-countries-requires
next_line_requires_6 c κs = search rules

rates_at_requires : tie.Need-rates_at-forsquares-requires
rates_at_requires c κs = search rules

rates_at_requires_2 : tie.Need-rates_at-forexchanges-requires
rates_at_requires_2 c κs = search rules

rates_at_requires_3 : tie.Need-rates_at-forcountries-requires
rates_at_requires_3 c κs = search rules

-- The places where the lines begin, each by the one in front of it: the start, that of the squares, and that of the countries.
returns : tie.Need-returns
returns c =
    let third = c.before.before.before in
    let first = third.before.before.before in
    let a = first.args in
    let s = a.s.now in
    let points = first.next_line.ensures ∙ line_next_lem s a.claims in
    let squares = first.next_line-squares.ensures ∙ line_on_lem s a.claims 1 points in
    let between = first.next_line-2.ensures ∙ line_on_lem s a.claims 2 squares in
    let exchanges = third.next_line-exchanges.ensures ∙ line_on_lem s a.claims 3 between in
    let behind = third.next_line-3.ensures ∙ line_on_lem s a.claims 4 exchanges in
    let countries = third.next_line-countries.ensures ∙ line_on_lem s a.claims 5 behind in
    declared_told s base a.claims squares exchanges countries c.rates_at-forsquares.ensures c.rates_at-forexchanges.ensures c.rates_at-forcountries.ensures

pub declared_at_spec : {M : Type 1} → statement M
declared_at_spec =
    tie.close
    (tie.spec
    next_line_requires
    next_line_requires_2
    next_line_requires_3
    next_line_requires_4
    next_line_requires_5
    next_line_requires_6
    rates_at_requires
    rates_at_requires_2
    rates_at_requires_3
    returns)
