-- A record that can be counted is added to the sums, and where it cannot be they stay.
use mathlib.Core.Bool.{true}
use mathlib.Core.Path.{◌≡◌, sym, ◌∙◌}
use borrow.Author.Rules.{rules}
use borrow.Author.Tests.{not-true, not-false}
use Rattle.rules.specs.Rules.{base}
use Rattle.judge.specs.Count.{tallied, add_record}
use Rattle.judge.specs.Sums.{counts_more}
use Rattle.judge.proofs.CountLaws.{countable_addable}
use Rattle.judge.proofs.SumLaws.{more_countable, more_none, more_one}
use Rattle.judge.proofs.one_more.Statement.{statement}
use Rattle.judge.proofs.one_more.Tie as tie

-- The places: where the record is known to be one that can be counted, from where its verdict is read, and where the code begins.
abbrev countable : tie.After-verdict_in → tie.Else-not-counts_more
countable c = c.before.before.before.before.before.before

abbrev start : tie.Else-not-counts_more → tie.Start
start c = c.before.before

counts : (c : tie.Else-not-counts_more) → counts_more base (start c).args.s (start c).args.worth ≡ true
counts c = sym c.counts_more.ensures ∙ not-false _ c.if-not-counts_more.false-raw

counts_more_requires : tie.Need-counts_more-requires
counts_more_requires c κs = search rules

returns : tie.Need-returns-then-not-counts_more
returns c = more_none base _ _ _ _ (sym c.counts_more.ensures ∙ not-true _ c.if-not-counts_more.true-raw)

mode_numbers_requires : tie.Need-mode_numbers-list-requires
mode_numbers_requires c κs = search rules

mode_place_requires : tie.Need-mode_place-requires
mode_place_requires c κs = search rules

verdict_in_requires : tie.Need-verdict_in-requires
verdict_in_requires c κs = search rules

add_record_requires : tie.Need-add_record-tally-requires
add_record_requires c κs =
    let a = (start (countable c)).args in
    rw (c.mode_numbers-list.ensures, c.mode_place.ensures, c.verdict_in.ensures)
    (countable_addable (more_countable base a.s a.worth a.mode a.number (counts (countable c))))

modes_in_requires : tie.Need-modes_in-requires
modes_in_requires c κs = search rules

returns_2 : tie.Need-returns
returns_2 c =
    let asked = c.before.before.before in
    let a = (start (countable asked)).args in
    more_one base a.s a.worth a.mode a.number _ (counts (countable asked))
    (c.add_record-tally.ensures.0
    ∙ (λ i. add_record (tallied a.s.tally (asked.mode_numbers-list.ensures i)) a.worth (asked.mode_place.ensures i) (asked.verdict_in.ensures i)))
    c.modes_in.ensures

pub one_more_spec : {M : Type 1} → statement M
one_more_spec =
    tie.close
    (tie.spec
    counts_more_requires
    returns
    mode_numbers_requires
    mode_place_requires
    verdict_in_requires
    add_record_requires
    modes_in_requires
    returns_2)
