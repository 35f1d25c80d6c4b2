-- A record is added in the judge's own numbers, none of which runs over, and the last bytes are kept.
use native.Mathlib.Omega.{arith}
use mathlib.Core.Path.{◌≡◌, ap, subst, ◌∙◌}
use borrow.Author.Rules.{rules}
use Rattle.judge.specs.Count.{tallied, add_record, mode_place}
use Rattle.judge.specs.Sums.{verdict_in}
use Rattle.judge.specs.Narrow.{SmallTally, SmallModes, totals_in, low_four, counts_of, counted_more}
use Rattle.judge.proofs.NarrowLaws.{narrow_addable}
use Rattle.judge.proofs.counted_more.Statement.{statement}
use Rattle.judge.proofs.counted_more.Tie as tie

modes_of_requires : tie.Need-modes_of-list-requires
modes_of_requires c κs = search rules

tally_of_requires : tie.Need-tally_of-requires
tally_of_requires c κs = search rules

mode_place_requires : tie.Need-mode_place-requires
mode_place_requires c κs = search rules

verdict_in_requires : tie.Need-verdict_in-requires
verdict_in_requires c κs = search rules

add_record_requires : tie.Need-add_record-tally-requires
add_record_requires c κs =
    let a = c.args in
    let modes = c.modes_of-list.ensures in
    let tally = c.tally_of.ensures in
    rw (tally.0, modes.0, c.mode_place.ensures, c.verdict_in.ensures)
    (narrow_addable a.points a.c (subst SmallTally tally.0 tally.1) (subst SmallModes modes.0 modes.1) a.worth a.mode a.number (omega arith))

cast_t14 : tie.Need-overflow_cast-result
cast_t14 c = search rules

counts_of_requires : tie.Need-counts_of-requires
counts_of_requires c κs = search rules

returns : tie.Need-returns
unfolding counted_more totals_in
returns c =
    let told = c.before.before.before in
    let asked = told in
    let a = asked.args in
    let sums : tallied told.add_record-tally.result _ ≡ add_record (totals_in a.points a.c) a.worth (mode_place a.mode) (verdict_in a.number) =
    told.add_record-tally.ensures.0
    ∙ (λ i. add_record (tallied (asked.tally_of.ensures.0 i) (asked.modes_of-list.ensures.0 i)) a.worth (asked.mode_place.ensures i) (asked.verdict_in.ensures i)) in
    λ i. record { points = low_four (sums i).points; counts = (c.counts_of.ensures ∙ ap counts_of sums) i }

pub counted_more_spec : {M : Type 1} → statement M
counted_more_spec =
    tie.close
    (tie.spec
    modes_of_requires
    tally_of_requires
    mode_place_requires
    verdict_in_requires
    add_record_requires
    cast_t14
    counts_of_requires
    returns)
