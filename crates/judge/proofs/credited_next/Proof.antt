-- The marks of a credited record are the answers that are found, and its call, its square and its exchange are kept.
use Prim.Native.Nat.{ℕ, ◌+◌, ◌-◌}
use native.Mathlib.Omega.{arith}
use mathlib.Core.Path.{ap, ◌∙◌}
use borrow.Author.Rules.{rules}
use Rattle.rules.specs.Rules.{base}
use Rattle.rules.specs.Fields.{empty_or, locator}
use Rattle.reader.specs.Contact.{between}
use Rattle.judge.proofs.CountLaws.{worth_most, bit_worth}
use Rattle.judge.proofs.ToldLaws.{country_inside, exchange_from, exchange_inside_lem, exchange_short_lem, exchange_size, locator_inside_lem, locator_is_lem, locator_ruled}
use Rattle.judge.proofs.StepLaws.{credits}
use Rattle.judge.proofs.credited_next.Statement.{statement}
use Rattle.judge.proofs.credited_next.Tie as tie

-- The places of the code, each by the one before: where the exchange ends, where it and the square were looked for, and where the marks are said.
abbrev begun : tie.After-part_end-end → tie.Start
begun c = c.before.before.before.before.before.before

abbrev parted : tie.After-new_part-exchange → tie.After-part_end-end
parted c = c.before.before.before

abbrev lent : tie.After-new_square-arg-1 → tie.After-new_part-exchange
lent c = c.before.before.before.before.before

abbrev squared : tie.After-new_square-square → tie.After-new_part-exchange
squared c = lent c.before.before

abbrev claimed : tie.After-claims_country-country → tie.After-new_square-square
claimed c = c.before.before.before

abbrev start : tie.After-claims_country-country → tie.Start
start c = begun (parted (squared (claimed c)))

part_end_requires : tie.Need-part_end-end-requires
part_end_requires c κs = exchange_inside_lem c.requires.told

new_part_requires : tie.Need-new_part-exchange-requires
new_part_requires c κs =
    let ended = c.before.before in
    let start = begun ended in
    let told = start.requires.told in
    let end = ended.part_end-end.ensures in (
      (start.requires.exchanges_lie, start.requires.exchange_room, start.requires.exchange_key_room),
      (omega (arith, end, exchange_from told), omega (arith, end, exchange_inside_lem told), omega (arith, end, exchange_size told, exchange_short_lem), start.requires.exchange_short),
    )

add_new_square : tie.Need-overflow_add-end
add_new_square c = let ended = parted (lent c) in omega (arith, ended.part_end-end.ensures, exchange_inside_lem (begun ended).requires.told)

sub_new_square : tie.Need-overflow_sub-p
sub_new_square c = (locator_inside_lem (begun (parted (lent c.before))).requires.told).2

new_square_requires : tie.Need-new_square-square-requires
new_square_requires c κs =
    let ended = parted (lent c.before) in
    let first = begun ended in
    let told = first.requires.told in
    let end = ended.part_end-end.ensures in (
      omega (arith, first.requires.square_room),
      omega (arith, end, locator_inside_lem told),
      (locator_inside_lem told).1,
      ap (λ (n : ℕ). empty_or locator (between first.args.s.now (n + 1) (first.args.p.points - 1))) end ∙ ap (empty_or locator) (locator_is_lem told) ∙ locator_ruled told,
    )

claims_country_requires : tie.Need-claims_country-country-requires
claims_country_requires c κs = country_inside (begun (parted (squared c.before.before))).requires.told

cast_calls : tie.Need-overflow_cast-calls
cast_calls c = search rules

mul_calls : tie.Need-offset_bounds-calls-m
mul_calls c = omega (arith, (start c.before).requires.call_room, (start c.before).well_formed.1.1.1.1.0)

slice_write_calls : tie.Need-bounds-calls-m
slice_write_calls c = search rules

verdict_by_requires : tie.Need-verdict_by-verdict-requires
verdict_by_requires c κs = search rules

add_t23 : tie.Need-overflow_add-after
add_t23 c = omega (arith, (start c.before.before).requires.call_room, (start c.before.before).well_formed.1.1.1.1.0)

from_requires : tie.Need-from-requires
from_requires c κs = search rules

add_t27 : tie.Need-overflow_add-after-2
add_t27 c =
    let country = c.before.before.before.before in
    omega (arith, (start country).requires.square_room, (start country).well_formed.1.1.1.1.1.1.1.0, (c.from.ensures ∙ bit_worth _), worth_most (claimed country).new_square-square.result 1)

from_requires_2 : tie.Need-from-requires-2
from_requires_2 c κs = search rules

add_t29 : tie.Need-overflow_add-after-3
add_t29 c =
    let country = c.before.before.before.before.before.before in
    omega (arith, (start country).requires.exchange_key_room, (start country).well_formed.1.1.1.1.1.1.0, (c.from-2.ensures ∙ bit_worth _), worth_most (squared (claimed country)).new_part-exchange.result 1)

worth_at_requires : tie.Need-worth_at-requires
worth_at_requires c κs = search rules

same_length : tie.Need-shape_of-calls
same_length c = search rules

same_length_2 : tie.Need-shape_of-exchanges
same_length_2 c = search rules

same_length_3 : tie.Need-shape_of-exchangekeys
same_length_3 c = search rules

same_length_4 : tie.Need-shape_of-squares
same_length_4 c = search rules

returns : tie.Need-returns
returns c =
    let said = c.before.before.before.before.before in
    let country = said.before.before in
    let square = claimed country in
    let part = squared square in
    let a = (start country).args in
    credits base a.s.now a.p a.mode a.kept a.calls.now a.exchanges.now a.exchangekeys.now a.squares.now said.verdict_by-verdict.ensures (parted part).part_end-end.ensures part.new_part-exchange.ensures square.new_square-square.ensures country.claims_country-country.ensures c.worth_at.ensures (c.from.ensures ∙ bit_worth _) (c.from-2.ensures ∙ bit_worth _)

pub credited_next_spec : {M : Type 1} → statement M
credited_next_spec =
    tie.close
    (tie.spec
    part_end_requires
    new_part_requires
    add_new_square
    sub_new_square
    new_square_requires
    claims_country_requires
    cast_calls
    mul_calls
    slice_write_calls
    verdict_by_requires
    add_t23
    from_requires
    add_t27
    from_requires_2
    add_t29
    worth_at_requires
    same_length
    same_length_2
    same_length_3
    same_length_4
    returns)
