-- Each turn judges one record by what was noted of it; after the last the totals are those of all.
use mathlib.Core.Path.{◌≡◌, refl}
use borrow.Author.Rules.{rules}
use Rattle.rules.specs.Rules.{base}
use Rattle.judge.proofs.CountLaws.{countable_addable}
use Rattle.judge.proofs.WalkLaws.{walks_begin, walks_end, ready, countable, walks_on}
use Rattle.judge.proofs.walk_records.Goals as goal

pub loop-i-init : goal.loop-i-init
unfolding base
loop-i-init c =
    let kept : c.default-kept.result ≡ record { calls = 0; squares = 0; exchanges = 0 } = search rules in
    rw kept (walks_begin c.requires.weighable c.no_tally-sums.ensures c.requires.modes_value refl refl refl)

pub judge_next-step-requires : goal.judge_next-step-requires
judge_next-step-requires c =
    ready c.requires.weighable c.loop-i.invariant c.loop-i-test.true c.wide.ensures.0 c.wide-in-loop-i.ensures.0 c.wide-in-loop-i-2.ensures.0 c.wide-in-loop-i-3.ensures.0 c.wide.ensures.1 c.wide-in-loop-i.ensures.1

pub add_record-sums-requires : goal.add_record-sums-requires
add_record-sums-requires c =
    countable_addable
    (countable c.requires.weighable c.loop-i.invariant c.loop-i-test.true c.wide.ensures.0 c.wide-in-loop-i.ensures.0 c.wide-in-loop-i-2.ensures.0 c.wide-in-loop-i-3.ensures.0 c.judge_next-step.ensures)

pub loop-i-preserved : goal.loop-i-preserved
loop-i-preserved c =
    let kept = c.judge_next-step.auto in
    walks_on c.requires.weighable c.loop-i.invariant c.loop-i-test.true c.wide.ensures.0 c.wide-in-loop-i.ensures.0 c.wide-in-loop-i-2.ensures.0 c.wide-in-loop-i-3.ensures.0 c.judge_next-step.ensures c.add_record-sums.ensures.totals c.add_record-sums.ensures.list c.verdict_number.ensures kept.calls kept.callkeys kept.exchanges kept.exchangekeys kept.squares

pub returns : goal.returns
returns c = walks_end c.requires.weighable c.loop-i.invariant c.loop-i-test.false
