-- `console::decimal` meets its contract: the digits that are put stand behind those of the rest, and in front of them nothing changes.
-- Assumes nothing.
use Rattle.std.proofs.Common.{arith, ◌≤◌, ◌+◌, ◌-◌, ◌/◌, ◌≡◌, length, refl, append-nil}
use Rattle.std.proofs.lemmas.List.{drop_all}
use Rattle.std.proofs.Math.ListN.{length-set}
use Rattle.rules.specs.Text.{digits}
use Rattle.console.proofs.DigitLaws.{count_most, count_more, count_some, digit_turn, digit_last, front_stays}
use Rattle.console.proofs.decimal.Goals as goal

pub loop-rest-init : goal.loop-rest-init
loop-rest-init c = record {
  long = c.told-out;
  place = omega arith;
  room = omega (arith, count_most c.args.n c.ranges.n.fits);
  digits = rw (drop_all 20 c.args.out.now (omega arith), append-nil);
  front = refl;
}

pub overflow_sub-at-in-loop-rest : goal.overflow_sub-at-in-loop-rest
overflow_sub-at-in-loop-rest c = omega (arith, count_more c.loop-rest.rest (omega arith), count_some (c.loop-rest.rest / 10))

pub loop-rest-preserved : goal.loop-rest-preserved
loop-rest-preserved c =
    let at = c.loop-rest.at in
    let rest = c.loop-rest.rest in
    let more : length (digits rest) ≡ length (digits (rest / 10)) + 1 = count_more rest (omega arith) in
    let some : 1 ≤ length (digits (rest / 10)) = count_some (rest / 10) in
    let back : at - 1 + 1 ≡ at = omega arith in record {
      long = simp length-set c.loop-rest.invariant.long;
      place = omega arith;
      room = omega arith;
      digits = rw back (digit_turn c.loop-rest.out at c.args.n rest (omega arith) c.loop-rest.invariant.digits (omega arith));
      front = rw back (front_stays c.loop-rest.out c.args.out.now at _ c.loop-rest.invariant.front);
    }

pub returns-clause-digits : goal.returns-clause-digits
returns-clause-digits c =
    digit_last c.loop-rest.out c.loop-rest.at c.args.n c.loop-rest.rest (omega arith) c.loop-rest.invariant.digits (omega arith)

pub returns-clause-front : goal.returns-clause-front
returns-clause-front c = front_stays c.loop-rest.out c.args.out.now c.loop-rest.at _ c.loop-rest.invariant.front
