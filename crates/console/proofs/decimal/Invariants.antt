-- The digits of the number are those of the rest, and behind them those that stand in the list; what stands in front of these is as it was.
use Rattle.std.proofs.Common.{◌+◌, ◌++◌, ◌≡◌, ◌<◌, take, drop, length}
use Rattle.rules.specs.Text.{digits}
use Rattle.console.proofs.decimal.Given as goal

abbrev pub invariant-loop-rest : goal.invariant-loop-rest
invariant-loop-rest l = record {
  long : length l.out ≡ 20;
  place : l.at < 20;
  room : length (digits l.rest) < l.at + 2;
  digits : digits l.n ≡ digits l.rest ++ drop (l.at + 1) l.out;
  front : take (l.at + 1) l.out ≡ take (l.at + 1) l.initial.out;
}

abbrev pub decreases-loop-rest : goal.decreases-loop-rest
decreases-loop-rest l = l.rest
