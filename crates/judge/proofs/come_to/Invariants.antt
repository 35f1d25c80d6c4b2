-- What is left of the number are the counts that are left.
use Rattle.std.specs.Prelude.{◌≡◌, ◌-◌, eqb}
use Rattle.judge.proofs.SumLaws.{together}
use Rattle.judge.proofs.come_to.Given as goal

abbrev pub invariant-loop-count : goal.invariant-loop-count
invariant-loop-count l =
    eqb (together l.count-items 11 0) l.n ≡ eqb (together l.count-items (11 - l.count-index) l.count-index) l.left
