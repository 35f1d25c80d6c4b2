-- So many records are judged, and what is kept of them serves for the others.
use Rattle.rules.specs.Rules.{base}
use Rattle.judge.proofs.WalkLaws.{Walks}
use Rattle.judge.proofs.walk_records.Given as goal

abbrev pub invariant-loop-i : goal.invariant-loop-i
invariant-loop-i l =
    Walks base l.log l.n l.fn.verdicts l.verdicts l.calls l.exchanges l.points l.pointsends l.callkeys l.exchangekeys l.squares l.kept l.sums l.modes l.i
