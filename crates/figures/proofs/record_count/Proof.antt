-- N is read between the bounds that the rules give.
use native.Mathlib.Omega.{arith}
use Rattle.figures.proofs.LimitLaws.{readable, bound_read}
use Rattle.figures.proofs.record_count.Statement.{statement}
use Rattle.figures.proofs.record_count.Tie as tie

most_records_requires : tie.Need-most_records-requires
most_records_requires c κs = tt

number_from_requires : tie.Need-number_from-requires
number_from_requires c κs = omega (arith, c.most_records.ensures, readable.records)

returns : tie.Need-returns
returns c = bound_read _ _ 0 c.most_records.ensures c.number_from.ensures

pub record_count_spec : {M : Type 1} → statement M
record_count_spec = tie.close (tie.spec most_records_requires number_from_requires returns)
