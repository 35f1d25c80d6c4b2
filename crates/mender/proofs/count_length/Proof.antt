-- The count line is made in a slice that it fits.
-- Assumes nothing.
use borrow.Author.Rules.{rules}
use native.Mathlib.Omega.{arith}
use Rattle.writer.proofs.TextLaid.{count_short}
use Rattle.mender.proofs.count_length.Statement.{statement}
use Rattle.mender.proofs.count_length.Tie as tie

count_line_requires : tie.Need-count_line-requires
count_line_requires c κs = search rules

returns : tie.Need-returns
returns c =
    let b = c in
    (c.count_line.ensures.0, omega (arith, c.count_line.ensures.0, count_short b.args.n b.ranges.n.fits))

pub count_length_spec : {M : Type 1} → statement M
count_length_spec = tie.close (tie.spec count_line_requires returns)
