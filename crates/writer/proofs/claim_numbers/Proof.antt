-- `writer::claim_numbers` meets its contract.
-- Assumes nothing.
use mathlib.Core.Path.{refl}
use Rattle.writer.specs.ClaimsText.{claim_numbers}
use Rattle.writer.proofs.claim_numbers.Statement.{statement}
use Rattle.writer.proofs.claim_numbers.Tie as tie

returns : tie.Need-returns
unfolding claim_numbers
returns c = refl

pub claim_numbers_spec : {M : Type 1} → statement M
claim_numbers_spec = tie.close (tie.spec returns)
