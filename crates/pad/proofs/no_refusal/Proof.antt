-- No refusal, as C's struct.
use Rattle.rules.specs.Answers.{no_refusal}
use Rattle.pad.specs.Face.{refusal_face}
use mathlib.Core.Path.{refl}
use Rattle.pad.proofs.no_refusal.Statement.{statement}
use Rattle.pad.proofs.no_refusal.Tie as tie

returns : tie.Need-returns
unfolding refusal_face no_refusal
returns c = refl

pub no_refusal_spec : {M : Type 1} → statement M
no_refusal_spec = tie.close (tie.spec returns)
