-- An exchange is read as the definition says: the run of its characters is the field, and is not too long.
use mathlib.Core.Path.{refl}
use Rattle.rules.specs.Fields.{exchange_character}
use Rattle.rules.specs.Rules.{base}
use Rattle.fields.proofs.RunLaws.{run, no_run, exchange_kind, exchange_long, exchange_read}
use Rattle.fields.proofs.exchange.Goals.{then-not-ends-via-then-not-ends, then-not-ends-via-else-not-ends+then-longest_exchange-end}
use Rattle.fields.proofs.exchange.Goals as goal

pub returns-then-not-ends : goal.returns-then-not-ends
returns-then-not-ends c =
    elim c.then-not-ends.branch [
      | then-not-ends-via-then-not-ends w ↦
          exchange_kind base _ _ (no_run exchange_character refl _ _ _ c.run-end.ensures c.ends.ensures (rw w.if-not-ends.true))
      | then-not-ends-via-else-not-ends+then-longest_exchange-end w ↦
          exchange_long base (run exchange_character refl _ _ _ c.run-end.ensures c.ends.ensures (rw w.if-not-ends.false))
          w.longest_exchange.ensures w.if-longest_exchange-end.true
    ]

pub returns : goal.returns
returns c =
    exchange_read base (run exchange_character refl _ _ _ c.run-end.ensures c.ends.ensures (rw c.if-not-ends.false))
    c.longest_exchange.ensures c.if-longest_exchange-end.false
