use Rattle.log_law.specs.Keys.{HasRisingKeysTo}
use Rattle.log_law.proofs.InOrder.{IsLastKey}
use Rattle.log_law.proofs.keys.has_rising_keys.Given as goal

abbrev pub invariant-loop-fact : goal.invariant-loop-fact
invariant-loop-fact l = record { rising : HasRisingKeysTo l.facts l.fact-index; last : IsLastKey l.facts l.fact-index l.last }
