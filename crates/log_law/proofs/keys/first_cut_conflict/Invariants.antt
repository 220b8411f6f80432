use Rattle.log_law.specs.Keys.{KeepLaw1To}
use Rattle.log_law.proofs.Repeats.{AreFirstTo}
use Rattle.log_law.proofs.keys.first_cut_conflict.Given as goal

abbrev pub invariant-loop-place : goal.invariant-loop-place
invariant-loop-place l = record { kept : KeepLaw1To l.facts l.place; first : AreFirstTo l.facts l.place }
