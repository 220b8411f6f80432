use Rattle.std.proofs.Common.{take}
use Rattle.std.specs.List.{All}
use Rattle.redo_core.specs.declared.facts.Fact.TheVariants.{Advance}
use Rattle.segment_theorems.specs.Known.{IsKnown}
use Rattle.segment_join.proofs.covering.has_waits.Given as goal

-- those so far are known
abbrev pub invariant-loop-wait : goal.invariant-loop-wait
invariant-loop-wait l = All (λ a. IsKnown l.upper (Advance a)) (take l.wait-index l.waits)
