use Rattle.std.proofs.Common.{map, take}
use Rattle.segment_core.proofs.Chained.{IsChainedTo}
use Rattle.segment_core.proofs.walk.is_chained.Given as goal

-- the records so far are chained, up to the LSN of the last one
abbrev pub invariant-loop-redo : goal.invariant-loop-redo
invariant-loop-redo l = IsChainedTo l.version (map (λ x. x.now) (take l.redo-index l.records)) l.below
