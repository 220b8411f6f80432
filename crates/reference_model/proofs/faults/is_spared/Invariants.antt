use Rattle.std.proofs.Common.{take}
use Rattle.std.specs.List.{All}
use Rattle.reference_model.proofs.Scanned.{IsAboveIfCounted}
use Rattle.reference_model.proofs.faults.is_spared.Given as goal

abbrev pub invariant-loop-fact : goal.invariant-loop-fact
invariant-loop-fact l = All (IsAboveIfCounted l.readers l.log l.epoch l.point) (take l.fact-index l.log)
