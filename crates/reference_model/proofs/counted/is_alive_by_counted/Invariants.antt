use Rattle.std.proofs.Common.{take}
use Rattle.std.specs.List.{All}
use Rattle.reference_model.proofs.Scanned.{IsSparedIfCounted}
use Rattle.reference_model.proofs.counted.is_alive_by_counted.Given as goal

abbrev pub invariant-loop-fact : goal.invariant-loop-fact
invariant-loop-fact l = All (IsSparedIfCounted l.log l.view l.epoch l.number) (take l.fact-index l.log)
