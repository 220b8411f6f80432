use Rattle.std.proofs.Common.{take}
use Rattle.std.specs.List.{All}
use Rattle.reference_model.proofs.Scanned.{IsOther}
use Rattle.reference_model.proofs.counted.is_counted.Given as goal

abbrev pub invariant-loop-fact : goal.invariant-loop-fact
invariant-loop-fact l = All (IsOther l.cut.epoch) (take l.fact-index l.log)
