use Rattle.std.proofs.Common.{take}
use Rattle.std.specs.List.{All}
use Rattle.reference_model.proofs.Scanned.{LeavesBehind}
use Rattle.reference_model.proofs.past.is_past.Given as goal

abbrev pub invariant-loop-fact : goal.invariant-loop-fact
invariant-loop-fact l = All (LeavesBehind l.cut l.reader) (take l.fact-index l.log)
