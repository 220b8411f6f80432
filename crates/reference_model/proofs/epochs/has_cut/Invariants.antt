use Rattle.std.proofs.Common.{take}
use Rattle.std.specs.List.{All}
use Rattle.reference_model.proofs.Scanned.{IsOther}
use Rattle.reference_model.proofs.epochs.has_cut.Given as goal

abbrev pub invariant-loop-fact : goal.invariant-loop-fact
invariant-loop-fact l = All (IsOther l.epoch) (take l.fact-index l.facts)
