use Rattle.std.proofs.Common.{take, ◌≡◌, ◌⊎◌}
use Rattle.std.specs.List.{All}
use Rattle.redo_core.specs.Sound.{IsAliveBelow}
use Rattle.reference_model.specs.Chained.{Follows}
use Rattle.reference_model.proofs.Scanned.{IsBelowUpTo}
use Rattle.reference_model.proofs.counted.greatest_below.Given as goal

abbrev pub invariant-loop-fact : goal.invariant-loop-fact
invariant-loop-fact l = record {
  there : (l.greatest ≡ 0) ⊎ IsAliveBelow l.log l.redo (Follows l.chain l.redo) l.greatest;
  top : All (IsBelowUpTo l.log l.redo l.chain l.greatest) (take l.fact-index l.log);
}
