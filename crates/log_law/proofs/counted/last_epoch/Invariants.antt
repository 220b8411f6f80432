use Rattle.std.proofs.Common.{take}
use Rattle.redo_core.specs.CompleteEpoch.{HasCut}
use Rattle.redo_core.specs.Order.{IsGreatest}
use Rattle.redo_core.specs.Sets.{cuts}
use Rattle.log_law.proofs.counted.last_epoch.Given as goal

abbrev pub invariant-loop-fact : goal.invariant-loop-fact
invariant-loop-fact l = IsGreatest (HasCut (cuts (take l.fact-index l.facts))) l.last
