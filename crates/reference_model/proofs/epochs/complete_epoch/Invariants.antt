use Rattle.std.proofs.Common.{◌-◌, ◌<◌}
use Rattle.redo_core.specs.Sets.{cuts}
use Rattle.redo_core.specs.CompleteEpoch.{HasCutsTo}
use Rattle.reference_model.proofs.epochs.complete_epoch.Given as goal

abbrev pub invariant-loop-epoch : goal.invariant-loop-epoch
invariant-loop-epoch l = record { small : l.epoch < 65536; has : HasCutsTo (cuts l.facts) l.epoch }

abbrev pub decreases-loop-epoch : goal.decreases-loop-epoch
decreases-loop-epoch l = 65535 - l.epoch
