use Rattle.std.proofs.Common.{refl, rules}
use Rattle.redo_core.specs.Sets.{cuts}
use Rattle.redo_core.proofs.Scans.{next_epoch}
use Rattle.reference_model.proofs.epochs.complete_epoch.Goals as goal

pub returns : goal.returns
returns c = search rules

pub loop-epoch-preserved : goal.loop-epoch-preserved
loop-epoch-preserved c = record {
  small = c.loop-epoch-test.ensures.small refl;
  has = next_epoch (cuts c.args.facts.now) c.loop-epoch.epoch c.loop-epoch.invariant.has (c.loop-epoch-test.ensures.found.0 refl);
}
