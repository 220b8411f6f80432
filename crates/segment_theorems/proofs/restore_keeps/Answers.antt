use Rattle.segment_theorems.proofs.Restoring.{restore_keeps}
use Rattle.segment_theorems.proofs.restore_keeps.Goals as goal

pub returns : goal.returns
returns c = restore_keeps
