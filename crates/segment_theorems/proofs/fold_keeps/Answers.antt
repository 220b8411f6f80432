use Rattle.segment_theorems.proofs.Shed.{fold_keeps}
use Rattle.segment_theorems.proofs.fold_keeps.Goals as goal

pub returns : goal.returns
returns c = fold_keeps
