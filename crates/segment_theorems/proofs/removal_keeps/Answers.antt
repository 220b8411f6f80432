use Rattle.segment_theorems.proofs.Shed.{removal_keeps}
use Rattle.segment_theorems.proofs.removal_keeps.Goals as goal

pub returns : goal.returns
returns c = removal_keeps
