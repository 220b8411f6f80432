use Rattle.segment_theorems.proofs.Shed.{discard_keeps}
use Rattle.segment_theorems.proofs.discard_keeps.Goals as goal

pub returns : goal.returns
returns c = discard_keeps
