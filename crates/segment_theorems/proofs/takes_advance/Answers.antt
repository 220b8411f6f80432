use Rattle.segment_theorems.proofs.Learnt.{takes_advance}
use Rattle.segment_theorems.proofs.takes_advance.Goals as goal

pub returns : goal.returns
returns c = takes_advance
