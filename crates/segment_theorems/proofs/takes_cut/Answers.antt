use Rattle.segment_theorems.proofs.Learnt.{takes_cut}
use Rattle.segment_theorems.proofs.takes_cut.Goals as goal

pub returns : goal.returns
returns c = takes_cut
