use Rattle.segment_theorems.proofs.Knowing.{takes_known}
use Rattle.segment_theorems.proofs.takes_known.Goals as goal

pub returns : goal.returns
returns c = takes_known
