use Rattle.volume_theorems.proofs.Contents.{fronts_reach}
use Rattle.volume_theorems.proofs.fronts_reach.Goals as goal

pub returns : goal.returns
returns c = fronts_reach
