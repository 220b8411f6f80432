use Rattle.volume_theorems.proofs.Stopping.{stopped_follows}
use Rattle.volume_theorems.proofs.stopped_follows.Goals as goal

pub returns : goal.returns
returns c = stopped_follows
