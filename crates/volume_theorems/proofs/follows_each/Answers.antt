use Rattle.volume_theorems.proofs.Stopping.{follows_each}
use Rattle.volume_theorems.proofs.follows_each.Goals as goal

pub returns : goal.returns
returns c = follows_each
