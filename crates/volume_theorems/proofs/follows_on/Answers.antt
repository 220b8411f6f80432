use Rattle.volume_theorems.proofs.Stopping.{follows_on}
use Rattle.volume_theorems.proofs.follows_on.Goals as goal

pub returns : goal.returns
returns c = follows_on
