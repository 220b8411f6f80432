use Rattle.volume_theorems.proofs.Stopping.{follows_all}
use Rattle.volume_theorems.proofs.follows_all.Goals as goal

pub returns : goal.returns
returns c = follows_all
