use Rattle.replica.proofs.Restarts.{restart_means}
use Rattle.replica.proofs.laws.restart_means.Goals as goal

pub returns : goal.returns
returns c = restart_means
