use Rattle.replica.proofs.Means.{step_means}
use Rattle.replica.proofs.laws.step_means.Goals as goal

pub returns : goal.returns
returns c = step_means
