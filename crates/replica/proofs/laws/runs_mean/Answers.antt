use Rattle.replica.proofs.Means.{runs_mean}
use Rattle.replica.proofs.laws.runs_mean.Goals as goal

pub returns : goal.returns
returns c = runs_mean
