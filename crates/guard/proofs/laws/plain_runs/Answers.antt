use Rattle.guard.proofs.Plainly.{plain_runs}
use Rattle.guard.proofs.laws.plain_runs.Goals as goal

pub returns : goal.returns
returns c = plain_runs
