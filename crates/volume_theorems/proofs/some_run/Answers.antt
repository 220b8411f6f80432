use Rattle.volume_theorems.proofs.Sample.{some_run}
use Rattle.volume_theorems.proofs.some_run.Goals as goal

pub returns : goal.returns
returns c = some_run
