use Rattle.fleet_core.proofs.Determined.{one_run}
use Rattle.fleet_core.proofs.laws.one_run.Goals as goal

pub returns : goal.returns
returns c = one_run
