use Rattle.fleet_core.proofs.GoingOn.{runs_go_on, calls_go_on}
use Rattle.fleet_core.proofs.laws.runs_go_on.Goals as goal

pub returns : goal.returns
returns c = record { follows = runs_go_on; calls = calls_go_on }
