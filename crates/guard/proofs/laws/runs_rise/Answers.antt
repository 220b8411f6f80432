use Rattle.guard.proofs.Keeping.{runs_rise}
use Rattle.guard.proofs.laws.runs_rise.Goals as goal

pub returns : goal.returns
returns c = runs_rise
