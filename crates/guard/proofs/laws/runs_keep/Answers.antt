use Rattle.guard.proofs.Keeping.{runs_keep}
use Rattle.guard.proofs.laws.runs_keep.Goals as goal

pub returns : goal.returns
returns c = runs_keep
