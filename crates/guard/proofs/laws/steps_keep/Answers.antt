use Rattle.guard.proofs.Keeping.{steps_keep}
use Rattle.guard.proofs.laws.steps_keep.Goals as goal

pub returns : goal.returns
returns c = steps_keep
