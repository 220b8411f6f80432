use Rattle.guard.proofs.Keeping.{steps_rise}
use Rattle.guard.proofs.laws.steps_rise.Goals as goal

pub returns : goal.returns
returns c = steps_rise
