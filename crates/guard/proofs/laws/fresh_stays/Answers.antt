use Rattle.guard.proofs.Keeping.{fresh_stays}
use Rattle.guard.proofs.laws.fresh_stays.Goals as goal

pub returns : goal.returns
returns c = fresh_stays
