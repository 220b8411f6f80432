use Rattle.volume_theorems.proofs.ByMoment.{lo_is_held}
use Rattle.volume_theorems.proofs.lo_is_held.Goals as goal

pub returns : goal.returns
returns c = lo_is_held
