use Rattle.volume_theorems.proofs.ByMoment.{lo_rises_by}
use Rattle.volume_theorems.proofs.lo_rises_by.Goals as goal

pub returns : goal.returns
returns c = lo_rises_by
