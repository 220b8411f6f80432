use Rattle.volume_theorems.proofs.Lasting.{lo_is_point}
use Rattle.volume_theorems.proofs.lo_is_point.Goals as goal

pub returns : goal.returns
returns c = lo_is_point
