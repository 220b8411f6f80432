use Rattle.volume_theorems.proofs.Lasting.{lo_rises}
use Rattle.volume_theorems.proofs.lo_rises.Goals as goal

pub returns : goal.returns
returns c = lo_rises
