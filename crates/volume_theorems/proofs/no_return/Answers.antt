use Rattle.volume_theorems.proofs.Births.{no_return}
use Rattle.volume_theorems.proofs.no_return.Goals as goal

pub returns : goal.returns
returns c = no_return
