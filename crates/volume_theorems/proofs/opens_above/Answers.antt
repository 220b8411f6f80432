use Rattle.volume_theorems.proofs.Lasting.{opens_above}
use Rattle.volume_theorems.proofs.opens_above.Goals as goal

pub returns : goal.returns
returns c = opens_above
