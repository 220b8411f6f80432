use Rattle.volume_theorems.proofs.Lives.{one_birth}
use Rattle.volume_theorems.proofs.one_birth.Goals as goal

pub returns : goal.returns
returns c = one_birth
