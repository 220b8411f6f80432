use Rattle.volume_theorems.proofs.Choosing.{one_truncation}
use Rattle.volume_theorems.proofs.one_truncation.Goals as goal

pub returns : goal.returns
returns c = one_truncation
