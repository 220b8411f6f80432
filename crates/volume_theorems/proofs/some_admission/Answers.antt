use Rattle.volume_theorems.proofs.Admitting.{some_admission}
use Rattle.volume_theorems.proofs.some_admission.Goals as goal

pub returns : goal.returns
returns c = some_admission
