use Rattle.volume_theorems.proofs.Choosing.{only_chosen}
use Rattle.volume_theorems.proofs.only_chosen.Goals as goal

pub returns : goal.returns
returns c = only_chosen
