use Rattle.volume_theorems.proofs.OpeningFirst.{none_overtakes}
use Rattle.volume_theorems.proofs.none_overtakes.Goals as goal

pub returns : goal.returns
returns c = none_overtakes
