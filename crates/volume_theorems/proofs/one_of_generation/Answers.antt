use Rattle.volume_theorems.proofs.Standing.{one_of_generation}
use Rattle.volume_theorems.proofs.one_of_generation.Goals as goal

pub returns : goal.returns
returns c = one_of_generation
