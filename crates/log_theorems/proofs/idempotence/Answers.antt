use Rattle.log_theorems.proofs.SameSets.{same_meanings, twice}
use Rattle.log_theorems.proofs.idempotence.Goals as goal

pub returns : goal.returns
returns c = λ roster x m. same_meanings roster _ _ m (twice x)
