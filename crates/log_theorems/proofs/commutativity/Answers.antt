use Rattle.log_theorems.proofs.SameSets.{same_meanings, turned}
use Rattle.log_theorems.proofs.commutativity.Goals as goal

pub returns : goal.returns
returns c = λ roster x y m. same_meanings roster _ _ m (turned x y)
