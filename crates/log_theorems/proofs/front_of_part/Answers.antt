use Rattle.log_theorems.proofs.Log.{log_of_sound}
use Rattle.log_theorems.proofs.OfWholeLog.{front_law}
use Rattle.log_theorems.proofs.front_of_part.Goals as goal

pub returns : goal.returns
returns c = λ roster log part p sound. front_law log part p (log_of_sound roster log sound)
