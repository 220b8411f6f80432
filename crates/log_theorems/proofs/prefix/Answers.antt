use Rattle.log_theorems.proofs.Log.{log_of_sound}
use Rattle.log_theorems.proofs.Views.{prefix_law}
use Rattle.log_theorems.proofs.prefix.Goals as goal

pub returns : goal.returns
returns c = λ roster log part f n r sound. prefix_law log part f n r (log_of_sound roster log sound)
