use Rattle.log_theorems.proofs.Log.{log_of_sound}
use Rattle.log_theorems.proofs.Union.{least_law}
use Rattle.log_theorems.proofs.least_upper_bound.Goals as goal

pub returns : goal.returns
returns c = λ roster log F G x y u sound. least_law log F G x y u (log_of_sound roster log sound)
