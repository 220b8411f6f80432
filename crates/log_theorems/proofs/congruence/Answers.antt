use Rattle.log_theorems.proofs.Log.{log_of_sound}
use Rattle.log_theorems.proofs.Union.{congruence_law}
use Rattle.log_theorems.proofs.congruence.Goals as goal

pub returns : goal.returns
returns c = λ roster log F F' G m u sound. congruence_law log F F' G m u (log_of_sound roster log sound)
