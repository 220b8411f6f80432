use Rattle.log_theorems.proofs.Log.{log_of_sound}
use Rattle.log_theorems.proofs.Union.{order_law}
use Rattle.log_theorems.proofs.order_by_parts.Goals as goal

pub returns : goal.returns
returns c = λ roster log F G x y sound. order_law log F G x y (log_of_sound roster log sound)
