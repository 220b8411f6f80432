use Rattle.log_theorems.proofs.Log.{log_of_sound}
use Rattle.log_theorems.proofs.Views.{finality_law}
use Rattle.log_theorems.proofs.finality.Goals as goal

pub returns : goal.returns
returns c = λ roster log part larger f g sound. finality_law log part larger f g (log_of_sound roster log sound)
