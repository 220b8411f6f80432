use Rattle.log_theorems.proofs.Log.{log_of_sound}
use Rattle.log_theorems.proofs.Union.{answers_law}
use Rattle.log_theorems.proofs.answers.Goals as goal

pub returns : goal.returns
returns c = λ roster log F G m f g sound. answers_law log F G m f g (log_of_sound roster log sound)
