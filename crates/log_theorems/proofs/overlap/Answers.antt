use Rattle.log_theorems.proofs.Log.{log_of_sound}
use Rattle.log_theorems.proofs.Quorum.{overlap_law}
use Rattle.log_theorems.proofs.overlap.Goals as goal

pub returns : goal.returns
returns c = λ roster log parts reached chosen k n sound. overlap_law log parts reached chosen k n (log_of_sound roster log sound)
