use Rattle.log_theorems.proofs.Log.{log_of_sound}
use Rattle.segment_theorems.proofs.Joining.{join_law}
use Rattle.segment_theorems.proofs.join_means_union.Goals as goal

pub returns : goal.returns
returns c = λ roster log F G s t new sound. join_law log F G s t new (log_of_sound roster log sound)
