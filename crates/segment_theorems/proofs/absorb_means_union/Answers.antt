use Rattle.log_theorems.proofs.Log.{log_of_sound}
use Rattle.segment_theorems.proofs.Absorbing.{absorb_law}
use Rattle.segment_theorems.proofs.absorb_means_union.Goals as goal

pub returns : goal.returns
returns c = λ roster log F G f g s new summary d sound. absorb_law log F G f g s new summary d (log_of_sound roster log sound)
