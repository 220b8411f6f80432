use Rattle.log_theorems.proofs.Log.{log_of_sound}
use Rattle.segment_theorems.proofs.Own.{position_law}
use Rattle.segment_theorems.proofs.same_position.Goals as goal

pub returns : goal.returns
returns c = λ roster log facts p q s sound. position_law log facts p q s (log_of_sound roster log sound)
