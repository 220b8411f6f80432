use Rattle.log_theorems.proofs.Log.{log_of_sound}
use Rattle.segment_theorems.proofs.Same.{meaning_law}
use Rattle.segment_theorems.proofs.same_meaning.Goals as goal

pub returns : goal.returns
returns c = λ roster log facts s m sound. meaning_law log facts s m (log_of_sound roster log sound)
