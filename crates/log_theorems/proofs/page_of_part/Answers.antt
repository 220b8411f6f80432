use Rattle.log_theorems.proofs.Log.{log_of_sound}
use Rattle.log_theorems.proofs.OfWholeLog.{page_law}
use Rattle.log_theorems.proofs.page_of_part.Goals as goal

pub returns : goal.returns
returns c = λ roster log part p page q image sound. page_law log part p page q image (log_of_sound roster log sound)
