use Rattle.log_theorems.proofs.Log.{log_of_sound}
use Rattle.segment_theorems.proofs.Replying.{reply_law}
use Rattle.segment_theorems.proofs.reply_fills.Goals as goal

pub returns : goal.returns
returns c = λ roster log G g s summary d sound. reply_law log G g s summary d (log_of_sound roster log sound)
