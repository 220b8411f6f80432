use Rattle.log_theorems.proofs.Log.{log_of_sound}
use Rattle.segment_theorems.proofs.Own.{anchor_law}
use Rattle.segment_theorems.proofs.same_anchor.Goals as goal

pub returns : goal.returns
returns c = λ roster log facts p s anchor sound. anchor_law log facts p s anchor (log_of_sound roster log sound)
