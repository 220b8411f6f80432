use Rattle.segment_theorems.proofs.Knowing.{no_conflict}
use Rattle.segment_theorems.proofs.no_conflict.Goals as goal

pub returns : goal.returns
returns c = no_conflict
