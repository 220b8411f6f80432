use Rattle.segment_theorems.proofs.Knowing.{unchanged_exactly}
use Rattle.segment_theorems.proofs.unchanged_exactly.Goals as goal

pub returns : goal.returns
returns c = unchanged_exactly
