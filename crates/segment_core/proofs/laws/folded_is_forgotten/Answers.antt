use Rattle.segment_core.proofs.Forgotten.{folded_is_forgotten}
use Rattle.segment_core.proofs.laws.folded_is_forgotten.Goals as goal

pub returns : goal.returns
returns c = folded_is_forgotten
