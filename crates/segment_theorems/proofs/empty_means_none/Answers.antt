use Rattle.segment_theorems.proofs.Bare.{empty_means}
use Rattle.segment_theorems.proofs.empty_means_none.Goals as goal

pub returns : goal.returns
returns c = empty_means
