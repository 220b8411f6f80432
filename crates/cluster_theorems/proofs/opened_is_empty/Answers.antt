use Rattle.cluster_theorems.proofs.Followed.{opened_is_empty}
use Rattle.cluster_theorems.proofs.opened_is_empty.Goals as goal

pub returns : goal.returns
returns c = opened_is_empty
