use Rattle.cluster_theorems.proofs.Followed.{cluster_follows}
use Rattle.cluster_theorems.proofs.cluster_follows.Goals as goal

pub returns : goal.returns
returns c = cluster_follows c.states_answer.ensures
