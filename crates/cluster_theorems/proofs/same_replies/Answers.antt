use Rattle.cluster_theorems.proofs.Followed.{same_replies}
use Rattle.cluster_theorems.proofs.same_replies.Goals as goal

pub returns : goal.returns
returns c = same_replies
