use Rattle.log_theorems.proofs.SameSets.{agree}
use Rattle.log_theorems.proofs.only_members_count.Goals as goal

pub returns : goal.returns
returns c = agree
