use Rattle.volume_theorems.proofs.Standing.{quorums_stand}
use Rattle.volume_theorems.proofs.quorums_stand.Goals as goal

pub returns : goal.returns
returns c = quorums_stand
