use Rattle.volume_theorems.proofs.Seeing.{votes_are_seen}
use Rattle.volume_theorems.proofs.votes_are_seen.Goals as goal

pub returns : goal.returns
returns c = votes_are_seen
