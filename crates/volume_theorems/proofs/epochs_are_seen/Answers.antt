use Rattle.volume_theorems.proofs.Seeing.{epochs_are_seen}
use Rattle.volume_theorems.proofs.epochs_are_seen.Goals as goal

pub returns : goal.returns
returns c = epochs_are_seen
