use Rattle.volume_theorems.proofs.ByMoment.{epochs_in_order}
use Rattle.volume_theorems.proofs.epochs_in_order.Goals as goal

pub returns : goal.returns
returns c = epochs_in_order
