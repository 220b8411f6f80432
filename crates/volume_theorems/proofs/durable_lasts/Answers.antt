use Rattle.volume_theorems.proofs.Lasting.{durable_lasts}
use Rattle.volume_theorems.proofs.durable_lasts.Goals as goal

pub returns : goal.returns
returns c = durable_lasts
