use Rattle.volume_theorems.proofs.ByMoment.{durable_lasts_by}
use Rattle.volume_theorems.proofs.durable_lasts_by.Goals as goal

pub returns : goal.returns
returns c = durable_lasts_by
