use Rattle.volume_logs.proofs.Joining.{fronts_make_durable}
use Rattle.volume_logs.proofs.fronts_make_durable.Goals as goal

pub returns : goal.returns
returns c = fronts_make_durable
