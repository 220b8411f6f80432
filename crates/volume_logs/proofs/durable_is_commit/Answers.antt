use Rattle.volume_logs.proofs.Durable.{durable_is_commit}
use Rattle.volume_logs.proofs.durable_is_commit.Goals as goal

pub returns : goal.returns
returns c = durable_is_commit
