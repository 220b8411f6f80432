use Rattle.volume_logs.proofs.Readers.{counted_is_durable}
use Rattle.volume_logs.proofs.counted_is_durable.Goals as goal

pub returns : goal.returns
returns c = counted_is_durable
