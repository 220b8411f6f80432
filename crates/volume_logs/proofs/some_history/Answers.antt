use Rattle.volume_logs.proofs.Sample.{some_history}
use Rattle.volume_logs.proofs.some_history.Goals as goal

pub returns : goal.returns
returns c = some_history
