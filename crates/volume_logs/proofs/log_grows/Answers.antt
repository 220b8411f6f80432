use Rattle.volume_logs.proofs.Epochs.{log_grows}
use Rattle.volume_logs.proofs.log_grows.Goals as goal

pub returns : goal.returns
returns c = log_grows
