use Rattle.volume_logs.proofs.Resuming.{resumed_goes_on}
use Rattle.volume_logs.proofs.resumed_goes_on.Goals as goal

pub returns : goal.returns
returns c = resumed_goes_on
