use Rattle.volume_logs.proofs.Moving.{emitted_on}
use Rattle.volume_logs.proofs.emitted_on.Goals as goal

pub returns : goal.returns
returns c = emitted_on
