use Rattle.volume_logs.proofs.Moving.{emitted_first}
use Rattle.volume_logs.proofs.emitted_first.Goals as goal

pub returns : goal.returns
returns c = emitted_first
