use Rattle.volume_engines.proofs.Naming.{names_hold_before}
use Rattle.volume_engines.proofs.names_hold_before.Goals as goal

pub returns : goal.returns
returns c = names_hold_before
