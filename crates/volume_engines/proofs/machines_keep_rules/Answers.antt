use Rattle.volume_engines.proofs.Running.{machines_keep_rules}
use Rattle.volume_engines.proofs.machines_keep_rules.Goals as goal

pub returns : goal.returns
returns c = machines_keep_rules
