use Rattle.volume_engines.proofs.Steps.{takes_keep_rules}
use Rattle.volume_engines.proofs.takes_keep_rules.Goals as goal

pub returns : goal.returns
returns c = takes_keep_rules
