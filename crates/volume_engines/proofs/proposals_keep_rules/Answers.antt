use Rattle.volume_engines.proofs.Steps.{proposals_keep_rules}
use Rattle.volume_engines.proofs.proposals_keep_rules.Goals as goal

pub returns : goal.returns
returns c = proposals_keep_rules
