use Rattle.volume_engines.proofs.Writers.{emissions_keep_rules}
use Rattle.volume_engines.proofs.emissions_keep_rules.Goals as goal

pub returns : goal.returns
returns c = emissions_keep_rules
