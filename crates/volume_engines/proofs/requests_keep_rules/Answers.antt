use Rattle.volume_engines.proofs.Steps.{requests_keep_rules}
use Rattle.volume_engines.proofs.requests_keep_rules.Goals as goal

pub returns : goal.returns
returns c = requests_keep_rules
