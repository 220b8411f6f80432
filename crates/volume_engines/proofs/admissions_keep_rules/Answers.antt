use Rattle.volume_engines.proofs.Steps.{admissions_keep_rules}
use Rattle.volume_engines.proofs.admissions_keep_rules.Goals as goal

pub returns : goal.returns
returns c = admissions_keep_rules
