use Rattle.volume_logs.proofs.Joining.{parts_keep_rules}
use Rattle.volume_logs.proofs.parts_keep_rules.Goals as goal

pub returns : goal.returns
returns c = parts_keep_rules
