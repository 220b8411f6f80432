use Rattle.volume_logs.proofs.Joining.{parts_unite}
use Rattle.volume_logs.proofs.parts_unite.Goals as goal

pub returns : goal.returns
returns c = parts_unite
