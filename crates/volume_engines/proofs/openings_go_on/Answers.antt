use Rattle.volume_engines.proofs.Below.{openings_go_on}
use Rattle.volume_engines.proofs.openings_go_on.Goals as goal

pub returns : goal.returns
returns c = openings_go_on
