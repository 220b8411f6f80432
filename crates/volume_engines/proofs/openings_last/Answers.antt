use Rattle.volume_engines.proofs.Openings.{openings_last}
use Rattle.volume_engines.proofs.openings_last.Goals as goal

pub returns : goal.returns
returns c = openings_last
