use Rattle.volume_engines.proofs.Steps.{openings_are_durable}
use Rattle.volume_engines.proofs.openings_are_durable.Goals as goal

pub returns : goal.returns
returns c = openings_are_durable
