use Rattle.volume_engines.proofs.Openings.{one_life_opens}
use Rattle.volume_engines.proofs.one_life_opens.Goals as goal

pub returns : goal.returns
returns c = one_life_opens
