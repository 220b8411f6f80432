use Rattle.volume_engines.proofs.Naming.{lives_name_engines}
use Rattle.volume_engines.proofs.lives_name_engines.Goals as goal

pub returns : goal.returns
returns c = lives_name_engines
