use Rattle.volume_engines.proofs.Running.{lives_follow_on}
use Rattle.volume_engines.proofs.lives_follow_on.Goals as goal

pub returns : goal.returns
returns c = lives_follow_on
