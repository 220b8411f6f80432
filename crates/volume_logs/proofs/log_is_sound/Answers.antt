use Rattle.volume_logs.proofs.Sound.{log_is_sound}
use Rattle.volume_logs.proofs.log_is_sound.Goals as goal

pub returns : goal.returns
returns c = log_is_sound
