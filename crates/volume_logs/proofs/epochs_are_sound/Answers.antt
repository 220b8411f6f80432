use Rattle.volume_logs.proofs.Sound.{epochs_are_sound}
use Rattle.volume_logs.proofs.epochs_are_sound.Goals as goal

pub returns : goal.returns
returns c = epochs_are_sound
