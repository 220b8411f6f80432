use Rattle.log_theorems.proofs.Sampled.{sample_sound}
use Rattle.log_theorems.proofs.sample_is_sound.Goals as goal

pub returns : goal.returns
returns c = sample_sound
