use Rattle.log_law.proofs.Breaches.{tells_broken}
use Rattle.log_law.proofs.fixed.breach_shows_broken.Goals as goal

pub returns : goal.returns
returns c = tells_broken
