use Rattle.volume_logs.proofs.TwoWriters.{two_writers}
use Rattle.volume_logs.proofs.two_writers.Goals as goal

pub returns : goal.returns
returns c = two_writers
