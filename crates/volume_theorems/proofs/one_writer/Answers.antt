use Rattle.volume_theorems.proofs.Choosing.{one_writer}
use Rattle.volume_theorems.proofs.one_writer.Goals as goal

pub returns : goal.returns
returns c = one_writer
