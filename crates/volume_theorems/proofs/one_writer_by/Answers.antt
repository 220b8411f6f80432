use Rattle.volume_theorems.proofs.ByMoment.{one_writer_by}
use Rattle.volume_theorems.proofs.one_writer_by.Goals as goal

pub returns : goal.returns
returns c = one_writer_by
