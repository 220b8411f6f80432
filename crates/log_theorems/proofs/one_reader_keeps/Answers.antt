use Rattle.log_theorems.proofs.Single.{one_reader_keeps}
use Rattle.log_theorems.proofs.one_reader_keeps.Goals as goal

pub returns : goal.returns
returns c = one_reader_keeps
