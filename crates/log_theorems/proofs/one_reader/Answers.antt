use Rattle.log_theorems.proofs.Single.{one_reader}
use Rattle.log_theorems.proofs.one_reader.Goals as goal

pub returns : goal.returns
returns c = one_reader
