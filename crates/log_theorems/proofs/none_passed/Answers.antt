use Rattle.log_theorems.proofs.Passed.{none_passed}
use Rattle.log_theorems.proofs.none_passed.Goals as goal

pub returns : goal.returns
returns c = none_passed
