use Rattle.log_theorems.proofs.FirstFaults.{one_fault, no_fault}
use Rattle.log_theorems.proofs.one_fault.Goals as goal

pub returns-clause-one : goal.returns-clause-one
returns-clause-one c = one_fault

pub returns-clause-none : goal.returns-clause-none
returns-clause-none c = no_fault
