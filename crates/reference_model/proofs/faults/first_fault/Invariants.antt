use Rattle.reference_model.proofs.Laws.{KeepsBefore}
use Rattle.reference_model.proofs.faults.first_fault.Given as goal

abbrev pub invariant-loop-place : goal.invariant-loop-place
invariant-loop-place l = KeepsBefore l.fn.roster l.log l.place
