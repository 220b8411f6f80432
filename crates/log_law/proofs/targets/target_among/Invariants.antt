use Rattle.log_law.specs.Targets.{IsOfPage}
use Rattle.log_law.proofs.Candidates.{IsTargetTo}
use Rattle.log_law.proofs.targets.target_among.Given as goal

abbrev pub invariant-loop-place : goal.invariant-loop-place
invariant-loop-place l = IsTargetTo l.facts l.redo (λ s. IsOfPage l.fn.page s) l.place l.target
