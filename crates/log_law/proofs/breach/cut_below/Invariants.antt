use Rattle.log_law.proofs.Candidates.{EachBefore}
use Rattle.log_law.proofs.Breaches.{IsBelowBy}
use Rattle.log_law.proofs.breach.cut_below.Given as goal

abbrev pub invariant-loop-place : goal.invariant-loop-place
invariant-loop-place l = EachBefore l.facts (λ f. IsBelowBy l.facts l.lows l.advance f → ⊥) l.place
