use Rattle.std.proofs.Common.{subst}
use Rattle.node_threads.specs.Refusals.{AllStarted}
use Rattle.node_threads.proofs.Refusals.{one_not_started}
use Rattle.node_threads.proofs.ending.end_starts.Goals as goal
use Rattle.node_threads.proofs.ending.end_starts.Goals.{then-first-ne0, else-first-ne0}

pub returns-clause-told : goal.returns-clause-told
returns-clause-told g c = elim c.if-first-ne0.branch [
  | then-first-ne0 w ↦ λ all. absurd (one_not_started _ _ _ w.push_reserved.ensures.items (subst (λ r. AllStarted r.items) w.refusals-is all))
  | else-first-ne0 w ↦ λ all. w.if-first-ne0.false
]
