use Rattle.std.proofs.Common.{ap}
use Rattle.intake_queue.proofs.Beginning.{counts}
use Rattle.intake_queue.proofs.Closing.{as_taker}
use Rattle.intake_queue.proofs.opening.count_senders.Goals as goal

pub another-requires-clause-rule : goal.another-requires-clause-rule
another-requires-clause-rule g c = let i = c.loop-counted.invariant in counts _ _ (as_taker _ _ _ _ _ _ i.known) (ap (λ u. u.made) i.known)
