use Rattle.log_law.proofs.InOrder.{AreInOrderTo}
use Rattle.log_law.proofs.links.is_in_key_order.Given as goal

abbrev pub invariant-loop-place : goal.invariant-loop-place
invariant-loop-place l = AreInOrderTo l.items l.place
