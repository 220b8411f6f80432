use Rattle.log_law.specs.Links.{AreItemsTo}
use Rattle.log_law.proofs.links.begun_items.Given as goal

abbrev pub invariant-loop-place : goal.invariant-loop-place
invariant-loop-place l = AreItemsTo l.facts l.place l.items.items
