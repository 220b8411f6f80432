use Rattle.std.proofs.Common.{◌≡◌, ◌+◌, length}
use Rattle.node_threads.specs.Refusals.{AllStarted}
use Rattle.fleet_drill.proofs.settling.close_each.Given as goal

abbrev pub decreases-loop-alloc : goal.decreases-loop-alloc
decreases-loop-alloc g l = length l.worked.nodes.items

abbrev pub invariant-loop-alloc : goal.invariant-loop-alloc
invariant-loop-alloc g l = record {
  started : AllStarted l.worked.refusals.items;
  closed : length l.closed.items + length l.worked.nodes.items ≡ length l.fn.closed.items + length l.fn.worked.nodes.items;
}
