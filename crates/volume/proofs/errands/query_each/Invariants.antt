use Rattle.std.proofs.Common.{◌≡◌}
use Rattle.volume.specs.Asking.{queries_from}
use Rattle.volume.proofs.errands.query_each.Given as goal

-- the nodes that are passed are asked
abbrev pub invariant-loop-node : goal.invariant-loop-node
invariant-loop-node l = l.actions.items ≡ queries_from l.query 0 l.node
