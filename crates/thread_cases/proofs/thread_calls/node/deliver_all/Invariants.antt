use Rattle.std.proofs.Common.{◌≡◌}
use Rattle.node_cell.specs.Node.{IsPassOf}
use Rattle.thread_cases.proofs.thread_calls.node.deliver_all.Given as goal

abbrev pub invariant-loop-fact : goal.invariant-loop-fact
invariant-loop-fact g l = IsPassOf l.node l.pass × (l.seat.board ≡ l.board)
