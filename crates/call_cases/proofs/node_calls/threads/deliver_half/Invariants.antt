use Rattle.std.proofs.Common.{◌≡◌}
use Rattle.node_cell.specs.Node.{IsPassOf}
use Rattle.call_cases.proofs.node_calls.threads.deliver_half.Given as goal

abbrev pub invariant-loop-step : goal.invariant-loop-step
invariant-loop-step g l = IsPassOf l.node l.pass.value × (l.seat.value.board ≡ l.board)
