use Rattle.std.proofs.Common.{◌≡◌}
use Rattle.std.specs.Prelude.{All}
use Rattle.node_lock.specs.Passes.{AreIdle}
use Rattle.thread_cases.proofs.thread_calls.node.hands.Given as goal

abbrev pub invariant-loop-pass : goal.invariant-loop-pass
invariant-loop-pass g l = AreIdle l.node.lock l.pass-iterator.rest.items × All (λ s. s.board ≡ l.board) l.seats.items
