use Rattle.std.proofs.Common.{◌≡◌, ◌+◌, length, take}
use Rattle.std.specs.Prelude.{sum_by}
use Rattle.node_threads.proofs.rooms.count_refusals.Given as goal

abbrev pub invariant-loop-worker : goal.invariant-loop-worker
invariant-loop-worker l = l.count ≡ sum_by (λ w. length w.rounds.now + 1) (take l.worker-index l.workers)
