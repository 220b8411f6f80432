use Rattle.std.proofs.Common.{◌≡◌, ◌+◌}
use Rattle.node_threads.proofs.rounds.batch_len.Given as goal

abbrev pub invariant-loop-round : goal.invariant-loop-round
invariant-loop-round l = l.count ≡ l.round-index + 1
