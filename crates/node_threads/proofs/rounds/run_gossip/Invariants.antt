use Rattle.std.proofs.Common.{◌≡◌, ◌+◌, ◌≤◌}
use Rattle.std.specs.Prelude.{vec_len, vec_capacity}
use Rattle.node_threads.proofs.rounds.run_gossip.Given as goal

abbrev pub invariant-loop-asker : goal.invariant-loop-asker
invariant-loop-asker g l = record {
  count : vec_len l.refusals ≤ vec_len l.fn.refusals + l.asker-index;
  room : vec_capacity l.refusals ≡ vec_capacity l.fn.refusals;
}
