use Rattle.std.proofs.Common.{◌≡◌, ◌+◌, ◌≤◌, length}
use Rattle.std.specs.Prelude.{vec_len, vec_capacity}
use Rattle.node_threads.proofs.rounds.run_folds.Given as goal

abbrev pub invariant-loop-context : goal.invariant-loop-context
invariant-loop-context g l = record {
  count : vec_len l.refusals + length l.left ≤ vec_len l.fn.refusals + length l.rounds;
  room : vec_capacity l.refusals ≡ vec_capacity l.fn.refusals;
}

abbrev pub decreases-loop-context : goal.decreases-loop-context
decreases-loop-context g l = length l.left
