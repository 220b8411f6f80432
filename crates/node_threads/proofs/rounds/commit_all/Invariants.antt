use Rattle.std.proofs.Common.{◌≡◌, ◌+◌, ◌≤◌}
use Rattle.std.specs.Prelude.{vec_len, vec_capacity}
use Rattle.node_threads.proofs.rounds.commit_all.Given as goal

abbrev pub invariant-loop-folded : goal.invariant-loop-folded
invariant-loop-folded g l = record {
  count : vec_len l.refusals + l.folded-iterator.rest.len ≤ vec_len l.fn.refusals + vec_len l.fn.folds;
  room : vec_capacity l.refusals ≡ vec_capacity l.fn.refusals;
}
