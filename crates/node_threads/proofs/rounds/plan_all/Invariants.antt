use Rattle.std.proofs.Common.{◌≡◌, ◌+◌, ◌≤◌}
use Rattle.std.specs.Prelude.{vec_len, vec_capacity}
use Rattle.node_threads.proofs.rounds.plan_all.Given as goal

abbrev pub invariant-loop-page : goal.invariant-loop-page
invariant-loop-page g l = record {
  count : vec_len l.plans + vec_len l.refusals ≡ vec_len l.fn.refusals + l.page-index;
  more : vec_len l.fn.refusals ≤ vec_len l.refusals;
  plans : vec_capacity l.plans ≡ vec_capacity l.fn.plans;
  room : vec_capacity l.refusals ≡ vec_capacity l.fn.refusals;
}
