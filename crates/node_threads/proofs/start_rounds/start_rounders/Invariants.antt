use Rattle.std.proofs.Common.{◌≡◌, ◌+◌, ◌≤◌, length}
use Rattle.std.specs.Prelude.{sum_by, vec_len, vec_capacity}
use Rattle.node_threads.specs.Refusals.{most_listed}
use Rattle.node_threads.proofs.start_rounds.start_rounders.Given as goal

abbrev pub invariant-loop-work : goal.invariant-loop-work
invariant-loop-work g l = record {
  count : vec_len l.started + l.work-iterator.rest.len ≡ vec_len l.fn.started + vec_len l.fn.workers;
  room : vec_capacity l.started ≡ vec_capacity l.fn.started;
  most : sum_by (most_listed (λ h. h.promise.rounds)) l.started.items + sum_by (λ w. length w.rounds.now + 1) l.work-iterator.rest.items
      ≤ sum_by (most_listed (λ h. h.promise.rounds)) l.fn.started.items + sum_by (λ w. length w.rounds.now + 1) l.fn.workers.items;
}
