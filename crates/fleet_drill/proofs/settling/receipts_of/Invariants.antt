use Rattle.std.proofs.Common.{◌≡◌, ◌++◌, map, length}
use Rattle.node_threads.specs.Work.{receipts_in}
use Rattle.fleet_drill.proofs.settling.receipts_of.Given as goal

abbrev pub invariant-loop-answer : goal.invariant-loop-answer
invariant-loop-answer g l = record {
  all : map (λ r. (r.place, r.log_place)) l.receipts.items ++ receipts_in l.answer-iterator.rest.items ≡ receipts_in l.fn.answers.items;
  fits : length l.answer-iterator.rest.items ≡ l.answer-iterator.rest.len;
}
