use Rattle.std.proofs.Common.{◌≡◌, ◌++◌}
use Rattle.crossbeam_queue.specs.Passes.{view, IsPassOf}
use Rattle.intake_queue.specs.Known.{taker}
use Rattle.intake_queue.proofs.ending.drain.Given as goal

abbrev pub invariant-loop : goal.invariant-loop
invariant-loop g l =
    let v = view l.fn.pass in record {
      own : IsPassOf l.line l.pass;
      known : view l.pass ≡ taker (v.taken ++ l.left.items) v.senders v.made v.ended v.accepted_counts;
    }
