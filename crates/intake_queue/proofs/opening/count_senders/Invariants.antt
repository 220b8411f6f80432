use Rattle.std.proofs.Common.{◌≡◌, []}
use Rattle.crossbeam_queue.specs.Passes.{view, IsPassOf}
use Rattle.intake_queue.specs.Known.{taker}
use Rattle.intake_queue.proofs.opening.count_senders.Given as goal

abbrev pub invariant-loop-counted : goal.invariant-loop-counted
invariant-loop-counted g l = record {
  own : IsPassOf l.line l.pass;
  known : view l.pass ≡ taker [] l.counted 0 [] [];
}
