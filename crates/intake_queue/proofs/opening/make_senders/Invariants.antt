use Rattle.std.proofs.Common.{◌≡◌, []}
use Rattle.crossbeam_queue.specs.Passes.{view, IsPassOf}
use Rattle.intake_queue.specs.Known.{taker}
use Rattle.intake_queue.specs.Ends.{AreNewSenders}
use Rattle.intake_queue.proofs.opening.make_senders.Given as goal

abbrev pub invariant-loop-before : goal.invariant-loop-before
invariant-loop-before g l = record {
  own : IsPassOf l.line l.pass;
  known : view l.pass ≡ taker [] l.senders l.before [] [];
  senders : AreNewSenders l.line.table.shared.table_id l.senders l.before l.made.items;
}
