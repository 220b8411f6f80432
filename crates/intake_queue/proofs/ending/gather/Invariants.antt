use Rattle.std.proofs.Common.{◌≡◌, ◌⊎◌}
use Rattle.std.specs.Prelude.{vec_len}
use Rattle.std.specs.List.{Contains}
use Rattle.crossbeam_queue.specs.Passes.{view, IsPassOf}
use Rattle.intake_queue.specs.Known.{IsTaker}
use Rattle.intake_queue.specs.Ends.{SenderData, AreSendersOf}
use Rattle.intake_queue.proofs.ending.gather.Given as goal

abbrev pub invariant-loop-sender : goal.invariant-loop-sender
invariant-loop-sender g l = record {
  own : IsPassOf l.line l.pass;
  senders : AreSendersOf l.line.table.shared.table_id l.senders.items;
  taker : IsTaker (view l.pass);
  taken : ((view l.pass).taken ≡ (view l.fn.pass).taken) × ((view l.pass).senders ≡ (view l.fn.pass).senders);
  ended : (s : SenderData) → Contains l.fn.senders.items s → Contains l.senders.items s ⊎ Contains (view l.pass).ended (s.number, s.accepted);
}

abbrev pub decreases-loop-sender : goal.decreases-loop-sender
decreases-loop-sender g l = vec_len l.senders
