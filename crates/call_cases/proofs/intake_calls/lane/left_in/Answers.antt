use Rattle.std.proofs.Common.{◌≡◌}
use Rattle.std.proofs.lemmas.List.Elements.{All-contains}
use Rattle.intake_queue.specs.Ends.{SenderData}
use Rattle.call_cases.proofs.intake_calls.lane.left_in.Goals as goal

pub left_at_end-requires-clause-senders : goal.left_at_end-requires-clause-senders
left_at_end-requires-clause-senders g c = λ s has.
    All-contains (λ (sender : SenderData). sender.intake ≡ c.args.lane.intake.id) c.args.lane.senders.items s c.args.lane.own.0 has
