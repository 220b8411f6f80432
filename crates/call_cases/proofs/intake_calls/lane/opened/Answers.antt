use Rattle.std.proofs.Common.{ap}
use Rattle.call_cases.proofs.intake_calls.Relays.{all_new}
use Rattle.call_cases.proofs.intake_calls.lane.opened.Goals as goal

pub invariant_of-result : goal.invariant_of-result
invariant_of-result c =
    let opened = c.in_ok-intake in
    record {
      own = (all_new opened.intake.id c.args.senders opened.senders.items opened.ensures.senders, ap (λ t. t.intake) opened.ensures.taker);
    }
