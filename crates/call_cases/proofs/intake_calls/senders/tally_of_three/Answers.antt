use Rattle.std.proofs.Common.{rules}
use Rattle.call_cases.proofs.intake_calls.Relays.{both_new}
use Rattle.call_cases.proofs.intake_calls.senders.tally_of_three.Goals as goal

pub offer_and_take-first-requires-clause-senders : goal.offer_and_take-first-requires-clause-senders
offer_and_take-first-requires-clause-senders g c =
    let own = both_new c.in_ok-intake.intake.id c.in_ok-intake.senders.items c.both.result.0 c.both.result.1 c.in_ok-intake.ensures.senders c.both.ensures in
    search (rules, own)
