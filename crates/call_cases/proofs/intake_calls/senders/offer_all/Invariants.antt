use Rattle.std.proofs.Common.{◌≡◌}
use Rattle.call_cases.proofs.intake_calls.senders.offer_all.Given as goal

abbrev pub invariant-loop-fact : goal.invariant-loop-fact
invariant-loop-fact g l = l.sender.intake ≡ l.intake.id
