use Rattle.std.proofs.Common.{◌≡◌}
use Rattle.call_cases.proofs.intake_calls.senders.take_all.Given as goal

abbrev pub invariant-loop : goal.invariant-loop
invariant-loop g l = l.taker.intake ≡ l.intake.id
