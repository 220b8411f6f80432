use Rattle.std.proofs.Common.{◌≡◌}
use Rattle.intake_queue.specs.Ends.{next_parcel}
use Rattle.call_cases.proofs.intake_calls.senders.offer.Given as goal

abbrev pub invariant-loop : goal.invariant-loop
invariant-loop g l = record {
  own : l.sender.intake ≡ l.intake.id;
  next : l.parcel ≡ next_parcel l.sender l.parcel.fact;
}
