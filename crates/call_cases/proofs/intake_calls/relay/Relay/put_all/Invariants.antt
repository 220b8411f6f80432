use Rattle.std.proofs.Common.{◌≡◌, ◌+◌, ◌<◌, ◌^◌, ◌++◌, length}
use Rattle.intake_queue.specs.Parcel.{parcel_facts}
use Rattle.call_cases.proofs.intake_calls.relay.Relay.put_all.Given as goal

abbrev pub invariant-loop-fact : goal.invariant-loop-fact
invariant-loop-fact g l = record {
  done : parcel_facts l.self.sender.accepted ++ l.fact-iterator.rest.items ≡ l.fn.facts.items;
  numbers : length l.self.sender.accepted + length l.fact-iterator.rest.items < 2 ^ 64;
  room : l.self.waiting < l.self.capacity;
}
