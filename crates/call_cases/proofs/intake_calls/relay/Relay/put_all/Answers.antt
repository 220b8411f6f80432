use Rattle.std.proofs.Common.{◌≡◌, ◌+◌, ◌<◌, ◌^◌, ◌++◌, length, sym, subst, arith}
use Rattle.intake_queue.specs.Parcel.{parcel_facts}
use Rattle.call_cases.proofs.intake_calls.Relays.{one_more}
use Rattle.call_cases.proofs.intake_calls.relay.Relay.put_all.Goals as goal

pub loop-fact-preserved : goal.loop-fact-preserved
loop-fact-preserved g c =
    let before = c.loop-fact in
    let after = c.put.new.self in
    let left = c.next.new.self.rest.items in
    let more = one_more before.self.sender.accepted after.sender.accepted c.in-Some.fact before.fact-iterator.rest.items left c.args.facts.items c.put.ensures c.in-Some.ensures.steps.0 before.invariant.done before.invariant.numbers in record {
      done = more.0;
      numbers = more.1;
      room = omega (arith, after.room.2, c.if-self.false);
    }

pub loop-fact-preserved-in-Continue-1 : goal.loop-fact-preserved-in-Continue-1
loop-fact-preserved-in-Continue-1 g c =
    let before = c.loop-fact in
    let after = c.put.new.self in
    let left = c.next.new.self.rest.items in
    let more = one_more before.self.sender.accepted after.sender.accepted c.in-Some.fact before.fact-iterator.rest.items left c.args.facts.items c.put.ensures c.in-Some.ensures.steps.0 before.invariant.done before.invariant.numbers in
    let same = sym c.in_ok-take.ensures.sender in record {
      done = subst (λ s. parcel_facts s.accepted ++ left ≡ c.args.facts.items) same more.0;
      numbers = subst (λ s. length s.accepted + length left < 2 ^ 64) same more.1;
      room = c.in_ok-take.ensures.waiting;
    }
