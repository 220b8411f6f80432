use Rattle.std.proofs.Common.{◌≡◌, [], length, sym, ap, subst, ◌∙◌, arith}
use Rattle.intake_queue.specs.Parcel.{AreInTurn}
use Rattle.intake_queue.specs.Ends.{new_sender}
use Rattle.call_cases.proofs.intake_calls.Relays.{only_new, none_in_turn}
use Rattle.call_cases.proofs.intake_calls.relay.Relay.open.Goals as goal

pub invariant_of-result : goal.invariant_of-result
invariant_of-result g c =
    let opened = c.in_ok-intake in
    let sender : c.only-sender.result ≡ new_sender opened.intake.id 1 1 =
    only_new opened.intake.id opened.senders.items c.only-sender.result opened.ensures.senders c.only-sender.ensures in
    let taken : opened.taker.taken ≡ [] = ap (λ t. t.taken) opened.ensures.taker in
    let none : length c.only-sender.result.accepted ≡ length opened.taker.taken =
    ap (λ s. length s.accepted) sender ∙ sym (ap length taken) in record {
      own = (ap (λ s. s.intake) sender, ap (λ t. t.intake) opened.ensures.taker);
      only = (ap (λ s. s.number) sender, ap (λ s. s.senders) sender, ap (λ t. t.senders) opened.ensures.taker);
      room = (c.requires.0, sym opened.ensures.capacity, omega arith);
      waits = omega (arith, none);
      all = c.new.ensures.items ∙ sym taken;
      in_turn = subst (AreInTurn 1) (sym taken) none_in_turn;
    }
