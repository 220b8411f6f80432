use Rattle.std.proofs.Common.{◌≡◌, ◌∷◌, ◌++◌, ◌<◌, [], length, sym, ap, subst, ◌∙◌, arith, length-append}
use Rattle.intake_queue.specs.Heard.{HasAllHeard}
use Rattle.intake_queue.specs.Parcel.{AreInTurn}
use Rattle.call_cases.proofs.intake_calls.Relays.{finds}
use Rattle.call_cases.proofs.intake_calls.relay.Relay.take.Goals as goal

pub unreachable-requires : goal.unreachable-requires
unreachable-requires g c =
    let self = c.args.self.now in
    let told = c.notify_taker.ensures in
    let count = length self.sender.accepted in
    let noted = ap (λ n. self.taker.heard ++ n.accepted) c.note_of_sender-note.ensures.note in
    let heard : c.notify_taker.new.taker.heard ≡ self.taker.heard ++ (1, count) ∷ [] =
    ap (λ t. t.heard) told ∙ (noted ∙ ap (λ k. self.taker.heard ++ (k, count) ∷ []) self.only.0) in
    let all = subst (λ xs. HasAllHeard xs c.notify_taker.new.taker.taken) heard c.in-None.ensures.empty in
    let here = subst (HasAllHeard (self.taker.heard ++ (1, count) ∷ [])) (ap (λ t. t.taken) told) all in
    let less : length self.taker.taken < count = omega (arith, self.waits, c.requires) in
    finds self.taker.taken self.taker.heard count self.in_turn here less

pub invariant_of-self : goal.invariant_of-self
invariant_of-self g c =
    let self = c.args.self.now in record {
      own = self.own;
      only = self.only;
      room = self.room;
      waits = self.waits;
      all = c.reserve.ensures.items ∙ self.all;
      in_turn = self.in_turn;
    }

pub invariant_of-self-2 : goal.invariant_of-self-2
invariant_of-self-2 g c =
    let self = c.args.self.now in
    let same = c.note_of_sender-note.ensures.same in
    let told = c.notify_taker.ensures in
    let some = c.in-Some.ensures.some in
    let one = c.in-Some.parcel ∷ [] in
    let more = length-append c.notify_taker.new.taker.taken one in
    let senders = ap (λ t. t.senders) told ∙ self.only.2 in record {
      own = (ap (λ s. s.intake) same ∙ self.own.0, ap (λ t. t.intake) some ∙ (ap (λ t. t.intake) told ∙ self.own.1));
      only = (ap (λ s. s.number) same ∙ self.only.0, ap (λ s. s.senders) same ∙ self.only.1, ap (λ t. t.senders) some ∙ senders);
      room = (self.room.0, self.room.1, omega (arith, self.room.2));
      waits = omega (arith, ap (λ s. length s.accepted) same, ap (λ t. length t.taken) some, more, ap (λ t. length t.taken) told, self.waits, c.requires);
      all = c.push_reserved.ensures.items ∙ (ap (λ xs. xs ++ one) (c.reserve.ensures.items ∙ (self.all ∙ sym (ap (λ t. t.taken) told))) ∙ sym (ap (λ t. t.taken) some));
      in_turn = subst (λ n. AreInTurn n c.take_next.new.taker.taken) senders c.in-Some.ensures.in_turn;
    }
