use Rattle.std.proofs.Common.{◌∷◌, [], length, sym, ap, subst, ◌∙◌, arith, length-append}
use Rattle.intake_queue.specs.Parcel.{AreInTurn}
use Rattle.call_cases.proofs.intake_calls.relay.Relay.put.Goals as goal

pub invariant_of-self : goal.invariant_of-self
invariant_of-self g c =
    let self = c.args.self.now in
    let ok = c.in-Ok-offer.ensures.ok in
    let told = c.tell_sender.ensures in
    let same = c.note_of_taker-note.ensures.same in
    let more = length-append c.tell_sender.new.sender.accepted (c.in-Ok.parcel ∷ []) in
    let taken = ap (λ t. t.taken) same in record {
      own = (ap (λ s. s.intake) ok ∙ (ap (λ s. s.intake) told ∙ self.own.0), ap (λ t. t.intake) same ∙ self.own.1);
      only = (
        ap (λ s. s.number) ok ∙ (ap (λ s. s.number) told ∙ self.only.0),
        ap (λ s. s.senders) ok ∙ (ap (λ s. s.senders) told ∙ self.only.1),
        ap (λ t. t.senders) same ∙ self.only.2,
      );
      room = (self.room.0, self.room.1, omega (arith, c.requires.room));
      waits = omega (arith, ap (λ s. length s.accepted) ok, more, ap (λ s. length s.accepted) told, ap length taken, self.waits);
      all = self.all ∙ sym taken;
      in_turn = subst (AreInTurn 1) (sym taken) self.in_turn;
    }
