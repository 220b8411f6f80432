use Rattle.std.proofs.Common.{◌≡◌, ◌∷◌, ◌++◌, [], ap, subst, ◌∙◌}
use Rattle.intake_queue.specs.Parcel.{AreInTurn}
use Rattle.intake_queue.specs.Left.{IsLeft}
use Rattle.call_cases.proofs.intake_calls.Relays.{all_accepted}
use Rattle.call_cases.proofs.intake_calls.relay.Relay.finish.Goals as goal

pub returns : goal.returns
returns g c =
    let self = c.args.self in
    let taken = self.taker.taken in
    let left = c.in_ok-left.left.items in
    let senders : c.push_reserved.new.self.items ≡ self.sender ∷ [] =
    c.push_reserved.ensures.items ∙ ap (λ xs. xs ++ self.sender ∷ []) c.requires.0 in
    let is_left = subst (λ xs. IsLeft xs taken left) senders c.in_ok-left.ensures.left in
    let in_turn = subst (λ n. AreInTurn n (taken ++ left)) self.only.2 c.in_ok-left.ensures.in_turn in
    c.in_ok-append.ensures.items ∙ (ap (λ xs. xs ++ left) self.all ∙ all_accepted taken left self.sender self.only.0 is_left in_turn)
