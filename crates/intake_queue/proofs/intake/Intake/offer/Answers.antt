use Rattle.std.proofs.lemmas.Grind.{common_steps}
use Rattle.std.proofs.Common.{◌≡◌, sym, ap, ◌∙◌, ◌+◌, length, arith}
use Rattle.crossbeam_queue.specs.Passes.{view}
use Rattle.intake_queue.proofs.Closing.{as_sender}
use Rattle.intake_queue.proofs.Moving.{offers, holds_own}
use Rattle.intake_queue.proofs.intake.Intake.offer.Goals as goal

pub push_as-requires-clause-rule : goal.push_as-requires-clause-rule
push_as-requires-clause-rule g c =
    let v = view c.sender.inside.pass in
    let own = as_sender v _ _ _ _ c.sender.invariant.1 in
    let next = c.requires.next in
    let number : v.number ≡ c.args.sender.now.number = ap (λ u. u.number) c.sender.invariant.1 ∙ ap (λ s. s.number) c.sender.view_is in (
      offers _ _ v c.args.parcel own (ap (λ p. p.sender) next ∙ sym number)
          (ap (λ p. p.number) next ∙ ap (λ s. length s.accepted + 1) (sym c.sender.view_is)),
      holds_own _ v own,
    )

pub invariant_of-sender-in-Err : goal.invariant_of-sender-in-Err
invariant_of-sender-in-Err g c = grind (arith, common_steps)

pub invariant_of-sender : goal.invariant_of-sender
invariant_of-sender g c = grind (arith, common_steps)

pub returns-in-Ok-clause-full : goal.returns-in-Ok-clause-full
returns-in-Ok-clause-full g c = grind (arith, common_steps)

pub returns-in-Err-clause-full : goal.returns-in-Err-clause-full
returns-in-Err-clause-full g c = grind (arith, common_steps)

pub returns-in-Err-clause-err : goal.returns-in-Err-clause-err
returns-in-Err-clause-err g c = grind (arith, common_steps)

pub returns-in-Ok-clause-ok : goal.returns-in-Ok-clause-ok
returns-in-Ok-clause-ok g c = grind (arith, common_steps)
