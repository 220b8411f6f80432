use Rattle.intake_queue.proofs.Closing.{as_sender}
use Rattle.intake_queue.proofs.Hearing.{sender_hears}
use Rattle.intake_queue.proofs.intake.Intake.tell_sender.Goals as goal

pub absorb-requires-clause-rule : goal.absorb-requires-clause-rule
absorb-requires-clause-rule g c = sender_hears _ _ _ _ (as_sender _ _ _ _ _ c.sender.invariant.1)
