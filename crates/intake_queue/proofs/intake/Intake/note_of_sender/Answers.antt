use Rattle.intake_queue.proofs.Closing.{as_sender}
use Rattle.intake_queue.proofs.Hearing.{sender_writes}
use Rattle.intake_queue.proofs.intake.Intake.note_of_sender.Goals as goal

pub another-requires-clause-rule : goal.another-requires-clause-rule
another-requires-clause-rule g c = sender_writes _ _ (as_sender _ _ _ _ _ c.sender.invariant.1)
