use Rattle.intake_queue.proofs.Hearing.{taker_writes}
use Rattle.intake_queue.proofs.intake.Intake.note_of_taker.Goals as goal

pub another-requires-clause-rule : goal.another-requires-clause-rule
another-requires-clause-rule g c = taker_writes _ _ c.taker.invariant.1
