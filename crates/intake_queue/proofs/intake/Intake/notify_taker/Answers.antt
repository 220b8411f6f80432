use Rattle.intake_queue.proofs.Hearing.{taker_hears}
use Rattle.intake_queue.proofs.intake.Intake.notify_taker.Goals as goal

pub absorb-requires-clause-rule : goal.absorb-requires-clause-rule
absorb-requires-clause-rule g c = taker_hears _ _ _ _ c.taker.invariant.1
