use Rattle.std.proofs.Common.{arith}
use Rattle.std.proofs.lemmas.Grind.{common_steps}
use Rattle.intake_queue.proofs.Beginning.{begins}
use Rattle.intake_queue.proofs.intake.Intake.open.Goals as goal

pub ruled-requires-clause-rule : goal.ruled-requires-clause-rule
ruled-requires-clause-rule g c = begins

pub invariant_of-result : goal.invariant_of-result
invariant_of-result g c = grind (arith, common_steps)

pub returns-clause-capacity : goal.returns-clause-capacity
returns-clause-capacity g c = grind (arith, common_steps)

pub returns-clause-senders : goal.returns-clause-senders
returns-clause-senders g c = grind (arith, common_steps)

pub returns-clause-taker : goal.returns-clause-taker
returns-clause-taker g c = grind (arith, common_steps)
