use Rattle.std.proofs.Common.{arith}
use Rattle.std.proofs.lemmas.Grind.{common_steps}
use Rattle.log_law.proofs.alive.AliveRecords.reach.Goals as goal

pub returns-in_ok-resize-clause-stack : goal.returns-in_ok-resize-clause-stack
returns-in_ok-resize-clause-stack c = grind (arith, common_steps)
