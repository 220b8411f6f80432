use Rattle.std.proofs.Common.{arith}
use Rattle.std.proofs.lemmas.Grind.{common_steps}
use Rattle.framing.proofs.devices.watched.Watched.write.Goals as goal

pub returns-in-Ok-3-clause-none : goal.returns-in-Ok-3-clause-none
returns-in-Ok-3-clause-none g c = grind (arith, common_steps)

pub returns-in-Ok-2-clause-taken : goal.returns-in-Ok-2-clause-taken
returns-in-Ok-2-clause-taken g c = grind (arith, common_steps)

pub returns-in-Ok-2-clause-some : goal.returns-in-Ok-2-clause-some
returns-in-Ok-2-clause-some g c = grind (arith, common_steps)
