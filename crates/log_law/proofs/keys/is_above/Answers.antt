use Rattle.std.proofs.Common.{arith}
use Rattle.std.proofs.lemmas.Grind.{common_steps}
use Rattle.log_law.proofs.keys.is_above.Goals as goal

pub returns-then-key-epoch : goal.returns-then-key-epoch
returns-then-key-epoch c = grind (arith, common_steps)

pub returns-then-key-epoch-2 : goal.returns-then-key-epoch-2
returns-then-key-epoch-2 c = grind (arith, common_steps)

pub returns-in-None : goal.returns-in-None
returns-in-None c = grind (arith, common_steps)

pub returns-else-key-epoch-2 : goal.returns-else-key-epoch-2
returns-else-key-epoch-2 c = grind (arith, common_steps)
