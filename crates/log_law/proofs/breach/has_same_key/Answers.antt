use Rattle.std.proofs.Common.{arith}
use Rattle.std.proofs.lemmas.Grind.{common_steps}
use Rattle.log_law.proofs.breach.has_same_key.Goals as goal

pub returns-in_default-2 : goal.returns-in_default-2
returns-in_default-2 c = grind (arith, common_steps)

pub returns-in_default : goal.returns-in_default
returns-in_default c = grind (arith, common_steps)

pub returns-then-epoch : goal.returns-then-epoch
returns-then-epoch c = grind (arith, common_steps)

pub returns-else-epoch : goal.returns-else-epoch
returns-else-epoch c = grind (arith, common_steps)

pub returns-in-Cut-Cut : goal.returns-in-Cut-Cut
returns-in-Cut-Cut c = grind (arith, common_steps)

pub returns-in_default-3 : goal.returns-in_default-3
returns-in_default-3 c = grind (arith, common_steps)
