use Rattle.std.proofs.Common.{arith}
use Rattle.std.proofs.lemmas.Grind.{common_steps}
use Rattle.log_law.proofs.links.is_key_at_most.Goals as goal

pub returns-else-item-other-2 : goal.returns-else-item-other-2
returns-else-item-other-2 c = grind (arith, common_steps)

pub returns-then-item-other-2 : goal.returns-then-item-other-2
returns-then-item-other-2 c = grind (arith, common_steps)

pub returns-then-item-other : goal.returns-then-item-other
returns-then-item-other c = grind (arith, common_steps)
