use Rattle.std.proofs.Common.{arith}
use Rattle.std.proofs.lemmas.Grind.{common_steps}
use Rattle.reference_model.proofs.counted.is_below_on.Goals as goal

pub returns-else-number : goal.returns-else-number
returns-else-number c = grind (arith, common_steps)

pub returns-then-number : goal.returns-then-number
returns-then-number c = grind (arith, common_steps)
